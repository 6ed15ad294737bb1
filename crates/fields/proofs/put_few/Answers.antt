use Rattle.fields.proofs.Steps.{member_step, member_end, members_none, members_done}
use Rattle.layout.specs.Rows.{encode_members}
use lib.Seq.{sets}
use lib.ListN.{drop}
use native.Mathlib.Omega.{arith}
use Prim.Native.Nat.{ℕ, ◌+◌}
use mathlib.Core.List.{List}
use mathlib.Core.Path.{sym, ap, ◌∙◌}
use borrow.Author.Rules.{rules}
use Rattle.fields.proofs.put_few.Goals as goal

pub returns-then-s-at : goal.returns-then-s-at
returns-then-s-at c = members_none c.args.members.now _ _ (omega arith)

pub loop-member-preserved : goal.loop-member-preserved
loop-member-preserved c =
    let l = c.loop-member in
    let ms = c.args.members.now in
    (search rules, search rules, ap (λ (r : List ℕ). sets r (l.place + 4) (encode_members (drop (l.member-index + 1) ms))) c.put_u32-in-loop-member.ensures ∙ member_step l.s ms l.place l.member-index c.loop-member-test.true ∙ l.invariant.2)

pub returns : goal.returns
returns c =
    let l = c.loop-member in
    let a = c.args in
    let ms = a.members.now in
    let w = member_end l.s ms l.place l.member-index c.loop-member-test.false in
    members_done ms a.s.now l.s a.at (sym w ∙ l.invariant.2 ∙ ap (λ (r : List ℕ). sets r (a.at + 4) (encode_members ms)) c.put_u32.ensures)
