use Rattle.fields.proofs.Steps.{put_none, put_done}
use Rattle.dots.specs.Dot.{no_dot}
use lib.ListN.{get_or, take}
use Rattle.fields.proofs.Steps.{store_step, store_end}
use lib.ListN.{length}
use native.Mathlib.Omega.{arith}
use mathlib.Core.Path.{◌≡◌, refl, sym, ◌∙◌}
use borrow.Author.Rules.{rules}
use Rattle.fields.proofs.put_clock.Goals as goal

pub returns-then-s-at : goal.returns-then-s-at
returns-then-s-at c =
    let a = c.args in
    let long : length a.c.dots ≡ 16 = search rules in
    put_none _ _ a.c.len _ a.c.dots long c.min-n.ensures (omega arith)

pub loop-d-preserved : goal.loop-d-preserved
loop-d-preserved c =
    let l = c.loop-d in
    let ds = take c.min-n.result c.args.c.dots in
    (search rules, search rules, cc (store_step l.s ds l.p l.d-index (get_or ds l.d-index no_dot) c.loop-d-test.true refl))

pub returns : goal.returns
returns c =
    let l = c.loop-d in
    let a = c.args in
    let n = c.min-n.result in
    let long : length a.c.dots ≡ 16 = search rules in
    let w = store_end l.s (take n a.c.dots) l.p l.d-index c.loop-d-test.false in
    put_done a.s.now a.at a.c.len n a.c.dots long c.min-n.ensures l.s (sym w ∙ l.invariant.2 ∙ cc)
