use Rattle.kills.proofs.Steps.{members_are, none_above}
use Rattle.kills.specs.Laws.{length_along}
use Rattle.kills.specs.Lines.{along, raised, wait_read}
use Rattle.replica.specs.Replica.{member_rows}
use lib.ListN.{length}
use native.Mathlib.Omega.{arith}
use Prim.Native.Nat.{ℕ, ◌≤◌}
use mathlib.Core.List.{List}
use mathlib.Core.Path.{ap, ◌∙◌}
use Rattle.kills.proofs.raise_by.Goals as goal

pub returns-then-above : goal.returns-then-above
returns-then-above c =
    let a = c.args in
    c.raise_named.ensures
    ∙ ap (λ (ks : List ℕ). raised a.out.now 0 (along member_rows a.ms.now ks) a.line.now)
    (members_are a.t.now a.at c.index-q.result c.index.result c.index-q.ensures.0 (c.index.ensures.0 ∙ c.u32_at.ensures))

pub returns-else-above : goal.returns-else-above
returns-else-above c =
    let a = c.args in
    let n : length (along member_rows a.ms.now (wait_read a.t.now a.at).members) ≤ length a.ms.now = rw (length_along member_rows a.ms.now (wait_read a.t.now a.at).members) (omega arith) in
    none_above a.out.now a.floor.now (length a.ms.now) _ a.line.now (omega arith) n c.requires.2 (c.above.ensures.under c.if-above.false)
