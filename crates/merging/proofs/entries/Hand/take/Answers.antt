use mathlib.Core.Path.{sym, ◌∙◌}
use native.Mathlib.Omega.{arith}
use Rattle.merging.proofs.RowSteps.{row_none, row_other, row_this}
use Rattle.merging.proofs.entries.Hand.take.Goals.{then-self-eq0-via-then-self-eq0, then-self-eq0-via-else-self-eq0+then-u32_at-member}
use Rattle.merging.proofs.entries.Hand.take.Goals as goal

pub returns-then-self-eq0 : goal.returns-then-self-eq0
returns-then-self-eq0 c = elim c.then-self-eq0.branch [
  | then-self-eq0-via-then-self-eq0 w ↦ row_none _ _ _ (omega (arith, c.ranges.member)) w.if-self-eq0.true
  | then-self-eq0-via-else-self-eq0+then-u32_at-member w ↦ row_other _ _ _ (omega (arith, c.ranges.member)) w.if-self-eq0.false (λ e. w.if-u32_at-member.true (w.u32_at.ensures ∙ e))
]

pub returns : goal.returns
returns c = let n = c.next.ensures in row_this _ _ _ (omega (arith, c.ranges.member)) c.if-self-eq0.false (sym c.u32_at.ensures ∙ c.if-u32_at-member.false) _ _ n.0 n.1 n.2 n.3 n.4
