use mathlib.Core.Path.{sym, ◌∙◌}
use native.Mathlib.Omega.{arith}
use Rattle.merging.proofs.KeepSteps.{took_none, took_other, took_one}
use Rattle.merging.proofs.entries.Dots.take.Goals.{then-self-eq0-via-then-self-eq0, then-self-eq0-via-else-self-eq0+then-u32_in-actor}
use Rattle.merging.proofs.entries.Dots.take.Goals as goal

pub returns-then-self-eq0 : goal.returns-then-self-eq0
returns-then-self-eq0 c = elim c.then-self-eq0.branch [
  | then-self-eq0-via-then-self-eq0 w ↦ took_none _ _ _ (omega (arith, c.ranges.actor)) w.if-self-eq0.true
  | then-self-eq0-via-else-self-eq0+then-u32_in-actor w ↦ took_other _ _ _ (omega (arith, c.ranges.actor)) w.if-self-eq0.false (λ e. w.if-u32_in-actor.true (w.u32_in.ensures ∙ e))
]

pub returns : goal.returns
returns c = took_one _ _ _ (omega (arith, c.ranges.actor)) c.if-self-eq0.false (sym c.u32_in.ensures ∙ c.if-u32_in-actor.false) _ c.u64_in-counter.ensures
