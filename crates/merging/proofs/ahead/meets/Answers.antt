use Rattle.merging.proofs.AheadSteps.{met_none, met_yes, met_no}
use mathlib.Core.Path.{sym, ◌∙◌}
use native.Mathlib.Omega.{arith}
use Rattle.merging.proofs.ahead.meets.Goals as goal

pub returns-then-left-eq0 : goal.returns-then-left-eq0
returns-then-left-eq0 c = met_none _ _ _ _ (omega (arith, c.ranges.key)) c.if-left-eq0.true

pub returns-then-u32_at-key : goal.returns-then-u32_at-key
returns-then-u32_at-key c = met_yes _ _ _ _ (omega (arith, c.ranges.key)) c.if-left-eq0.false (sym c.u32_at.ensures ∙ c.if-u32_at-key.true)

pub returns-else-u32_at-key : goal.returns-else-u32_at-key
returns-else-u32_at-key c = met_no _ _ _ _ (omega (arith, c.ranges.key)) c.if-left-eq0.false (λ e. c.if-u32_at-key.false (c.u32_at.ensures ∙ e))
