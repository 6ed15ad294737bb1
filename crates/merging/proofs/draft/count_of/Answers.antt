use mathlib.Core.Path.{sym, ◌∙◌}
use Rattle.merging.proofs.DraftSteps.{count_found, count_on, count_end}
use Rattle.merging.proofs.draft.count_of.Goals as goal

pub returns-then-u32_at-actor : goal.returns-then-u32_at-actor
returns-then-u32_at-actor c = count_found _ _ _ _ _ _ c.loop-i.invariant c.loop-i-test.true (sym c.u32_at.ensures ∙ c.if-u32_at-actor.true) _ c.u64_at.ensures

pub loop-i-preserved : goal.loop-i-preserved
loop-i-preserved c = count_on _ _ _ _ _ _ c.loop-i.invariant c.loop-i-test.true (λ e. c.if-u32_at-actor.false (c.u32_at.ensures ∙ e))

pub returns : goal.returns
returns c = count_end _ _ _ _ _ _ c.loop-i.invariant c.loop-i-test.false
