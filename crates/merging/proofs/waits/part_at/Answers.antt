use mathlib.Core.Path.{refl, ◌∙◌}
use Rattle.merging.proofs.WaitSteps.{part_none, part_some}
use Rattle.merging.proofs.waits.part_at.Goals as goal

pub returns-then-taken-eq0 : goal.returns-then-taken-eq0
returns-then-taken-eq0 c = part_none _ _ _ _ _ (c.index.ensures.0 ∙ c.u32_at.ensures) refl c.index.ensures.1 c.requires c.if-taken-eq0.true

pub returns : goal.returns
returns c = part_some _ _ _ _ _ _ (c.index.ensures.0 ∙ c.u32_at.ensures) refl c.index.ensures.1 c.requires c.if-taken-eq0.false (c.index-count.ensures.0 ∙ c.u32_at-2.ensures) c.index-count.ensures.1
