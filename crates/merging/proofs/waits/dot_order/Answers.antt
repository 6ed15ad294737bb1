use mathlib.Core.Path.{◌∙◌}
use Rattle.merging.proofs.OrderSteps.{dots_ordered}
use Rattle.merging.proofs.waits.dot_order.Goals as goal

pub returns : goal.returns
returns c = rw (c.u32_in.ensures, c.u32_in-2.ensures, c.u64_in.ensures, c.u64_in-2.ensures) at c.cmp.ensures ∙ dots_ordered _ _ _ _
