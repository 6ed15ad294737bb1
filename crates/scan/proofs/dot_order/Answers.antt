use mathlib.Core.Path.{◌∙◌}
use Rattle.scan.proofs.Order.{dots_ordered}
use Rattle.scan.proofs.dot_order.Goals as goal

pub returns : goal.returns
returns c = rw (c.u32_in.ensures, c.u32_in-2.ensures, c.u64_in.ensures, c.u64_in-2.ensures) at c.cmp.ensures ∙ dots_ordered _ _ _ _
