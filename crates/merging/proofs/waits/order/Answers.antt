use mathlib.Core.Path.{sym, ◌∙◌}
use native.Mathlib.Omega.{arith}
use Rattle.merging.proofs.OrderSteps.{order_begin, order_early, order_on, order_end}
use Rattle.merging.proofs.waits.order.Goals as goal

pub loop-i-init : goal.loop-i-init
loop-i-init c = order_begin _ _ _ _ _ _

pub returns-then-is_ne : goal.returns-then-is_ne
returns-then-is_ne c = let t = c.loop-i-test.true in order_early _ _ _ _ _ _ _ _ c.loop-i.invariant (omega arith) _ c.dot_order-d.ensures (sym c.is_ne.ensures ∙ c.if-is_ne.true)

pub loop-i-preserved : goal.loop-i-preserved
loop-i-preserved c = let t = c.loop-i-test.true in order_on _ _ _ _ _ _ _ _ c.loop-i.invariant (omega arith) _ c.dot_order-d.ensures (sym c.is_ne.ensures ∙ c.if-is_ne.false)

pub returns : goal.returns
returns c = let t = c.loop-i-test.false in order_end _ _ _ _ _ _ _ _ c.loop-i.invariant (omega arith) (omega arith) _ c.cmp.ensures
