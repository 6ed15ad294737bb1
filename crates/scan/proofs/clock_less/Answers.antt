use mathlib.Core.Path.{◌∙◌}
use native.Mathlib.Omega.{arith}
use Rattle.scan.proofs.Order.{clocks_less}
use Rattle.scan.proofs.clock_less.Goals as goal

pub dots_order-requires : goal.dots_order-requires
dots_order-requires c = (λ h. let x = c.requires.2.room (omega arith) in omega arith, λ h. let y = c.requires.3.room (omega arith) in omega arith)

pub returns : goal.returns
returns c = let a = c.args in c.is_lt.ensures ∙ clocks_less a.s.now a.p a.q _ _ _ (c.index-n.ensures.0 ∙ c.u32_at.ensures) (c.index-m.ensures.0 ∙ c.u32_at-2.ensures) c.dots_order.ensures
