use native.Mathlib.Omega.{arith}
use Rattle.display.proofs.Steps.{length_first, length_later}
use Rattle.display.proofs.item_len.Goals as goal

-- `display::item_len` meets its contract.
pub returns-then-i-eq0 : goal.returns-then-i-eq0
returns-then-i-eq0 c = omega (arith, length_first c.args.i c.args.d c.if-i-eq0.true)

pub returns : goal.returns
returns c = omega (arith, length_later c.args.i c.args.d c.if-i-eq0.false)
