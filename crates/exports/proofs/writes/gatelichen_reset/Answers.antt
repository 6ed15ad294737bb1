use native.Mathlib.Omega.{arith}
use Rattle.exports.proofs.Replied.{reset_replies}
use Rattle.exports.proofs.Short.{reset_short}
use Rattle.exports.proofs.writes.gatelichen_reset.Goals as goal

pub written-requires : goal.written-requires
written-requires c = omega (arith, reset_short _ _ _ _ _ c.reset_remove.ensures)

pub returns : goal.returns
returns c = reset_replies _ _ _ _ _ _ _ c.clock_lent.ensures c.reset_remove.ensures c.written.ensures
