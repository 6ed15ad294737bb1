use native.Mathlib.Omega.{arith}
use Rattle.exports.proofs.Replied.{apply_replies}
use Rattle.exports.proofs.Short.{remove_short}
use Rattle.exports.proofs.writes.gatelichen_remove.Goals as goal

pub written-requires : goal.written-requires
written-requires c = omega (arith, remove_short _ _ _ _ _ _ c.apply.ensures)

pub returns : goal.returns
returns c = apply_replies _ _ _ _ _ _ _ _ _ c.clock_lent.ensures c.apply.ensures c.written.ensures
