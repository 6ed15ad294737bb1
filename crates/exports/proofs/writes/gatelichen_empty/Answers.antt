use native.Mathlib.Omega.{arith}
use Rattle.exports.proofs.Replied.{replica_replies}
use Rattle.exports.proofs.Short.{empty_short}
use Rattle.exports.proofs.Orderly.{empty_orderly}
use Rattle.exports.proofs.writes.gatelichen_empty.Goals as goal

pub written-requires : goal.written-requires
written-requires c = omega (arith, empty_short _ _ _ c.empty.ensures)

pub returns : goal.returns
returns c = replica_replies _ _ _ _ _ (empty_orderly) c.empty.ensures c.written.ensures
