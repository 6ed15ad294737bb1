use native.Mathlib.Omega.{arith}
use Rattle.exports.proofs.Replied.{replica_replies}
use Rattle.exports.proofs.Short.{merge_short}
use Rattle.exports.proofs.Orderly.{merge_orderly}
use Rattle.exports.proofs.writes.gatelichen_merge.Goals as goal

pub written-requires : goal.written-requires
written-requires c = omega (arith, merge_short _ _ _ _ _ c.merge.ensures)

pub returns : goal.returns
returns c = replica_replies _ _ _ _ _ (merge_orderly _ _) c.merge.ensures c.written.ensures
