use native.Mathlib.Omega.{arith}
use Rattle.exports.proofs.Replied.{apply_replies}
use Rattle.exports.proofs.Short.{add_short}
use Rattle.exports.proofs.writes.gatelichen_add.Goals as goal

pub written-requires : goal.written-requires
written-requires c = omega (arith, add_short _ _ _ _ _ _ _ c.apply.ensures)

pub returns : goal.returns
returns c = apply_replies _ _ _ _ _ _ _ _ _ c.new.ensures c.apply.ensures c.written.ensures
