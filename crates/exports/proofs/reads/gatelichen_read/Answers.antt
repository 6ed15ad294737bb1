use native.Mathlib.Omega.{arith}
use Rattle.exports.proofs.Replied.{read_by}
use Rattle.exports.proofs.Short.{read_short}
use Rattle.exports.proofs.reads.gatelichen_read.Goals as goal

pub written-requires : goal.written-requires
written-requires c = let l = rw c.in-Ok.is at (read_short _ _ _ _ c.read-x.ensures) in omega (arith, l)

pub returns-in-Ok : goal.returns-in-Ok
returns-in-Ok c = read_by _ _ _ _ _ _ c.read-x.ensures c.in-Ok.is c.written.ensures

pub returns-in-Err : goal.returns-in-Err
returns-in-Err c = read_by _ _ _ _ _ _ c.read-x.ensures c.in-Err.is c.written-in-Err.ensures
