use Rattle.exports.proofs.Replied.{clock_answered, clock_refused}
use Rattle.exports.proofs.reads.gatelichen_clock.Goals as goal

pub returns-in-Ok : goal.returns-in-Ok
returns-in-Ok c = clock_answered _ _ _ _ _ _ _ c.clock-x.ensures c.in-Ok.is c.bytes_of.ensures c.put.ensures

pub returns-in-Err : goal.returns-in-Err
returns-in-Err c = clock_refused _ _ _ _ _ _ c.clock-x.ensures c.in-Err.is c.put-in-Err.ensures
