use mathlib.Core.Bool.{true, false}
use Rattle.exports.proofs.Replied.{contains_given, contains_refused}
use Rattle.exports.proofs.reads.gatelichen_contains.Goals as goal

pub returns-then-ctx : goal.returns-then-ctx
returns-then-ctx c = contains_given _ _ _ _ _ _ _ true c.contains-x.ensures c.in-Ok.is c.if-ctx.true c.put.ensures

pub returns-else-ctx : goal.returns-else-ctx
returns-else-ctx c = contains_given _ _ _ _ _ _ _ false c.contains-x.ensures c.in-Ok.is c.if-ctx.false c.put-else-ctx.ensures

pub returns-in-Err : goal.returns-in-Err
returns-in-Err c = contains_refused _ _ _ _ _ _ _ c.contains-x.ensures c.in-Err.is c.put-in-Err.ensures
