use mathlib.Core.Path.{refl}
use Rattle.exports.proofs.Replied.{checks}
use Rattle.exports.proofs.reads.gatelichen_check.Goals as goal

pub returns-in-Ok : goal.returns-in-Ok
returns-in-Ok c = checks _ _ _ _ _ c.check_image.ensures c.in-Ok.is refl c.packed.ensures

pub returns-in-Err : goal.returns-in-Err
returns-in-Err c = checks _ _ _ _ _ c.check_image.ensures c.in-Err.is c.number.ensures c.packed-in-Err.ensures
