use Rattle.std.proofs.Common.{refl, arith}
use Rattle.display.proofs.Steps.{part_put}
use Rattle.display.proofs.put.Goals as goal

pub returns : goal.returns
returns c = let a = c.args in let f = c.requires.fits in record { place = refl; stores = part_put a.out.now a.s.now _ a.at c.copy_from_slice.ensures.after (omega arith) }
