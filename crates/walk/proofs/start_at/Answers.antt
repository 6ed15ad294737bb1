use Rattle.walk.proofs.Steps.{start_good, start_bad}
use Rattle.image.proofs.Link.{image_good, image_bad}
use native.Mathlib.Omega.{arith}
use Rattle.walk.proofs.start_at.Goals as goal

pub returns-in-Some : goal.returns-in-Some
returns-in-Some c = start_good c.args.s.now _ (image_good c.args.s.now _ c.in-Some.ensures).0 (omega arith)

pub returns-in-None : goal.returns-in-None
returns-in-None c = start_bad c.args.s.now (image_bad c.args.s.now c.in-None.ensures)
