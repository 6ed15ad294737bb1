use mathlib.Core.Path.{refl}
use Rattle.clocks.specs.VClock.{vclock}
use Rattle.replies.specs.Lent.{unfit_clock}
use Rattle.replies.proofs.unfit_clock.Goals as goal

pub returns : goal.returns
unfolding unfit_clock vclock
returns c = rw c.new.ensures refl
