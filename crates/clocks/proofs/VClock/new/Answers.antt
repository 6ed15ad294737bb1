use mathlib.Core.Path.{refl}
use Rattle.clocks.specs.VClock.{vclock}
use Rattle.clocks.proofs.VClock.new.Goals as goal

pub returns : goal.returns
unfolding vclock
returns c = refl
