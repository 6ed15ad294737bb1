use Rattle.clocks.specs.VClock.{normalised}
use Rattle.clocks.proofs.VClock.is_normalised.Goals as goal

pub returns : goal.returns
unfolding normalised
returns c = c.normal.ensures
