use Rattle.clocks.proofs.Answers.{covers_is}
use Rattle.clocks.proofs.VClock.covers.Goals as goal

pub returns : goal.returns
returns c = covers_is _ _ c.requires _ c.covers.ensures
