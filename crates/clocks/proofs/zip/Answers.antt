use Rattle.clocks.proofs.Answers.{zip_is}
use Rattle.clocks.proofs.zip.Goals as goal

pub returns : goal.returns
returns c = zip_is _ _ _ c.requires _ c.zip-z.ensures
