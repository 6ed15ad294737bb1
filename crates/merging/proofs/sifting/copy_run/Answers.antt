use Rattle.merging.proofs.SiftLoop.{passed_sifted}
use Rattle.merging.proofs.sifting.copy_run.Goals as goal

pub returns : goal.returns
returns c = passed_sifted _ _ c.run-r.ensures c.copy.ensures
