use Rattle.merging.proofs.WholeSteps.{clear_on}
use Rattle.merging.proofs.entries.clear.Goals as goal

pub loop-number-preserved : goal.loop-number-preserved
loop-number-preserved c = clear_on c.args.line.now _ _ c.loop-number.invariant
