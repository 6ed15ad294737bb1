use Rattle.merging.proofs.WholeSteps.{Clear}
use Rattle.merging.proofs.entries.clear.Given as goal

abbrev pub invariant-loop-number : goal.invariant-loop-number
invariant-loop-number l = Clear l.line l.any l.number-index
