use mathlib.Core.Path.{◌≡◌}
use mathlib.Core.Bool.{true}
use Rattle.validating.specs.Search.{Apart}
use Rattle.validating.proofs.apart.Given as goal

abbrev pub invariant-loop-k : goal.invariant-loop-k
invariant-loop-k l = l.differ ≡ true → Apart l.ours l.theirs l.j l.k
