use mathlib.Core.Path.{◌≡◌}
use lib.ListN.{drop}
use Rattle.dots.specs.Clock.{count}
use Rattle.places.proofs.counter.Given as goal

abbrev pub invariant-loop-d : goal.invariant-loop-d
invariant-loop-d l = count (drop l.d-index l.d-items) l.a ≡ count l.d-items l.a
