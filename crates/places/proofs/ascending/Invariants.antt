use mathlib.Core.Path.{◌≡◌}
use lib.ListN.{drop}
use Rattle.dots.specs.Rising.{rising}
use Rattle.places.proofs.ascending.Given as goal

abbrev pub invariant-loop-d : goal.invariant-loop-d
invariant-loop-d l = rising l.low (drop l.d-index l.dots) ≡ rising 0 l.dots
