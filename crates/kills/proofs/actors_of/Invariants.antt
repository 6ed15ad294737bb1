use Rattle.dots.specs.Dot.{actor_of}
use lib.ListN.{length, take}
use mathlib.Core.List.{map}
use mathlib.Core.Path.{◌≡◌}
use Rattle.kills.proofs.actors_of.Given as goal

abbrev pub invariant-loop-i : goal.invariant-loop-i
invariant-loop-i l = (length l.actors ≡ 16) × (take l.i l.actors ≡ map (λ d. actor_of d) (take l.i l.fn.v.dots))
