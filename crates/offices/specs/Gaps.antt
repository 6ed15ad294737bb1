-- The two replicas of the add with a gap: the empty one, which takes 2.4 of member 0, and one that has member 7 by the dot 2.1.
use Rattle.std.specs.Prelude.{[], ◌∷◌}
use Rattle.dots.specs.Dot.{dot}
use Rattle.replica.specs.Replica.{Replica}

abbrev pub empty : Replica
empty = record { clock = []; entries = []; waiting = [] }

-- V {2:1}, 7 {2:1}
abbrev pub seven : Replica
seven = record { clock = dot 2 1 ∷ []; entries = record { member = 7; clock = dot 2 1 ∷ [] } ∷ []; waiting = [] }
