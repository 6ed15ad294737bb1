-- The kill number of a member and an actor: up to which counter waiting removes that name the member cover the actor's dots.
use Rattle.std.specs.Prelude.{ℕ, max, List, [], ◌∷◌}
use Rattle.tables.specs.Table.{get, pick}
use Rattle.dots.specs.Clock.{count}
use Rattle.replica.specs.Replica.{Wait, member_sets}

-- the largest counter of the actor among the waiting removes that name the member; 0 where none does
unfoldable pub kills_of : List Wait → ℕ → ℕ → ℕ
kills_of [] m a = 0
kills_of (w ∷ ws) m a = max (pick (get member_sets w.members m) (count w.clock a) 0) (kills_of ws m a)
