-- What is taken down stays down. Once a remove with clock c has taken a member down, that member never again holds a dot that c covers, whatever is added,
-- removed or merged afterwards, and however old the other replicas are. Only a reset whose clock covers the dot forgets it.
use Prim.Native.Nat.{ℕ}
use Rattle.std.specs.Prelude.{◌≡◌, Bool, ◌||◌, [], ◌∷◌, leb}
use Rattle.std.proofs.Math.Bool.{false}
use Rattle.std.proofs.Math.Dec.{T}
use Rattle.dots.specs.Dot.{dot}
use Rattle.dots.specs.Clock.{count}
use Rattle.replica.specs.Replica.{Replica, holds, seen, killed}
use Rattle.replica.specs.History.{Event, Apply, MergeWith, MergeInto, Reset}

-- the event is a reset whose clock covers the dot (a, n)
unfoldable pub forgets : ℕ → ℕ → Event → Bool
forgets a n (Apply o) = false
forgets a n (MergeWith B) = false
forgets a n (MergeInto B) = false
forgets a n (Reset c) = leb n (count c a)

-- the dot is gone for good: m does not hold it, and V covers it or a waiting remove that names m does
pub record Gone (A : Replica) (m a n : ℕ) : Type 0 where
  pub absent : holds A m a n ≡ false
  pub known : T (seen A a n || killed A m a n)

-- ---- what a reset forgets

-- 5 by the dot 1.1; taken down by {1:1}; forgotten by a reset by {1:1}, which takes the dot out of V too
abbrev pub before : Replica
before = record { clock = dot 1 1 ∷ []; entries = record { member = 5; clock = dot 1 1 ∷ [] } ∷ []; waiting = [] }
