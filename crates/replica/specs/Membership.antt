-- Which members a merge has, in words.
use Prim.Native.Nat.{ℕ, ◌<◌}
use Rattle.std.specs.Prelude.{◌≡◌, ◌⊎◌, List, T}
use Rattle.std.proofs.Math.Option.{some}
use Rattle.tables.specs.Table.{get}
use Rattle.dots.specs.Clock.{Clock, count}
use Rattle.replica.specs.Replica.{Replica, member_sets, entry, wait_at}

-- ---- in words

-- no waiting remove that names the member covers the dot
abbrev pub Clear : Replica → ℕ → ℕ → ℕ → Type 0
Clear A m a n = (c : Clock) (ms : List ℕ) → wait_at A c ≡ some ms → T (get member_sets ms m) → count c a < n

-- the first holds the dot, and the second holds it or its V does not cover it
abbrev pub Brings : Replica → Replica → ℕ → ℕ → ℕ → Type 0
Brings A B m a n = (count (entry A m) a ≡ n) × ((count (entry B m) a ≡ n) ⊎ (count B.clock a < n))

-- some dot of the member: "both hold it, or one holds it and the other's V doesn't cover it", and no waiting remove of either that names the
-- member covers it
pub record Kept (A B : Replica) (m : ℕ) : Type 0 where
  pub actor : ℕ
  pub counter : ℕ
  pub some_dot : 0 < counter
  pub held : Brings A B m actor counter ⊎ Brings B A m actor counter
  pub clear : Clear A m actor counter × Clear B m actor counter
