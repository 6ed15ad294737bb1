-- What the merge of two replicas says, point by point. There is only one such replica; and by what it says, the sides may be swapped and
-- merges grouped at will, and a settled replica is its own merge.
use Prim.Native.Nat.{ℕ, suc, max}
use Rattle.std.specs.Prelude.{◌≡◌, Bool, not, ◌&&◌, ◌||◌}
use Rattle.std.proofs.Math.Option.{none}
use Rattle.tables.specs.Table.{pick}
use Rattle.dots.specs.Clock.{Clock, count, covers}
use Rattle.replica.specs.Replica.{Replica, wait_at, holds, killed}
use Rattle.replica.specs.Rules.{unite, stay}
use Rattle.replica.specs.WellFormed.{Fine}

-- the dot (a, n) of m stays, and no waiting remove of either side that names m covers it
unfoldable pub live : Replica → Replica → ℕ → ℕ → ℕ → Bool
live A B m a n = stay A B m a n && not (killed A m a n || killed B m a n)

pub record Merged (A B M : Replica) : Type 0 where
  pub fine : Fine M
  -- "V is the larger per actor"
  pub clock_is : (a : ℕ) → count M.clock a ≡ max (count A.clock a) (count B.clock a)
  -- the dots that stay and that no waiting remove covers
  pub holds_is : (m a n : ℕ) → holds M m a (suc n) ≡ live A B m a (suc n)
  -- "the waiting removes of both, joined by equal clock", less those whose clock V covers
  pub wait_is : (c : Clock) → wait_at M c ≡ pick (covers M.clock c) none (unite (wait_at A c) (wait_at B c))
