-- What a remove does, dot by dot.
use Prim.Native.Nat.{ℕ, suc}
use Rattle.std.specs.Prelude.{◌≡◌, true, false, not, ◌&&◌, ◌||◌, List, T, leb}
use Rattle.std.proofs.Math.Option.{some}
use Rattle.dots.specs.Clock.{Clock, count, covers}
use Rattle.replica.specs.Replica.{Wait, Replica, wait_at, holds, killed}
use Rattle.replica.specs.Rules.{set_of, unite}
use Rattle.replica.specs.WellFormed.{sound}
use Rattle.replica.specs.Listed.{listed}

-- the waiting remove that it may become
abbrev pub this : Clock → List ℕ → Wait
this c ms = record { clock = c; members = set_of ms }

-- "Remove with clock c: each listed member's entry is reset by c and dropped if empty. If V doesn't cover c, the remove waits, joined to one with an
-- equal clock. An empty member list may wait. Other waiting removes aren't looked at."
pub record Removed (c : Clock) (ms : List ℕ) (A R : Replica) : Type 0 where
  pub clock_is : R.clock ≡ A.clock
  -- a dot stays exactly if its member isn't listed or c doesn't cover it
  pub holds_is : (m a n : ℕ) → holds R m a (suc n) ≡ (holds A m a (suc n) && not (listed ms m && leb (suc n) (count c a)))
  -- the waiting removes where V covers c, and where it does not: at c itself, and at any other clock
  pub wait_seen : covers A.clock c ≡ true → R.waiting ≡ A.waiting
  pub wait_here : covers A.clock c ≡ false → wait_at R c ≡ unite (wait_at A c) (some (set_of ms))
  pub wait_other : (k : Clock) → (k ≡ c → ⊥) → wait_at R k ≡ wait_at A k
  -- so what waiting removes cover: as before, and what this one does if it waits
  pub killed_is : (m a n : ℕ) → killed R m a n ≡ (killed A m a n || not (covers A.clock c) && (listed ms m && leb n (count c a)))
  pub is_sound : T (sound R)
