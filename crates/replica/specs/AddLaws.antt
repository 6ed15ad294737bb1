-- What an add does, dot by dot.
use Prim.Native.Nat.{ℕ, suc, max}
use Rattle.std.specs.Prelude.{◌≡◌, not, ◌&&◌, ◌||◌, List, [], ◌∷◌, T}
use Rattle.std.proofs.Math.Bool.{true}
use Rattle.std.proofs.Math.Option.{none}
use Rattle.std.proofs.Math.Dec.{eqb}
use Rattle.tables.specs.Table.{pick}
use Rattle.dots.specs.declared.Dot.{Dot}
use Rattle.dots.specs.Dot.{actor_of}
use Rattle.dots.specs.Clock.{Clock, count, covers, applied}
use Rattle.replica.specs.Replica.{Entry, Replica, wait_at, holds, seen, killed}
use Rattle.replica.specs.Rules.{takes, settled}
use Rattle.replica.specs.WellFormed.{sound}
use Rattle.replica.specs.Listed.{listed}

-- ---- each listed member's clock takes the dot

abbrev pub row : Dot → ℕ → Entry
row d m = record { member = m; clock = d ∷ [] }

-- ---- the replica that has taken the dot, before its waiting removes are applied again

abbrev pub taken : Dot → List ℕ → Replica → Replica
taken d ms A = record { clock = applied A.clock d; entries = takes d ms A.entries; waiting = A.waiting }

-- "Otherwise each listed member's clock takes the dot, V takes it, then all waiting removes are applied again."
pub record Added (d : Dot) (ms : List ℕ) (A R : Replica) : Type 0 where
  -- V takes the dot, also where no member is listed
  pub clock_is : (a : ℕ) → count R.clock a ≡ max (count A.clock a) (count (d ∷ []) a)
  -- of the dot's actor a listed member holds the dot alone, and every other dot stays; but nothing that a waiting remove covers
  pub holds_is : (m a n : ℕ) → holds R m a (suc n) ≡ (pick (listed ms m && eqb a (actor_of d)) (eqb d.counter (suc n)) (holds A m a (suc n)) && not (killed A m a (suc n)))
  -- the waiting removes that the new V covers are gone
  pub wait_is : (c : Clock) → wait_at R c ≡ pick (covers R.clock c) none (wait_at A c)
  -- what a waiting remove covers, one still does, or V does
  pub killed_kept : (m a n : ℕ) → T (killed A m a n) → T (killed R m a n || seen R a n)
  pub is_settled : settled R ≡ true
  pub is_sound : T (sound R)
