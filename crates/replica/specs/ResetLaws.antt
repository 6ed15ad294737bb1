-- What a reset does, dot by dot.
use Prim.Native.Nat.{ℕ, suc}
use Rattle.std.specs.Prelude.{◌≡◌, ◌≢◌, Bool, not, ◌&&◌, List, [], ◌∷◌, T, leb, ltb}
use Rattle.std.proofs.Math.Dec.{compare_is_eq}
use Rattle.tables.specs.Table.{get, Normal, pick, is_some, any}
use Rattle.dots.specs.declared.Dot.{Dot}
use Rattle.dots.specs.Dot.{clocks}
use Rattle.dots.specs.Clock.{Clock, count, filled, reset_by, cmp_clock}
use Rattle.replica.specs.Replica.{Wait, Replica, member_sets, wait_at, names, holds, kills, killed}
use Rattle.replica.specs.WellFormed.{sound}

-- ---- waiting removes

-- its clock becomes k, which is not empty
unfoldable pub becomes : Clock → Clock → Wait → Bool
becomes c k w = filled k && compare_is_eq (cmp_clock k (reset_by c w.clock))

abbrev pub this : Dot → Clock → List ℕ → Wait
this d x ms = record { clock = d ∷ x; members = ms }

-- what each waiting remove of a well-formed replica is
abbrev pub WaitOk : Wait → Type 0
WaitOk w = Normal clocks w.clock × (w.clock ≢ []) × Normal member_sets w.members

-- ---- reset

-- "Reset by c: V and each entry and waiting clock are reset by c; entries and waiting removes with empty clocks go. Waiting removes whose clocks became
-- equal are joined. The result may be unsettled."
pub record WasReset (c : Clock) (A R : Replica) : Type 0 where
  -- an actor that c covers is no longer counted
  pub clock_is : (a : ℕ) → count R.clock a ≡ pick (leb (count A.clock a) (count c a)) 0 (count A.clock a)
  -- a dot stays exactly if c doesn't cover it
  pub holds_is : (m a n : ℕ) → holds R m a (suc n) ≡ (holds A m a (suc n) && not (leb (suc n) (count c a)))
  -- a clock waits if one that waited became it, with the members of all that did
  pub wait_there : (k : Clock) → is_some (wait_at R k) ≡ any (becomes c k) A.waiting
  pub wait_names : (k : Clock) (m : ℕ) → names (wait_at R k) m ≡ any (λ w. becomes c k w && get member_sets w.members m) A.waiting
  -- so a waiting remove covers a dot exactly if it did, and its counter of that actor was above c's
  pub killed_is : (m a n : ℕ) → killed R m a (suc n) ≡ any (λ w. kills m a (suc n) w && ltb (count c a) (count w.clock a)) A.waiting
  pub is_sound : T (sound R)
