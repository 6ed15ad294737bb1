-- What the reads say: who is there, and what a remove by the clock that was read does.
use Prim.Native.Nat.{ℕ, suc, ◌≤◌, compare}
use Rattle.std.specs.Prelude.{◌≡◌, refl, ◌↔◌, true, not, ◌&&◌, [], ◌∷◌, map, T, leb}
use Rattle.std.proofs.Common.{sym, subst, T_not, le→leb}
use Rattle.std.proofs.Math.Bool.{false}
use Rattle.std.proofs.lemmas.Bool.{false≢true}
use Rattle.std.proofs.Math.Option.{Option, none, some}
use native.Mathlib.Omega.{arith}
use Rattle.std.proofs.Math.Dec.{eqb→eq}
use Rattle.tables.specs.Order.{nat_order, self}
use Rattle.tables.specs.Truth.{and_l, and_r, and_i, bool_ext}
use Rattle.tables.specs.Table.{row_at, is_some, find_has}
use Rattle.tables.specs.Ascending.{ascending}
use Rattle.tables.proofs.AscendingFacts.{asc_to}
use Rattle.dots.specs.Clock.{Clock, count, covers}
use Rattle.dots.specs.ClockLaws.{normal_to, le_covers}
use Rattle.replica.specs.Replica.{Entry, Replica, entries, clock_of, entry, is_in, holds}
use Rattle.replica.specs.Rules.{remove}
use Rattle.replica.specs.WellFormed.{sound, Fine}
use Rattle.replica.proofs.WellFormedFacts.{sound_fine}
use Rattle.replica.proofs.MembershipFacts.{in_holds, holds_in}
use Rattle.replica.specs.Listed.{listed}
use Rattle.replica.specs.RemoveLaws.{Removed}
use Rattle.replica.proofs.RemoveLaws.{removed}
use Rattle.replica.specs.Reads.{contains, read}

-- a member is there exactly if its entry holds a dot
pub contains_right : (A : Replica) → T (sound A) → (m : ℕ) → T (contains A m).answer ↔ ((a : ℕ) × (n : ℕ) × T (holds A m a (suc n)))
unfolding contains
contains_right A s m = (in_holds A (sound_fine A s) m, λ d. holds_in A m d.0 d.1 d.2)

-- the remove clock of a member that is not there is empty
pub contains_absent : (A : Replica) (m : ℕ) → (contains A m).answer ≡ false → (contains A m).rm_clock ≡ []
unfolding contains is_in
contains_absent A m e = go (row_at entries A.entries m) e
  where
    go : (o : Option Entry) → is_some o ≡ false → clock_of o ≡ []
    go none e = refl
    go (some x) e = absurd (false≢true (sym e))

-- a remove by that clock takes the member out, and does not wait
module _ (A : Replica) (s : T (sound A)) (m : ℕ) where
  abbrev c : Clock
  c = (contains A m).rm_clock

  h : Fine A
  h = sound_fine A s

  r : Removed (entry A m) (m ∷ []) A (remove (entry A m) (m ∷ []) A)
  r = removed (entry A m) (m ∷ []) A (normal_to (entry A m) (h.each m)) s

  held : (a n : ℕ) → T (holds A m a (suc n)) → suc n ≤ count (entry A m) a
  unfolding holds
  held a n t = let e = eqb→eq (count (entry A m) a) (suc n) t in omega arith

  covered : covers A.clock (entry A m) ≡ true
  covered = bool_ext (covers A.clock (entry A m)) true (λ t. tt) (λ t. le_covers A.clock (entry A m) (h.each m) (h.within m))

  pub taken_out : (contains (remove c (m ∷ []) A) m).answer ≡ false
  unfolding contains
  taken_out = bool_ext (is_in R m) false (λ t. let d = in_holds R (sound_fine R r.is_sound) m t in gone d.0 d.1 d.2) (λ t. absurd t)
    where
      R : Replica
      R = remove (entry A m) (m ∷ []) A

      here : T (listed (m ∷ []) m)
      here = rw (self compare nat_order m) tt

      gone : (a n : ℕ) → T (holds R m a (suc n)) → ⊥
      gone a n t =
          let u = subst T (r.holds_is m a n) t in
          let v = and_l (holds A m a (suc n)) (not (listed (m ∷ []) m && leb (suc n) (count (entry A m) a))) u in
          T_not (listed (m ∷ []) m && leb (suc n) (count (entry A m) a)) (and_r (holds A m a (suc n)) (not (listed (m ∷ []) m && leb (suc n) (count (entry A m) a))) u)
          (and_i (listed (m ∷ []) m) (leb (suc n) (count (entry A m) a)) here (le→leb (suc n) (count (entry A m) a) (held a n v)))

  pub not_waiting : (remove c (m ∷ []) A).waiting ≡ A.waiting
  unfolding contains
  not_waiting = r.wait_seen covered

-- `read` gives the members that are there, each once, ascending
pub read_lists : (A : Replica) (m : ℕ) → listed (read A).answer m ≡ (contains A m).answer
unfolding read contains is_in
read_lists A m = sym (find_has compare nat_order entries.key m A.entries)

pub read_ascending : (A : Replica) → T (sound A) → T (ascending compare (read A).answer)
unfolding read
read_ascending A s = asc_to compare nat_order (map (λ e. e.member) A.entries) (sound_fine A s).entries_ok.asc
