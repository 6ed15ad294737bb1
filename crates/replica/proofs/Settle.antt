-- "Applying waiting removes again", dot by dot and clock by clock.
use Rattle.std.specs.Prelude.{ℕ, zero, suc, ◌≤◌, ◌≡◌, ◌≢◌, Bool, not, ◌&&◌, ◌||◌, List, [], ◌∷◌, eqb}
use Rattle.std.proofs.Math.Path.{refl}
use Rattle.std.proofs.Common.{sym, ◌∙◌, subst, le_trans, arith, T_not, le→leb, eqb→eq}
use Rattle.std.proofs.Math.Bool.{true, false}
use Rattle.std.proofs.Math.Option.{Option, none, some}
use Rattle.std.proofs.Math.Dec.{T, leb, leb→le, eqb_refl}
use Rattle.tables.specs.Truth.{and_l, and_r, or_l, or_r}
use Rattle.tables.specs.Table.{get, Normal, pick, pick_both, any, cons?, normal_sift, get_sift}
use Rattle.dots.specs.Dot.{clocks}
use Rattle.dots.specs.Clock.{Clock, count, covers}
use Rattle.dots.specs.ClockLaws.{covers_le}
use Rattle.replica.specs.Replica.{Wait, Replica, entries, waits, member_sets, wait?, entry, wait_at, names, holds, seen, killed}
use Rattle.replica.specs.Rules.{removes_from, uncovered, settle, settled}
use Rattle.replica.specs.WellFormed.{Fine}
use Rattle.replica.proofs.WaitsFacts.{kept_names, kept_some, killed_from, killed_to}
use Rattle.replica.specs.Removes.{FineEntries}
use Rattle.replica.proofs.RemovesFacts.{removes_dot, fine_removes}

-- ---- the waiting removes whose clock V does not cover

abbrev late? : Clock → Wait → Option Wait
late? v w = pick (covers v w.clock) none (some w)

abbrev late : Clock → Clock → Option (List ℕ) → Option (List ℕ)
late v c o = pick (covers v c) none o

late_says : (v : Clock) (w : Wait) → late? v w ≡ wait? w.clock (late v w.clock (some w.members))
late_says v w = go (covers v w.clock)
  where
    go : (b : Bool) → pick b none (some w) ≡ wait? w.clock (pick b none (some w.members))
    go true = refl
    go false = refl

pub late_normal : (v : Clock) (ws : List Wait) → Normal waits ws → Normal waits (uncovered v ws)
late_normal v ws h = normal_sift waits (late? v) (late v) (λ w p. late_says v w) ws h

pub late_get : (v : Clock) (ws : List Wait) → Normal waits ws → (c : Clock) → get waits (uncovered v ws) c ≡ pick (covers v c) none (get waits ws c)
late_get v ws h c = get_sift waits (late? v) (late v) (λ w p. late_says v w) (λ c. pick_both (covers v c) none) ws h c

-- ---- settle

-- all of well-formed but the last: a waiting remove may cover a dot of an entry that it names
pub record Loose (A : Replica) : Type 0 where
  pub clock_ok : Normal clocks A.clock
  pub entries_ok : Normal entries A.entries
  pub waiting_ok : Normal waits A.waiting
  pub each : (m : ℕ) → Normal clocks (entry A m)
  pub within : (m a : ℕ) → count (entry A m) a ≤ count A.clock a
  pub late : (c : Clock) (ms : List ℕ) → wait_at A c ≡ some ms → Normal clocks c × (c ≢ []) × Normal member_sets ms

pub fine_loose : (A : Replica) → Fine A → Loose A
fine_loose A h = record { clock_ok = h.clock_ok; entries_ok = h.entries_ok; waiting_ok = h.waiting_ok; each = h.each; within = h.within; late = h.late }

settle_dot : (A : Replica) → Loose A → (m a n : ℕ) → eqb (count (entry (settle A) m) a) (suc n) ≡ (eqb (count (entry A m) a) (suc n) && not (killed A m a (suc n)))
unfolding settle killed
settle_dot A h m a n = removes_dot A.waiting A.entries (record { rows = h.entries_ok; each = h.each }) m a n

-- "each resets its members' entries": a dot stays exactly if no waiting remove that names its member covers it
pub settle_holds : (A : Replica) → Loose A → (m a n : ℕ) → holds (settle A) m a (suc n) ≡ (holds A m a (suc n) && not (killed A m a (suc n)))
unfolding holds
settle_holds A h m a n = settle_dot A h m a n

-- "those whose clock V covers are gone, the rest stay"
pub settle_wait : (A : Replica) → Loose A → (c : Clock) → wait_at (settle A) c ≡ pick (covers A.clock c) none (wait_at A c)
unfolding settle
settle_wait A h c = late_get A.clock A.waiting h.waiting_ok c

pub settle_clock : (A : Replica) → (settle A).clock ≡ A.clock
unfolding settle
settle_clock A = refl

settle_waiting_ok : (A : Replica) → Loose A → Normal waits (settle A).waiting
unfolding settle
settle_waiting_ok A h = late_normal A.clock A.waiting h.waiting_ok

module _ (A : Replica) (h : Loose A) (m a n : ℕ) where
  -- what still waits covers no more than before
  pub settle_fewer : T (killed (settle A) m a n) → T (killed A m a n)
  settle_fewer t =
      let w = killed_from (settle A) m a n (settle_waiting_ok A h) t in
      killed_to A m a n w.0 (kept_names (covers A.clock w.0) (wait_at A w.0) m (rw (settle_wait A h w.0) at w.1)) w.2

  -- and what no longer waits covers only what V covers
  pub settle_more : T (killed A m a n) → T (killed (settle A) m a n || seen (settle A) a n)
  unfolding seen settle
  settle_more t = let w = killed_from A m a n h.waiting_ok t in go w.0 w.1 w.2 (covers A.clock w.0) refl
    where
      go : (c : Clock) → T (names (wait_at A c) m) → T (leb n (count c a)) → (b : Bool) → covers A.clock c ≡ b → T (killed (settle A) m a n || leb n (count A.clock a))
      go c t s true e =
          let k = covers_le A.clock c (rw e tt) a in
          let l = leb→le n (count c a) s in
          or_r (killed (settle A) m a n) (leb n (count A.clock a)) (le→leb n (count A.clock a) (le_trans l k))
      go c t s false e = or_l (killed (settle A) m a n) (leb n (count A.clock a)) (killed_to (settle A) m a n c (rw (settle_wait A h c, e) t) s)

-- a clock whose dots are among another's counts no more
pub fewer_dots : (x y : ℕ) → ((n : ℕ) → T (eqb y (suc n)) → T (eqb x (suc n))) → y ≤ x
fewer_dots x zero f = omega arith
fewer_dots x (suc y) f = let e = eqb→eq x (suc y) (f y (eqb_refl (suc y))) in omega arith

pub settle_fine : (A : Replica) → Loose A → Fine (settle A)
unfolding settle
settle_fine A h = record {
  clock_ok = h.clock_ok;
  entries_ok = s.rows;
  waiting_ok = settle_waiting_ok A h;
  each = s.each;
  within = within;
  late = λ c ms e. h.late c ms (kept_some (covers A.clock c) (wait_at A c) ms (sym (settle_wait A h c) ∙ e));
  free = λ m a n t k. T_not (killed A m a (suc n)) (and_r (holds A m a (suc n)) (not (killed A m a (suc n))) (subst T (settle_holds A h m a n) t)) (settle_fewer A h m a (suc n) k);
}
  where
    s : FineEntries (removes_from A.waiting A.entries)
    s = fine_removes A.waiting A.entries (record { rows = h.entries_ok; each = h.each })

    within : (m a : ℕ) → count (entry (settle A) m) a ≤ count A.clock a
    within m a = le_trans (fewer_dots (count (entry A m) a) (count (entry (settle A) m) a) (left m a)) (h.within m a)
      where
        left : (m a n : ℕ) → T (eqb (count (entry (settle A) m) a) (suc n)) → T (eqb (count (entry A m) a) (suc n))
        left m a n t = and_l (eqb (count (entry A m) a) (suc n)) (not (killed A m a (suc n))) (rw (settle_dot A h m a n) at t)

-- it is settled
late_none : (v : Clock) (ws : List Wait) → any (λ w. covers v w.clock) (uncovered v ws) ≡ false
late_none v [] = refl
late_none v (w ∷ ws) = go (covers v w.clock) refl (late_none v ws)
  where
    go : (b : Bool) → covers v w.clock ≡ b → any (λ w. covers v w.clock) (uncovered v ws) ≡ false → any (λ w. covers v w.clock) (cons? (pick b none (some w)) (uncovered v ws)) ≡ false
    go true e l = l
    go false e l = rw e l

pub settle_settled : (A : Replica) → settled (settle A) ≡ true
unfolding settled settle
settle_settled A = rw (late_none A.clock A.waiting)
