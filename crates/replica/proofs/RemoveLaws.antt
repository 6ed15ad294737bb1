-- What is proved of specs/RemoveLaws.antt.
use Prim.Native.Nat.{ℕ, suc, Ordering}
use Rattle.std.specs.Prelude.{◌≡◌, refl, ◌≢◌, Bool, true, false, not, ◌&&◌, ◌||◌, List, [], ◌∷◌, T, leb, eqb}
use Rattle.std.proofs.Common.{sym, ap, ap₂, ◌∙◌, subst, le_trans, T_not}
use Rattle.std.proofs.Math.Bool.{or-false, and-true}
use Rattle.std.proofs.lemmas.Bool.{false≢true}
use Rattle.std.proofs.Math.Option.{Option, none, some}
use Rattle.std.proofs.Math.Dec.{leb-suc-zero}
use Rattle.tables.specs.Truth.{and_l, and_r, or_e}
use Rattle.tables.specs.Table.{get, Normal, pick, is_some, any, hit}
use Rattle.dots.specs.Dot.{clocks}
use Rattle.dots.specs.Clock.{Clock, count, normal, covers, cmp_clock, clock_order}
use Rattle.dots.specs.ClockLaws.{normal_from, normal_to, normal_empty}
use Rattle.replica.specs.Replica.{Wait, Replica, waits, member_sets, members_of, entry, wait_at, holds, kills, killed}
use Rattle.replica.specs.Rules.{set_of, unite, join_waits, remove_from, remove}
use Rattle.replica.specs.WellFormed.{Fine, sound}
use Rattle.replica.proofs.WellFormedFacts.{sound_fine, fine_sound, fine_ext}
use Rattle.replica.specs.Removes.{FineEntries}
use Rattle.replica.proofs.RemovesFacts.{fine_remove, remove_dot}
use Rattle.replica.proofs.WaitsFacts.{unite_good, one_get, one_normal, unite_none, joined_get, joined_normal, joined_kills}
use Rattle.replica.specs.Listed.{listed}
use Rattle.replica.proofs.ListedFacts.{set_listed, set_normal}
use Rattle.replica.proofs.Settle.{fewer_dots}
use Rattle.replica.specs.RemoveLaws.{this, Removed}

-- the waiting removes afterwards, clock by clock
remove_wait : (c : Clock) (ms : List ℕ) (A : Replica) (k : Clock) → wait_at (remove c ms A) k ≡ pick (covers A.clock c) (wait_at A k) (unite (wait_at A k) (get waits (this c ms ∷ []) k))
unfolding remove
remove_wait c ms A k = go (covers A.clock c)
  where
    go : (b : Bool) → get waits (pick b A.waiting (join_waits A.waiting (this c ms ∷ []))) k ≡ pick b (wait_at A k) (unite (wait_at A k) (get waits (this c ms ∷ []) k))
    go true = refl
    go false = joined_get A.waiting (this c ms ∷ []) k

remove_holds : (c : Clock) (ms : List ℕ) (A : Replica) → Fine A → (m a n : ℕ) → holds (remove c ms A) m a (suc n) ≡ (holds A m a (suc n) && not (listed ms m && leb (suc n) (count c a)))
unfolding holds remove
remove_holds c ms A h m a n =
    remove_dot (this c ms) A.entries (record { rows = h.entries_ok; each = h.each }) m a n
    ∙ ap (λ (b : Bool). eqb (count (entry A m) a) (suc n) && not (b && leb (suc n) (count c a))) (set_listed ms m)

remove_killed : (c : Clock) (ms : List ℕ) (A : Replica) → Fine A → (m a n : ℕ) → killed (remove c ms A) m a n ≡ (killed A m a n || not (covers A.clock c) && (listed ms m && leb n (count c a)))
unfolding killed remove
remove_killed c ms A h m a n = go (covers A.clock c)
  where
    go : (b : Bool) → any (kills m a n) (pick b A.waiting (join_waits A.waiting (this c ms ∷ []))) ≡ (any (kills m a n) A.waiting || not b && (listed ms m && leb n (count c a)))
    go true = sym (or-false (any (kills m a n) A.waiting))
    go false =
        joined_kills A.waiting (this c ms ∷ []) h.waiting_ok (one_normal (this c ms)) m a n
        ∙ ap (λ (b : Bool). any (kills m a n) A.waiting || b) (or-false (kills m a n (this c ms)) ∙ ap (λ (b : Bool). b && leb n (count c a)) (set_listed ms m))

no_dots : (v c : Clock) → c ≡ [] → covers v c ≡ true
unfolding covers
no_dots v c z = rw z

remove_fine : (c : Clock) (ms : List ℕ) (A : Replica) → Normal clocks c → Fine A → Fine (remove c ms A)
unfolding remove
remove_fine c ms A k h = record {
  clock_ok = h.clock_ok;
  entries_ok = s.rows;
  waiting_ok = waiting_ok (covers A.clock c);
  each = s.each;
  within = λ m a. le_trans (fewer_dots (count (entry A m) a) (count (entry (remove c ms A) m) a) (left m a)) (h.within m a);
  late = λ j ns e. late j ns (covers A.clock c) refl (sym (remove_wait c ms A j) ∙ e);
  free = λ m a n t d. free m a n (subst T (remove_holds c ms A h m a n) t) (subst T (remove_killed c ms A h m a (suc n)) d);
}
  where
    s : FineEntries (remove_from (this c ms) A.entries)
    s = fine_remove (this c ms) A.entries (record { rows = h.entries_ok; each = h.each })

    waiting_ok : (b : Bool) → Normal waits (pick b A.waiting (join_waits A.waiting (this c ms ∷ [])))
    waiting_ok true = h.waiting_ok
    waiting_ok false = joined_normal A.waiting (this c ms ∷ []) (one_normal (this c ms))

    left : (m a n : ℕ) → T (eqb (count (entry (remove c ms A) m) a) (suc n)) → T (eqb (count (entry A m) a) (suc n))
    left m a n t = and_l (eqb (count (entry A m) a) (suc n)) (not (kills m a (suc n) (this c ms))) (subst T (remove_dot (this c ms) A.entries (record { rows = h.entries_ok; each = h.each }) m a n) t)

    own : covers A.clock c ≡ false → (j : Clock) (ns : List ℕ) → get waits (this c ms ∷ []) j ≡ some ns → Normal clocks j × (j ≢ []) × Normal member_sets ns
    own e j ns = go (cmp_clock j c) refl
      where
        filled : c ≢ []
        filled z = false≢true (sym e ∙ no_dots A.clock c z)

        go : (o : Ordering) → cmp_clock j c ≡ o → members_of (hit o (this c ms) none) ≡ some ns → Normal clocks j × (j ≢ []) × Normal member_sets ns
        go Ordering.lt u f = absurd (false≢true (ap is_some f))
        go Ordering.eq u f =
            let p : j ≡ c = clock_order.same j c u in
            let q : set_of ms ≡ ns = cc in
            (rw p k, rw p filled, subst (Normal member_sets) q (set_normal ms))
        go Ordering.gt u f = absurd (false≢true (ap is_some f))

    late : (j : Clock) (ns : List ℕ) (b : Bool) → covers A.clock c ≡ b → pick b (wait_at A j) (unite (wait_at A j) (get waits (this c ms ∷ []) j)) ≡ some ns → Normal clocks j × (j ≢ []) × Normal member_sets ns
    late j ns true e f = h.late j ns f
    late j ns false e f = unite_good j (wait_at A j) (get waits (this c ms ∷ []) j) (h.late j) (own e j) ns f

    free : (m a n : ℕ) → T (holds A m a (suc n) && not (listed ms m && leb (suc n) (count c a))) → T (killed A m a (suc n) || not (covers A.clock c) && (listed ms m && leb (suc n) (count c a))) → ⊥
    free m a n t d =
        or_e (killed A m a (suc n)) (not (covers A.clock c) && (listed ms m && leb (suc n) (count c a))) d
        (λ u. h.free m a n (and_l (holds A m a (suc n)) (not (listed ms m && leb (suc n) (count c a))) t) u)
        (λ u. T_not (listed ms m && leb (suc n) (count c a)) (and_r (holds A m a (suc n)) (not (listed ms m && leb (suc n) (count c a))) t) (and_r (not (covers A.clock c)) (listed ms m && leb (suc n) (count c a)) u))

pub removed : (c : Clock) (ms : List ℕ) (A : Replica) → T (normal c) → T (sound A) → Removed c ms A (remove c ms A)
unfolding remove
removed c ms A k s = record {
  clock_is = refl;
  holds_is = remove_holds c ms A h;
  wait_seen = λ e. rw e;
  wait_here = λ e. remove_wait c ms A c ∙ ap₂ (λ (b : Bool) (o : Option (List ℕ)). pick b (wait_at A c) (unite (wait_at A c) o)) e (one_get (this c ms));
  wait_other = λ j ne. remove_wait c ms A j ∙ other j (covers A.clock c) (cmp_clock j c) refl ne;
  killed_is = remove_killed c ms A h;
  is_sound = fine_sound (remove c ms A) (remove_fine c ms A (normal_from c k) h);
}
  where
    h : Fine A
    h = sound_fine A s

    other : (j : Clock) (b : Bool) (o : Ordering) → cmp_clock j c ≡ o → (j ≡ c → ⊥) → pick b (wait_at A j) (unite (wait_at A j) (members_of (hit o (this c ms) none))) ≡ wait_at A j
    other j true o u ne = refl
    other j false Ordering.lt u ne = unite_none (wait_at A j)
    other j false Ordering.eq u ne = absurd (ne (clock_order.same j c u))
    other j false Ordering.gt u ne = unite_none (wait_at A j)

-- a remove by {} changes nothing
pub remove_empty : (ms : List ℕ) (A : Replica) → T (sound A) → remove [] ms A ≡ A
remove_empty ms A s = fine_ext (remove [] ms A) A (remove_fine [] ms A normal_empty h) h (λ a. ap (λ (v : Clock). count v a) r.clock_is)
    (λ m a n. r.holds_is m a n ∙ go (holds A m a (suc n)) (listed ms m) (leb (suc n) 0) (leb-suc-zero n))
    (λ c. ap (λ (ws : List Wait). get waits ws c) (r.wait_seen (no_dots A.clock [] refl)))
  where
    h : Fine A
    h = sound_fine A s

    r : Removed [] ms A (remove [] ms A)
    r = removed [] ms A (normal_to [] normal_empty) s

    go : (x y z : Bool) → z ≡ false → (x && not (y && z)) ≡ x
    go x true z e = rw e (and-true x)
    go x false z e = and-true x
