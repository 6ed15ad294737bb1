-- What is proved of specs/AddLaws.antt.
use Prim.Native.Nat.{ℕ, suc, ◌≤◌, ◌<◌, max, compare, Ordering}
use Rattle.std.specs.Prelude.{◌≡◌, refl, Bool, not, ◌&&◌, List, [], ◌∷◌, map, T, leb, ltb}
use Rattle.std.proofs.Common.{sym, ap₂, ◌∙◌, subst, lt→ltb, leb-false}
use Rattle.std.proofs.Math.Path.{ap}
use Rattle.std.proofs.Math.Bool.{true, false}
use Rattle.std.proofs.Math.Option.{none}
use native.Mathlib.Omega.{arith}
use Rattle.std.proofs.Math.Dec.{compare_is_eq, eqb, leb-zero}
use Rattle.tables.specs.Order.{nat_order}
use Rattle.tables.specs.Truth.{and_i}
use Rattle.tables.specs.Ascending.{ascending, before}
use Rattle.tables.specs.Table.{All, get, Normal, Proper, pick, is_some, find, hit, has, asc_union}
use Rattle.tables.specs.Zip.{zip, get_zip, normal_zip}
use Rattle.dots.specs.declared.Dot.{Dot}
use Rattle.dots.specs.Dot.{clocks, actor_of, counter_of}
use Rattle.dots.specs.Clock.{Clock, count, normal, covers, merged, applied}
use Rattle.dots.specs.ClockLaws.{normal_from, normal_empty, merged_count, merged_normal}
use Rattle.replica.specs.Replica.{Entry, Replica, entries, clock_of, entry, holds, killed}
use Rattle.replica.specs.Rules.{set_of, takes, settle, add}
use Rattle.replica.specs.WellFormed.{Fine, sound}
use Rattle.replica.proofs.WellFormedFacts.{sound_fine, fine_sound}
use Rattle.replica.specs.Listed.{listed}
use Rattle.replica.proofs.ListedFacts.{set_listed}
use Rattle.replica.proofs.Settle.{Loose, settle_clock, settle_holds, settle_wait, settle_fine, settle_more, settle_settled}
use Rattle.replica.specs.AddLaws.{row, taken, Added}

rows_get : (d : Dot) (ks : List ℕ) (m : ℕ) → get entries (map (row d) ks) m ≡ pick (has compare m ks) (d ∷ []) []
rows_get d [] m = refl
rows_get d (k ∷ ks) m = go (compare m k) (rows_get d ks m)
  where
    go : (o : Ordering) → get entries (map (row d) ks) m ≡ pick (has compare m ks) (d ∷ []) []
        → clock_of (hit o (row d k) (find compare entries.key m (map (row d) ks))) ≡ pick (is_some (hit o k (find compare (λ j. j) m ks))) (d ∷ []) []
    go Ordering.lt l = l
    go Ordering.eq l = refl
    go Ordering.gt l = l

rows_keys : (d : Dot) (ks : List ℕ) → map entries.key (map (row d) ks) ≡ ks
rows_keys d [] = refl
rows_keys d (k ∷ ks) = ap (λ (l : List ℕ). k ∷ l) (rows_keys d ks)

rows_normal : (d : Dot) (ms : List ℕ) → Normal entries (map (row d) (set_of ms))
unfolding set_of
rows_normal d ms = record { asc = rw (rows_keys d (set_of ms)) (asc_union compare nat_order ms [] tt); proper = proper (set_of ms) }
  where
    proper : (ks : List ℕ) → All (Proper entries) (map (row d) ks)
    proper [] = tt
    proper (k ∷ ks) = (refl, proper ks)

takes_get : (d : Dot) (ms : List ℕ) (es : List Entry) (m : ℕ) → get entries (takes d ms es) m ≡ merged (get entries es m) (pick (listed ms m) (d ∷ []) [])
unfolding takes merged zip
takes_get d ms es m =
    get_zip entries (λ m. merged) es (map (row d) (set_of ms)) (λ m. refl) m
    ∙ ap (merged (get entries es m)) (rows_get d (set_of ms) m ∙ ap (λ (b : Bool). pick b (d ∷ []) []) (set_listed ms m))

pick_normal : (b : Bool) (c : Clock) → Normal clocks c → Normal clocks (pick b c [])
pick_normal true c h = h
pick_normal false c h = normal_empty

count_pick : (b : Bool) (c : Clock) (a : ℕ) → count (pick b c []) a ≡ pick b (count c a) 0
count_pick true c a = refl
count_pick false c a = refl

takes_count : (d : Dot) (ms : List ℕ) (es : List Entry) (m a : ℕ) → count (get entries (takes d ms es) m) a ≡ max (count (get entries es m) a) (pick (listed ms m) (count (d ∷ []) a) 0)
takes_count d ms es m a =
    ap (λ (c : Clock). count c a) (takes_get d ms es m)
    ∙ merged_count (get entries es m) (pick (listed ms m) (d ∷ []) []) a
    ∙ ap (max (count (get entries es m) a)) (count_pick (listed ms m) (d ∷ []) a)

-- one counter that takes the dot, which is above it
one_takes : (d : Dot) (b : Bool) (o : Ordering) (x n : ℕ) → (o ≡ Ordering.eq → x < d.counter)
    → eqb (max x (pick b (counter_of (hit o d none)) 0)) (suc n) ≡ pick (b && compare_is_eq o) (eqb d.counter (suc n)) (eqb x (suc n))
one_takes d true Ordering.lt x n l = let e : max x 0 ≡ x = omega arith in rw e
one_takes d true Ordering.eq x n l = let k = l refl in let e : max x d.counter ≡ d.counter = omega arith in rw e
one_takes d true Ordering.gt x n l = let e : max x 0 ≡ x = omega arith in rw e
one_takes d false o x n l = let e : max x 0 ≡ x = omega arith in rw e

taken_killed : (d : Dot) (ms : List ℕ) (A : Replica) (m a n : ℕ) → killed (taken d ms A) m a n ≡ killed A m a n
unfolding killed
taken_killed d ms A m a n = refl

-- a dot that V doesn't cover is above V's counter
pub above : (v : Clock) (d : Dot) → covers v (d ∷ []) ≡ false → count v (actor_of d) < d.counter
unfolding covers
above v d new = leb-false d.counter (count v (actor_of d)) (go (leb d.counter (count v (actor_of d))) new)
  where
    go : (b : Bool) → (b && true) ≡ false → b ≡ false
    go true e = e
    go false e = refl

module _ (d : Dot) (ms : List ℕ) (A : Replica) (h : Fine A) (new : covers A.clock (d ∷ []) ≡ false) where
  single : Normal clocks (d ∷ [])
  unfolding normal ascending before
  single = normal_from (d ∷ []) (and_i (ltb 0 d.counter) true (lt→ltb 0 d.counter (let k = above A.clock d new in omega arith)) tt)

  taken_clock : (a : ℕ) → count (applied A.clock d) a ≡ max (count A.clock a) (count (d ∷ []) a)
  unfolding applied
  taken_clock a = merged_count A.clock (d ∷ []) a

  taken_holds : (m a n : ℕ) → holds (taken d ms A) m a (suc n) ≡ pick (listed ms m && eqb a (actor_of d)) (eqb d.counter (suc n)) (holds A m a (suc n))
  unfolding holds
  taken_holds m a n =
      ap (λ (x : ℕ). eqb x (suc n)) (takes_count d ms A.entries m a)
      ∙ one_takes d (listed ms m) (compare a (actor_of d)) (count (entry A m) a) n
      (λ e. lower (nat_order.same a (actor_of d) e))
    where
      lower : a ≡ actor_of d → count (entry A m) a < d.counter
      lower s = let k = above A.clock d new in let w = h.within m a in let v : count A.clock a ≡ count A.clock (actor_of d) = ap (count A.clock) s in omega arith

  taken_loose : Loose (taken d ms A)
  unfolding applied takes
  taken_loose = record {
    clock_ok = merged_normal A.clock (d ∷ []) single;
    entries_ok = normal_zip entries (λ m. merged) A.entries (map (row d) (set_of ms)) (rows_normal d ms);
    waiting_ok = h.waiting_ok;
    each = λ m. rw (takes_get d ms A.entries m) (merged_normal (entry A m) (pick (listed ms m) (d ∷ []) []) (pick_normal (listed ms m) (d ∷ []) single));
    within = λ m a. rw (takes_count d ms A.entries m a, merged_count A.clock (d ∷ []) a) (at_most (count (entry A m) a) (count (d ∷ []) a) (count A.clock a) (listed ms m) (h.within m a));
    late = h.late;
  }
    where
      at_most : (x y v : ℕ) (b : Bool) → x ≤ v → max x (pick b y 0) ≤ max v y
      at_most x y v true l = omega arith
      at_most x y v false l = omega arith

-- ---- add

-- "Add: if V covers the dot (counter 0 always), nothing changes."
pub add_seen : (d : Dot) (ms : List ℕ) (A : Replica) → covers A.clock (d ∷ []) ≡ true → add d ms A ≡ A
unfolding add
add_seen d ms A e = rw e

pub add-zero : (d : Dot) (ms : List ℕ) (A : Replica) → d.counter ≡ 0 → add d ms A ≡ A
unfolding covers
add-zero d ms A z = add_seen d ms A (rw (z, leb-zero (count A.clock (actor_of d))))

pub added : (d : Dot) (ms : List ℕ) (A : Replica) → T (sound A) → covers A.clock (d ∷ []) ≡ false → Added d ms A (add d ms A)
unfolding add
added d ms A s new = rw new (record {
  clock_is = λ a. ap (λ (c : Clock). count c a) (settle_clock (taken d ms A)) ∙ taken_clock d ms A h new a;
  holds_is = λ m a n. settle_holds (taken d ms A) l m a n ∙ ap₂ (λ (x y : Bool). x && not y) (taken_holds d ms A h new m a n) (taken_killed d ms A m a (suc n));
  wait_is = λ c. rw (settle_clock (taken d ms A)) (settle_wait (taken d ms A) l c);
  killed_kept = λ m a n t. settle_more (taken d ms A) l m a n (subst T (sym (taken_killed d ms A m a n)) t);
  is_settled = settle_settled (taken d ms A);
  is_sound = fine_sound (settle (taken d ms A)) (settle_fine (taken d ms A) l);
})
  where
    h : Fine A
    h = sound_fine A s

    l : Loose (taken d ms A)
    l = taken_loose d ms A h new
