-- What the definitions on clocks say, counter by counter: two normalised clocks with the same counters are equal; which counters `covers`, `merged`
-- and `reset_by` see and leave.
use Prim.Native.Nat.{ℕ, zero, suc, ◌≤◌, ◌<◌, compare, max}
use Rattle.std.specs.Prelude.{◌≡◌, refl, ◌≢◌, Bool, true, false, not, ◌&&◌, ◌||◌, List, [], ◌∷◌, map, T, leb, ltb, eqb}
use Rattle.std.proofs.Common.{sym, ap, ◌∙◌, subst, arith, le_trans, not-suc-le-zero, leb→le, le→leb, lt→ltb, ltb→lt, eqb-true, eq-eqb, leb-true, leb-false, le-leb}
use Rattle.std.proofs.lemmas.Bool.{false≢true, lt-leb}
use Rattle.std.proofs.Math.Option.{Option, none, some}
use Rattle.std.proofs.Math.Dec.{eqb-zero-suc}
use Rattle.tables.specs.Order.{nat_order}
use Rattle.tables.specs.Truth.{and_l, and_r, and_i}
use Rattle.tables.specs.Table.{Normal, Proper, every, all_map, every_all, all_every, every_map, by_row, key_at, every_at, at_every, normal_sift, get_sift, pick, pick_both, is_some, ext}
use Rattle.tables.specs.Ascending.{ascending}
use Rattle.tables.proofs.AscendingFacts.{asc_from, asc_to}
use Rattle.tables.specs.Zip.{get_zip, normal_zip}
use Rattle.dots.specs.declared.Dot.{Dot}
use Rattle.dots.specs.Dot.{clocks, dot, dot?, counter_of, actor_of}
use Rattle.dots.specs.Clock.{Clock, count, normal, filled, covers_dot, covers, merged, reset_by}

-- ---- normalised

pub proper_dot : (d : Dot) → T (ltb 0 d.counter) → Proper clocks d
proper_dot d t = go d.counter refl (ltb→lt 0 d.counter t)
  where
    go : (k : ℕ) → d.counter ≡ k → 0 < k → dot? (actor_of d) d.counter ≡ some d
    go zero e l = absurd (not-suc-le-zero l)
    go (suc n) e l = ap (dot? (actor_of d)) e ∙ (λ i. some (dot (actor_of d) ((sym e) i)))

pub dot_proper : (d : Dot) → Proper clocks d → T (ltb 0 d.counter)
dot_proper d p = lt→ltb 0 d.counter (go d.counter refl)
  where
    go : (k : ℕ) → d.counter ≡ k → 0 < k
    go zero e = absurd (false≢true (ap is_some (ap (dot? (actor_of d)) (sym e) ∙ p)))
    go (suc n) e = omega arith

abbrev actors : Clock → List ℕ
actors = map (λ d. actor_of d)

abbrev counted : Clock → Bool
counted = every (λ d. ltb 0 d.counter)

pub normal_from : (c : Clock) → T (normal c) → Normal clocks c
unfolding normal
normal_from c t = record {
  asc = asc_from compare nat_order (actors c) (and_l (ascending compare (actors c)) (counted c) t);
  proper = all_map (λ d. T (ltb 0 d.counter)) (Proper clocks) c proper_dot (every_all (λ d. ltb 0 d.counter) c (and_r (ascending compare (actors c)) (counted c) t));
}

pub normal_to : (c : Clock) → Normal clocks c → T (normal c)
unfolding normal
normal_to c h =
    and_i (ascending compare (actors c)) (counted c) (asc_to compare nat_order (actors c) h.asc)
    (all_every (λ d. ltb 0 d.counter) c (all_map (Proper clocks) (λ d. T (ltb 0 d.counter)) c dot_proper h.proper))

pub normal_empty : Normal clocks []
normal_empty = record { asc = tt; proper = tt }

pub filled_from : (c : Clock) → T (filled c) → c ≢ []
unfolding filled
filled_from [] t e = t
filled_from (d ∷ c) t e = subst (λ (l : Clock). T (filled l)) e tt

pub filled_to : (c : Clock) → c ≢ [] → T (filled c)
unfolding filled
filled_to [] h = h refl
filled_to (d ∷ c) h = tt

-- two normalised clocks with the same counters are equal
pub clock_ext : (c d : Clock) → Normal clocks c → Normal clocks d → ((a : ℕ) → count c a ≡ count d a) → c ≡ d
clock_ext = ext clocks

-- ---- covers: at least the other's counter for every actor

pub covers_le : (v c : Clock) → T (covers v c) → (a : ℕ) → count c a ≤ count v a
unfolding covers
covers_le v c t a = by_row clocks (λ n. n ≤ count v a) c a (omega arith)
    (λ d e. rw (key_at clocks c a d e) (leb→le d.counter (count v (actor_of d)) (every_at clocks (covers_dot v) c t a d e)))

pub le_covers : (v c : Clock) → Normal clocks c → ((a : ℕ) → count c a ≤ count v a) → T (covers v c)
unfolding covers
le_covers v c h f = at_every clocks (covers_dot v) c h
    (λ d e p. le→leb d.counter (count v (actor_of d)) (subst (λ (o : Option Dot). counter_of o ≤ count v (actor_of d)) e (f (actor_of d))))

-- a clock with larger counters covers what the smaller one does
pub covers_mono : (v w c : Clock) → ((a : ℕ) → count v a ≤ count w a) → T (covers v c) → T (covers w c)
unfolding covers
covers_mono v w c f t = every_map (covers_dot v) (covers_dot w) c
    (λ d k. le→leb d.counter (count w (actor_of d)) (le_trans (leb→le d.counter (count v (actor_of d)) k) (f (actor_of d)))) t

pub not_covers : (v w c : Clock) → ((a : ℕ) → count v a ≤ count w a) → covers w c ≡ false → covers v c ≡ false
not_covers v w c f e = go (covers v c) refl
  where
    go : (b : Bool) → covers v c ≡ b → covers v c ≡ false
    go true u = absurd (rw e at (covers_mono v w c f (rw u tt)))
    go false u = u

-- ---- merged: the larger counter per actor

pub merged_count : (c d : Clock) (a : ℕ) → count (merged c d) a ≡ max (count c a) (count d a)
unfolding merged
merged_count c d a = get_zip clocks (λ a. max) c d (λ a. omega arith) a

pub merged_normal : (c d : Clock) → Normal clocks d → Normal clocks (merged c d)
unfolding merged
merged_normal c d h = normal_zip clocks (λ a. max) c d h

pub leb_max : (n x y : ℕ) → leb n (max x y) ≡ (leb n x || leb n y)
leb_max n x y = go (leb n x) (leb n y) refl refl
  where
    go : (a b : Bool) → leb n x ≡ a → leb n y ≡ b → leb n (max x y) ≡ (a || b)
    go true b u v = let h = leb-true n x u in le-leb n (max x y) (omega arith)
    go false true u v = let h = leb-true n y v in le-leb n (max x y) (omega arith)
    go false false u v = let h = leb-false n x u in let k = leb-false n y v in lt-leb n (max x y) (omega arith)

-- it covers a dot exactly if one of the two does
pub merged_dot : (c d : Clock) (a n : ℕ) → leb n (count (merged c d) a) ≡ (leb n (count c a) || leb n (count d a))
merged_dot c d a n = ap (leb n) (merged_count c d a) ∙ leb_max n (count c a) (count d a)

-- ---- reset: an actor's counter stays exactly if it is larger

abbrev keep_dot : Clock → Dot → Option Dot
keep_dot w d = pick (covers_dot w d) none (some d)

abbrev keep_count : Clock → ℕ → ℕ → ℕ
keep_count w a n = pick (leb n (count w a)) 0 n

keep_says : (w : Clock) (d : Dot) → Proper clocks d → keep_dot w d ≡ dot? (actor_of d) (keep_count w (actor_of d) d.counter)
keep_says w d p = go (covers_dot w d)
  where
    go : (b : Bool) → pick b none (some d) ≡ dot? (actor_of d) (pick b 0 d.counter)
    go true = refl
    go false = sym p

pub reset_normal : (w c : Clock) → Normal clocks c → Normal clocks (reset_by w c)
unfolding reset_by
reset_normal w c h = normal_sift clocks (keep_dot w) (keep_count w) (keep_says w) c h

pub reset_count : (w c : Clock) → Normal clocks c → (a : ℕ) → count (reset_by w c) a ≡ pick (leb (count c a) (count w a)) 0 (count c a)
unfolding reset_by
reset_count w c h a = get_sift clocks (keep_dot w) (keep_count w) (keep_says w) (λ a. pick_both (leb 0 (count w a)) 0) c h a

reset_nat : (x y n : ℕ) → eqb (pick (leb x y) 0 x) (suc n) ≡ (eqb x (suc n) && not (leb (suc n) y))
reset_nat x y n = go (leb x y) refl (eqb x (suc n)) refl
  where
    go : (b : Bool) → leb x y ≡ b → (c : Bool) → eqb x (suc n) ≡ c → eqb (pick b 0 x) (suc n) ≡ (c && not (leb (suc n) y))
    go true u true v = let h = leb-true x y u in let k = eqb-true x (suc n) v in eqb-zero-suc n ∙ rw (le-leb (suc n) y (omega arith))
    go true u false v = eqb-zero-suc n
    go false u true v = let h = leb-false x y u in let k = eqb-true x (suc n) v in v ∙ rw (lt-leb (suc n) y (omega arith))
    go false u false v = v

-- one dot of a clock that is reset: held before, and not covered
pub reset_dot : (w c : Clock) → Normal clocks c → (a n : ℕ) → eqb (count (reset_by w c) a) (suc n) ≡ (eqb (count c a) (suc n) && not (leb (suc n) (count w a)))
reset_dot w c h a n = rw (reset_count w c h a) (reset_nat (count c a) (count w a) n)

-- ---- a counter by the dots that it is: at most one, and none where it is 0

pub nat_ext : (x y : ℕ) → ((n : ℕ) → eqb x (suc n) ≡ eqb y (suc n)) → x ≡ y
nat_ext zero zero f = refl
nat_ext zero (suc y) f = absurd (false≢true (sym (eqb-zero-suc y) ∙ f y ∙ eq-eqb (suc y) (suc y) refl))
nat_ext (suc x) y f = sym (eqb-true y (suc x) (sym (f x) ∙ eq-eqb (suc x) (suc x) refl))

-- two normalised clocks with the same dots are equal
pub dots_ext : (c d : Clock) → Normal clocks c → Normal clocks d → ((a n : ℕ) → eqb (count c a) (suc n) ≡ eqb (count d a) (suc n)) → c ≡ d
dots_ext c d h g f = clock_ext c d h g (λ a. nat_ext (count c a) (count d a) (f a))
