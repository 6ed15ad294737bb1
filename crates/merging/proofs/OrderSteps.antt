-- Orders as numbers, and the comparison of two clocks in bytes.
use Prim.Native.Nat.{ℕ, zero, suc, ◌+◌, ◌*◌, ◌-◌, ◌≤◌, ◌<◌, min, compare, Ordering}
use mathlib.Core.Path.{◌≡◌, refl, sym, ap, ◌∙◌}
use mathlib.Core.Bool.{Bool, true, false, ◌&&◌, false≢true}
use mathlib.Core.List.{List, [], ◌∷◌}
use native.Mathlib.Omega.{arith}
use lib.Dec.{eqb, leb}
use lib.ListN.{length, get_or, drop, drop_of_length-le}
use lib.Seq.{drop-cons}
use Rattle.std.proofs.Common.{add-one}
use borrow.Author.Tests.{ne_eqb, lt-leb, le-leb}
use Rattle.std.specs.Ordering.{nat_cmp, ordering_then, is_ne}
use Rattle.std.specs.Cmp.{nat_cmp_is}
use Rattle.std.specs.declared.cmp.Ordering.{Ordering as Order}
use Rattle.std.specs.declared.cmp.Ordering.TheVariants.{Less, Greater}
use Rattle.tables.specs.Order.{next, lex, self, lt_gt, gt_lt, nat_order, nat_lt, lt_nat}
use Rattle.tables.specs.Zip.{said, past, turn_of}
use Rattle.dots.specs.Dot.{cmp_dot, dots, actor_of, no_dot}
use Rattle.dots.specs.Clock.{Clock}
use Rattle.dots.specs.Covering.{cover_of}
use Rattle.replica.specs.Replica.{waits}
use Rattle.layout.specs.Fields.{u32_at, u64_at}
use Rattle.layout.specs.Lists.{list_at}
use Rattle.layout.specs.Clock.{dot_in, dot_at, dots_at, clock_in, clock_end_in, clock_end}
use Rattle.layout.specs.Rows.{wait_in, waits_at}
use Rattle.dots.specs.Calls.{ordered}

-- numbers, as the code compares them
pub order_is : (x y : ℕ) → nat_cmp x y ≡ ordered (compare x y)
order_is x y = go (compare x y) refl
  where
    go : (o : Ordering) → compare x y ≡ o → nat_cmp x y ≡ ordered o
    go Ordering.lt e = sym (nat_cmp_is x y _ (nat_lt x y e))
    go Ordering.eq e = sym (nat_cmp_is x y _ (nat_order.same x y e))
    go Ordering.gt e = sym (nat_cmp_is x y _ (nat_lt y x (gt_lt compare nat_order x y e)))

then_next : (o o' : Ordering) → ordering_then (ordered o) (ordered o') ≡ ordered (next o o')
then_next Ordering.lt o' = refl
then_next Ordering.eq o' = refl
then_next Ordering.gt o' = refl

next_early : (o o' : Ordering) → is_ne (ordered o) ≡ true → ordered o ≡ ordered (next o o')
next_early Ordering.lt o' h = refl
next_early Ordering.eq o' h = absurd (false≢true h)
next_early Ordering.gt o' h = refl

next_late : (o o' : Ordering) → is_ne (ordered o) ≡ false → next o o' ≡ o'
next_late Ordering.lt o' h = absurd (false≢true (sym h))
next_late Ordering.eq o' h = refl
next_late Ordering.gt o' h = absurd (false≢true (sym h))

-- ---- two dots, two clocks

pub dots_ordered : (s : List ℕ) (p : ℕ) (t : List ℕ) (q : ℕ)
    → ordering_then (nat_cmp (u32_at s p) (u32_at t q)) (nat_cmp (u64_at s (p + 4)) (u64_at t (q + 4))) ≡ ordered (cmp_dot (dot_at s p) (dot_at t q))
unfolding dot_in
dots_ordered s p t q =
    rw (order_is (u32_at s p) (u32_at t q), order_is (u64_at s (p + 4)) (u64_at t (q + 4))) (then_next (compare (u32_at s p) (u32_at t q)) (compare (u64_at s (p + 4)) (u64_at t (q + 4))))

-- the dots from the i-th on
abbrev pub dots_past : List ℕ → ℕ → ℕ → ℕ → Clock
dots_past s p n i = dots_at s (p + 12 * i) (n - i)

pub dots_step : (s : List ℕ) (p n i : ℕ) → i < n → dots_past s p n i ≡ dot_at s (p + 12 * i) ∷ dots_past s p n (i + 1)
unfolding list_at
dots_step s p n i h =
    let e : n - i ≡ suc (n - (i + 1)) = omega arith in
    let f : p + 12 * i + 12 ≡ p + 12 * (i + 1) = omega arith in
    rw (e, f)

module _ (s : List ℕ) (p n : ℕ) (t : List ℕ) (q m i : ℕ) (whole : Ordering) (z : lex cmp_dot (dots_past s p n i) (dots_past t q m i) ≡ whole) where
  turn : i < min n m → next (cmp_dot (dot_at s (p + 12 * i)) (dot_at t (q + 12 * i))) (lex cmp_dot (dots_past s p n (i + 1)) (dots_past t q m (i + 1))) ≡ whole
  turn h = rw (dots_step s p n i (omega arith), dots_step t q m i (omega arith)) at z

  pub order_early : i < min n m → (d : Order) → d ≡ ordered (cmp_dot (dot_at s (p + 12 * i)) (dot_at t (q + 12 * i))) → is_ne d ≡ true → d ≡ ordered whole
  order_early h d e f = e ∙ next_early (cmp_dot (dot_at s (p + 12 * i)) (dot_at t (q + 12 * i))) (lex cmp_dot (dots_past s p n (i + 1)) (dots_past t q m (i + 1))) (rw e at f) ∙ ap ordered (turn h)

  pub order_on : i < min n m → (d : Order) → d ≡ ordered (cmp_dot (dot_at s (p + 12 * i)) (dot_at t (q + 12 * i))) → is_ne d ≡ false → lex cmp_dot (dots_past s p n (i + 1)) (dots_past t q m (i + 1)) ≡ whole
  order_on h d e f = sym (next_late (cmp_dot (dot_at s (p + 12 * i)) (dot_at t (q + 12 * i))) (lex cmp_dot (dots_past s p n (i + 1)) (dots_past t q m (i + 1))) (rw e at f)) ∙ turn h

  pub order_end : min n m ≤ i → i ≤ min n m → (r : Order) → r ≡ nat_cmp n m → r ≡ ordered whole
  unfolding list_at
  order_end g l r e = e ∙ order_is n m ∙ go (n - i) (m - i) refl refl
    where
      go : (x y : ℕ) → n - i ≡ x → m - i ≡ y → ordered (compare n m) ≡ ordered whole
      go zero zero a b = let c : n ≡ m = omega arith in rw (c, self compare nat_order m) (ap ordered (rw (a, b) at z))
      go zero (suc y) a b = rw (lt_nat n m (omega arith)) (ap ordered (rw (a, b) at z))
      go (suc x) zero a b = rw (lt_gt compare nat_order m n (lt_nat m n (omega arith))) (ap ordered (rw (a, b) at z))
      go (suc x) (suc y) a b = absurd (omega arith)

pub order_begin : (s : List ℕ) (p n : ℕ) (t : List ℕ) (q m : ℕ) → lex cmp_dot (dots_past s p n 0) (dots_past t q m 0) ≡ lex cmp_dot (dots_at s p n) (dots_at t q m)
order_begin s p n t q m =
    let a : n - 0 ≡ n = omega arith in let b : m - 0 ≡ m = omega arith in let c : p + 12 * 0 ≡ p = omega arith in let d : q + 12 * 0 ≡ q = omega arith in
    rw (a, b, c, d)

-- ---- which waiting remove is next

module _ (s : List ℕ) (p : ℕ) (t : List ℕ) (q : ℕ) where
  pub only_left : (m k : ℕ) → 0 < m + k → k ≡ 0 → Less ≡ ordered (turn_of waits (waits_at s p m) (waits_at t q k))
  unfolding list_at
  only_left zero k h e = absurd (omega arith)
  only_left (suc m) k h e = rw e

  pub only_right : (m k : ℕ) → (k ≡ 0 → ⊥) → m ≡ 0 → Greater ≡ ordered (turn_of waits (waits_at s p m) (waits_at t q k))
  unfolding list_at
  only_right m zero h e = absurd (h refl)
  only_right m (suc k) h e = rw e

  pub either : (m k : ℕ) → (m ≡ 0 → ⊥) → (k ≡ 0 → ⊥) → (n l : ℕ) (r : Order) → n ≡ u32_at s p → l ≡ u32_at t q → r ≡ ordered (lex cmp_dot (dots_at s (p + 4) n) (dots_at t (q + 4) l))
      → r ≡ ordered (turn_of waits (waits_at s p m) (waits_at t q k))
  unfolding list_at wait_in clock_in
  either zero k h g n l r en el e = absurd (h refl)
  either (suc m) zero h g n l r en el e = absurd (g refl)
  either (suc m) (suc k) h g n l r en el e = rw (en, el) at e

-- the dots of a clock that ends inside
pub dots_inside : (s : List ℕ) (p : ℕ) {k : ℕ} → clock_end s p ≤ k → (p + 4 ≤ k) × ((n : ℕ) → n ≡ u32_at s p → p + 4 + 12 * n ≤ k)
unfolding clock_end_in
dots_inside s p h = (omega arith, λ n e. omega arith)

-- ---- covering

-- the dots of a clock, with what is left of the dots that it is to cover
module _ (ds : Clock) (s : List ℕ) (whole : Bool) (i at left : ℕ) (z : cover_of (drop i ds) (dots_at s at left) ≡ whole) where
  cover_step : i < length ds → (leb (said dots (actor_of (get_or ds i no_dot)) (dots_at s at left)) (get_or ds i no_dot).counter && cover_of (drop (i + 1) ds) (past dots (actor_of (get_or ds i no_dot)) (dots_at s at left))) ≡ whole
  unfolding cover_of
  cover_step h = rw (add-one i) (rw (drop-cons ds i no_dot h) at z)

  pub cover_less : i < length ds → (u : ℕ) → u ≡ said dots (actor_of (get_or ds i no_dot)) (dots_at s at left) → (get_or ds i no_dot).counter < u → false ≡ whole
  cover_less h u eu l = rw (lt-leb (said dots (actor_of (get_or ds i no_dot)) (dots_at s at left)) (get_or ds i no_dot).counter (omega arith)) at (cover_step h)

  pub cover_on : i < length ds → (u : ℕ) → u ≡ said dots (actor_of (get_or ds i no_dot)) (dots_at s at left) → u ≤ (get_or ds i no_dot).counter
      → cover_of (drop (i + 1) ds) (past dots (actor_of (get_or ds i no_dot)) (dots_at s at left)) ≡ whole
  cover_on h u eu l = rw (le-leb (said dots (actor_of (get_or ds i no_dot)) (dots_at s at left)) (get_or ds i no_dot).counter (omega arith)) at (cover_step h)

  pub cover_end : length ds ≤ i → eqb left 0 ≡ whole
  unfolding cover_of list_at
  cover_end h = go left (rw (drop_of_length-le ds {i = i} h) at z)
    where
      go : (n : ℕ) → cover_of [] (dots_at s at n) ≡ whole → eqb n 0 ≡ whole
      go zero y = y
      go (suc n) y = ne_eqb (suc n) 0 (λ x. omega arith) ∙ y
