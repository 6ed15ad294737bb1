-- Which of two dots, and which of two clocks in bytes, is first: the code's comparisons say what the definitions' do.
use Prim.Native.Nat.{ℕ, zero, suc, ◌+◌, ◌*◌, ◌-◌, ◌≤◌, ◌<◌, min, compare, Ordering}
use Rattle.std.specs.Ordering.{nat_cmp, ordering_then, is_ne, is_lt as is_less}
use Rattle.std.specs.Cmp.{nat_cmp_is}
use Rattle.std.specs.declared.cmp.Ordering.{Ordering as Order}
use mathlib.Core.Path.{◌≡◌, refl, sym, ap, ◌∙◌}
use mathlib.Core.Bool.{true, false, false≢true}
use mathlib.Core.List.{List, ◌∷◌}
use native.Mathlib.Omega.{arith}
use Rattle.tables.specs.Order.{next, lex, self, lt_gt, gt_lt, nat_order, nat_lt, lt_nat}
use Rattle.tables.specs.Ascending.{is_lt}
use Rattle.dots.specs.Dot.{cmp_dot}
use Rattle.dots.specs.Clock.{Clock, cmp_clock}
use Rattle.dots.specs.Calls.{ordered}
use Rattle.layout.specs.Fields.{u32_at, u64_at}
use Rattle.layout.specs.Lists.{list_at}
use Rattle.layout.specs.Clock.{dot_in, dot_at, dots_at, clock_in, clock_at}

-- numbers, as the code compares them
order_is : (x y : ℕ) → nat_cmp x y ≡ ordered (compare x y)
order_is x y = go (compare x y) refl
  where
    go : (o : Ordering) → compare x y ≡ o → nat_cmp x y ≡ ordered o
    go Ordering.lt e = sym (nat_cmp_is x y _ (nat_lt x y e))
    go Ordering.eq e = sym (nat_cmp_is x y _ (nat_order.same x y e))
    go Ordering.gt e = sym (nat_cmp_is x y _ (nat_lt y x (gt_lt compare nat_order x y e)))

then_next : (o p : Ordering) → ordering_then (ordered o) (ordered p) ≡ ordered (next o p)
then_next Ordering.lt p = refl
then_next Ordering.eq p = refl
then_next Ordering.gt p = refl

next_early : (o p : Ordering) → is_ne (ordered o) ≡ true → ordered o ≡ ordered (next o p)
next_early Ordering.lt p h = refl
next_early Ordering.eq p h = absurd (false≢true h)
next_early Ordering.gt p h = refl

next_late : (o p : Ordering) → is_ne (ordered o) ≡ false → next o p ≡ p
next_late Ordering.lt p h = absurd (false≢true (sym h))
next_late Ordering.eq p h = refl
next_late Ordering.gt p h = absurd (false≢true (sym h))

pub dots_ordered : (s : List ℕ) (p : ℕ) (t : List ℕ) (q : ℕ)
    → ordering_then (nat_cmp (u32_at s p) (u32_at t q)) (nat_cmp (u64_at s (p + 4)) (u64_at t (q + 4))) ≡ ordered (cmp_dot (dot_at s p) (dot_at t q))
unfolding dot_in
dots_ordered s p t q =
    rw (order_is (u32_at s p) (u32_at t q), order_is (u64_at s (p + 4)) (u64_at t (q + 4))) (then_next (compare (u32_at s p) (u32_at t q)) (compare (u64_at s (p + 4)) (u64_at t (q + 4))))

-- the dots from the i-th on
abbrev pub dots_past : List ℕ → ℕ → ℕ → ℕ → Clock
dots_past s p n i = dots_at s (p + 12 * i) (n - i)

dots_step : (s : List ℕ) (p n i : ℕ) → i < n → dots_past s p n i ≡ dot_at s (p + 12 * i) ∷ dots_past s p n (i + 1)
unfolding list_at
dots_step s p n i h =
    let e : n - i ≡ suc (n - (i + 1)) = omega arith in
    let f : p + 12 * i + 12 ≡ p + 12 * (i + 1) = omega arith in
    rw (e, f)

module _ (s : List ℕ) (p n : ℕ) (t : List ℕ) (q m i : ℕ) (whole : Ordering) (z : lex cmp_dot (dots_past s p n i) (dots_past t q m i) ≡ whole) where
  turn : i < min n m → next (cmp_dot (dot_at s (p + 12 * i)) (dot_at t (q + 12 * i))) (lex cmp_dot (dots_past s p n (i + 1)) (dots_past t q m (i + 1))) ≡ whole
  turn h = rw (dots_step s p n i (omega arith), dots_step t q m i (omega arith)) at z

  pub order_early : i < min n m → (d : Order) → d ≡ ordered (cmp_dot (dot_at s (p + 12 * i)) (dot_at t (q + 12 * i))) → is_ne d ≡ true → d ≡ ordered whole
  order_early h d e f = e ∙ next_early (cmp_dot (dot_at s (p + 12 * i)) (dot_at t (q + 12 * i))) (lex cmp_dot (dots_past s p n (i + 1)) (dots_past t q m (i + 1))) (rw e at f) ∙ ap ordered (turn h)

  pub order_on : i < min n m → (d : Order) → d ≡ ordered (cmp_dot (dot_at s (p + 12 * i)) (dot_at t (q + 12 * i))) → is_ne d ≡ false → lex cmp_dot (dots_past s p n (i + 1)) (dots_past t q m (i + 1)) ≡ whole
  order_on h d e f = sym (next_late (cmp_dot (dot_at s (p + 12 * i)) (dot_at t (q + 12 * i))) (lex cmp_dot (dots_past s p n (i + 1)) (dots_past t q m (i + 1))) (rw e at f)) ∙ turn h

  pub order_end : min n m ≤ i → i ≤ min n m → (r : Order) → r ≡ nat_cmp n m → r ≡ ordered whole
  unfolding list_at
  order_end g l r e = e ∙ order_is n m ∙ go (n - i) (m - i) refl refl
    where
      go : (x y : ℕ) → n - i ≡ x → m - i ≡ y → ordered (compare n m) ≡ ordered whole
      go zero zero a b = let c : n ≡ m = omega arith in rw (c, self compare nat_order m) (ap ordered (rw (a, b) at z))
      go zero (suc y) a b = rw (lt_nat n m (omega arith)) (ap ordered (rw (a, b) at z))
      go (suc x) zero a b = rw (lt_gt compare nat_order m n (lt_nat m n (omega arith))) (ap ordered (rw (a, b) at z))
      go (suc x) (suc y) a b = absurd (omega arith)

pub order_begin : (s : List ℕ) (p n : ℕ) (t : List ℕ) (q m : ℕ) → lex cmp_dot (dots_past s p n 0) (dots_past t q m 0) ≡ lex cmp_dot (dots_at s p n) (dots_at t q m)
order_begin s p n t q m =
    let a : n - 0 ≡ n = omega arith in let b : m - 0 ≡ m = omega arith in let c : p + 12 * 0 ≡ p = omega arith in let d : q + 12 * 0 ≡ q = omega arith in
    rw (a, b, c, d)

-- the clock at p is before the clock at q
pub clocks_less : (s : List ℕ) (p q n m : ℕ) (r : Order) → n ≡ u32_at s p → m ≡ u32_at s q → r ≡ ordered (lex cmp_dot (dots_at s (p + 4) n) (dots_at s (q + 4) m))
    → is_less r ≡ is_lt (cmp_clock (clock_at s p) (clock_at s q))
unfolding clock_in
clocks_less s p q n m r a b e = ap is_less (rw (a, b) at e) ∙ go (cmp_clock (dots_at s (p + 4) (u32_at s p)) (dots_at s (q + 4) (u32_at s q)))
  where
    go : (o : Ordering) → is_less (ordered o) ≡ is_lt o
    go Ordering.lt = refl
    go Ordering.eq = refl
    go Ordering.gt = refl
