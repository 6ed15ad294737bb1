-- What the readers of rows ahead answer, case by case.
use Prim.Native.Nat.{ℕ, zero, suc, ◌+◌, ◌<◌, min}
use mathlib.Core.Path.{◌≡◌, refl, sym}
use mathlib.Core.List.{List}
use native.Mathlib.Omega.{arith}
use borrow.Author.Tests.{eq-eqb, ne_eqb}
use Rattle.layout.specs.Fields.{u32_at}
use Rattle.merging.specs.Ahead.{key_ahead, Met}

-- the lower of two keys ahead
key_past : (s : List ℕ) (p n : ℕ) → n ≡ 0 → key_ahead s p n ≡ 4294967296
unfolding key_ahead
key_past s p n e = rw e

key_here : (s : List ℕ) (p n r : ℕ) → (n ≡ 0 → ⊥) → r ≡ u32_at s p → key_ahead s p n ≡ r
unfolding key_ahead
key_here s p zero r h e = absurd (h refl)
key_here s p (suc n) r h e = sym e

module _ (s : List ℕ) (p m : ℕ) (t : List ℕ) (q k r : ℕ) (small : r < 4294967296) where
  abbrev Lowest : Type 0
  Lowest = (r ≡ min (key_ahead s p m) (key_ahead t q k)) × (r < 4294967296)

  pub lowest_left : k ≡ 0 → 0 < m + k → r ≡ u32_at s p → Lowest
  lowest_left e any f = rw (key_past t q k e, key_here s p m r (λ z. absurd (omega arith)) f) (omega arith, small)

  pub lowest_right : m ≡ 0 → 0 < m + k → r ≡ u32_at t q → Lowest
  lowest_right e any f = rw (key_past s p m e, key_here t q k r (λ z. absurd (omega arith)) f) (omega arith, small)

  pub lowest_both : (m ≡ 0 → ⊥) → (k ≡ 0 → ⊥) → (x y : ℕ) → x ≡ u32_at s p → y ≡ u32_at t q → r ≡ min x y → Lowest
  lowest_both h g x y e f z = rw (key_here s p m x h e, key_here t q k y g f) (z, small)

pub met_none : (s : List ℕ) (p n key : ℕ) → key < 4294967296 → n ≡ 0 → Met s p n key 0
unfolding key_ahead
met_none s p n key k e = record { small = k; is = λ l. rw (e, ne_eqb 4294967296 key (λ z. omega arith)); one = omega arith; fits = omega arith }

pub met_yes : (s : List ℕ) (p n key : ℕ) → key < 4294967296 → (n ≡ 0 → ⊥) → u32_at s p ≡ key → Met s p n key 1
unfolding key_ahead
met_yes s p zero key k h e = absurd (h refl)
met_yes s p (suc n) key k h e = record { small = k; is = λ l. rw (eq-eqb (u32_at s p) key e); one = omega arith; fits = omega arith }

pub met_no : (s : List ℕ) (p n key : ℕ) → key < 4294967296 → (n ≡ 0 → ⊥) → (u32_at s p ≡ key → ⊥) → Met s p n key 0
unfolding key_ahead
met_no s p zero key k h e = absurd (h refl)
met_no s p (suc n) key k h e = record { small = k; is = λ l. rw (ne_eqb (u32_at s p) key e); one = omega arith; fits = omega arith }
