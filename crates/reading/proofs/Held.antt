-- The entry of a member is the one at its seat.
use Prim.Native.Nat.{ℕ, suc, ◌+◌, ◌≤◌, ◌<◌, compare, Ordering}
use mathlib.Core.Path.{◌≡◌, refl, sym, ◌∙◌}
use mathlib.Core.Bool.{Bool, true, false, not}
use mathlib.Core.Option.{Option, none, some}
use mathlib.Core.List.{List, [], ◌∷◌, map}
use native.Mathlib.Omega.{arith}
use lib.Dec.{eqb}
use lib.ListN.{length, get_or}
use borrow.Author.Tests.{eqb-true, eqb-false, ltb-true, ltb-false}
use Rattle.tables.specs.Order.{nat_order, self}
use Rattle.tables.specs.Table.{hit, find}
use Rattle.replica.specs.Replica.{Entry}
use Rattle.layout.specs.Fields.{u32_at}
use Rattle.layout.specs.Rows.{row_in, row_at}
use Rattle.std.specs.Prelude.{Some, None, cond, nat_lt}
use Rattle.std.specs.List.{position, position_or_len}

hit_same : (m k : ℕ) (e : Entry) (o : Option Entry) → k ≡ m → hit (compare m k) e o ≡ some e
hit_same m k e o q = rw (q, self compare nat_order m)

hit_other : (m k : ℕ) (e : Entry) (o : Option Entry) → (k ≡ m → ⊥) → hit (compare m k) e o ≡ o
hit_other m k e o h = go (compare m k) refl
  where
    go : (c : Ordering) → compare m k ≡ c → hit c e o ≡ o
    go Ordering.lt q = refl
    go Ordering.eq q = absurd (h (sym (nat_order.same m k q)))
    go Ordering.gt q = refl

module _ (s : List ℕ) (m : ℕ) where
  abbrev is_it : ℕ → Bool
  is_it p = eqb (u32_at s p) m

  abbrev entry_at : List ℕ → Option Entry
  entry_at ps = find compare (λ e. e.member) m (map (row_at s) ps)

  abbrev Held : List ℕ → ℕ → Type 0
  Held ps i = (i < length ps → entry_at ps ≡ some (row_at s (get_or ps i 0))) × (length ps ≤ i → entry_at ps ≡ none)

  held_at : (ps : List ℕ) → Held ps (position_or_len is_it ps)
  unfolding row_in
  held_at [] = (λ h. absurd (omega arith), λ h. refl)
  held_at (p ∷ ps) = go (is_it p) refl (held_at ps)
    where
      go : (b : Bool) → is_it p ≡ b → Held ps (position_or_len is_it ps) → Held (p ∷ ps) (cond (not b) (1 + position_or_len is_it ps) 0)
      go true q r = (λ h. hit_same m (u32_at s p) (row_at s p) (entry_at ps) (eqb-true (u32_at s p) m q), λ h. absurd (omega arith))
      go false q r =
          let e : 1 + position_or_len is_it ps ≡ suc (position_or_len is_it ps) = omega arith in
          let o = hit_other m (u32_at s p) (row_at s p) (entry_at ps) (eqb-false (u32_at s p) m q) in
          rw e (λ h. o ∙ r.0 (omega arith), λ h. o ∙ r.1 (omega arith))

  pub seat_in : (ps : List ℕ) (i : ℕ) → position is_it ps ≡ Some i → (i < length ps) × (entry_at ps ≡ some (row_at s (get_or ps i 0)))
  seat_in ps i e = go (nat_lt (position_or_len is_it ps) (length ps)) refl e
    where
      go : (b : Bool) → nat_lt (position_or_len is_it ps) (length ps) ≡ b → cond b (Some (position_or_len is_it ps)) None ≡ Some i → (i < length ps) × (entry_at ps ≡ some (row_at s (get_or ps i 0)))
      go true q r =
          let f : position_or_len is_it ps ≡ i = cc in
          let l : position_or_len is_it ps < length ps = ltb-true (position_or_len is_it ps) (length ps) q in
          rw (← f) (l, (held_at ps).0 l)
      go false q r = cc

  pub seat_out : (ps : List ℕ) → position is_it ps ≡ None → entry_at ps ≡ none
  seat_out ps e = go (nat_lt (position_or_len is_it ps) (length ps)) refl e
    where
      go : (b : Bool) → nat_lt (position_or_len is_it ps) (length ps) ≡ b → cond b (Some (position_or_len is_it ps)) None ≡ None → entry_at ps ≡ none
      go true q r = cc
      go false q r = (held_at ps).1 (ltb-false (position_or_len is_it ps) (length ps) q)
