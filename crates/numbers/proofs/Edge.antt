-- Numbers at the edge of the bytes: room tested without a sum that could wrap, and bytes taken one by one.
use Prim.Native.Nat.{ℕ, ◌+◌, ◌-◌, ◌*◌, ◌/◌, ◌%◌, ◌≤◌}
use mathlib.Core.Path.{◌≡◌, refl, sym, ap, ◌∙◌}
use mathlib.Core.Bool.{Bool, true, false}
use mathlib.Core.List.{List, ◌++◌, append_assoc}
use native.Mathlib.Omega.{arith}
use native.Mathlib.Numerals.{add-one, add-two, add-three}
use lib.Dec.{leb}
use lib.ListN.{length, get_or, set, take, drop}
use lib.Seq.{sets, sets-eq, drop-drop}
use borrow.Author.Tests.{leb-true, leb-false, le-leb, lt-leb}
use Rattle.layout.specs.Fields.{u16_at, u32_at, le32}

pub room_left : (n at len : ℕ) → n ≤ len → leb at (len - n) ≡ leb (at + n) len
room_left n at len h = go (leb at (len - n)) refl
  where
    go : (b : Bool) → leb at (len - n) ≡ b → b ≡ leb (at + n) len
    go true e = let l = leb-true at (len - n) e in sym (le-leb (at + n) len (omega arith))
    go false e = let l = leb-false at (len - n) e in sym (lt-leb (at + n) len (omega arith))

module _ (s : List ℕ) (at k : ℕ) where
  after : (i : ℕ) → at + (k + i) ≡ at + k + i
  after i = omega arith

  pub u16_bytes : (a b : ℕ) → a ≡ get_or s (at + k) 0 → b ≡ get_or s (at + (k + 1)) 0 → a + b * 256 ≡ u16_at s (at + k)
  unfolding u16_at
  u16_bytes a b p q = rw (p, q, after 1)

  pub u32_bytes : (a b c d : ℕ) → a ≡ get_or s (at + k) 0 → b ≡ get_or s (at + (k + 1)) 0 → c ≡ get_or s (at + (k + 2)) 0 → d ≡ get_or s (at + (k + 3)) 0
      → a + b * 256 + c * 65536 + d * 16777216 ≡ u32_at s (at + k)
  unfolding u32_at
  u32_bytes a b c d p q r t = rw (p, q, r, t, after 1, after 2, after 3)

  pub le32_bytes : (v : ℕ) (l₁ l₂ l₃ l₄ : List ℕ) → l₁ ≡ set s (at + k) (v % 256) → l₂ ≡ set l₁ (at + (k + 1)) (v / 256 % 256)
      → l₃ ≡ set l₂ (at + (k + 2)) (v / 65536 % 256) → l₄ ≡ set l₃ (at + (k + 3)) (v / 16777216 % 256) → l₄ ≡ sets s (at + k) (le32 v)
  unfolding le32
  le32_bytes v l₁ l₂ l₃ l₄ p q r t = rw (t, r, q, p, after 1, after 2, after 3) (simp (add-one, add-two, add-three))

-- four bytes put in the place of those that stand there
pub part_set : (s vs : List ℕ) (at : ℕ) → length vs ≡ 4 → at + 4 ≤ length s → take at s ++ (vs ++ drop (at + 4 - at) (drop at s)) ≡ sets s at vs
part_set s vs at e h =
    let q : at + (at + 4 - at) ≡ at + length vs = omega arith in
    ap (λ (r : List ℕ). take at s ++ (vs ++ r)) (drop-drop (at + 4 - at) at s ∙ ap (λ (j : ℕ). drop j s) q) ∙ sym (append_assoc (take at s) vs (drop (at + length vs) s)) ∙ sym (sets-eq vs s at (omega arith))
