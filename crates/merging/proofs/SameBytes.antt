-- Parts of two images that have equal bytes: equal numbers, dots and members.
use Prim.Native.Nat.{ℕ, zero, suc, ◌+◌, ◌*◌, ◌-◌, ◌≤◌}
use mathlib.Core.Path.{◌≡◌, refl, sym, ap, ap₂, ◌∙◌}
use mathlib.Core.List.{List, ◌∷◌}
use native.Mathlib.Omega.{arith}
use lib.ListN.{length, take, drop, length-drop}
use Rattle.std.proofs.lemmas.List.{length-take-le}
use Rattle.dots.specs.Dot.{dot}
use Rattle.layout.specs.Fields.{u32_at, u64_at}
use Rattle.layout.specs.Lists.{list_at}
use Rattle.layout.specs.Clock.{dot_in, dots_at}
use Rattle.layout.specs.Rows.{members_at}
use Rattle.fields.proofs.Parts.{part_u32}

module _ (s : List ℕ) (p m : ℕ) (t : List ℕ) (q n : ℕ) (h : p + m ≤ length s) (k : q + n ≤ length t) (e : take (p + m - p) (drop p s) ≡ take (q + n - q) (drop q t)) where
  long : m ≡ n
  long =
      let a = length-drop p s in let b = length-drop q t in
      let c = length-take-le (p + m - p) (drop p s) (omega arith) in
      let d = length-take-le (q + n - q) (drop q t) (omega arith) in
      let f = ap length e in
      omega arith

  same_u32 : (i a b : ℕ) → a ≡ p + i → b ≡ q + i → i + 4 ≤ m → u32_at s a ≡ u32_at t b
  same_u32 i a b ea eb l = let g = long in rw (ea, eb) (sym (part_u32 s p m i l) ∙ ap (λ (x : List ℕ). u32_at x i) e ∙ part_u32 t q n i (omega arith))

  same_u64 : (i a b : ℕ) → a ≡ p + i → b ≡ q + i → i + 8 ≤ m → u64_at s a ≡ u64_at t b
  unfolding u64_at
  same_u64 i a b ea eb l = ap₂ (λ (x y : ℕ). x + y * 4294967296) (same_u32 i a b ea eb (omega arith)) (same_u32 (i + 4) (a + 4) (b + 4) (omega arith) (omega arith) (omega arith))

  dots_from : (i j a b : ℕ) → a ≡ p + i → b ≡ q + i → i + 12 * j ≤ m → dots_at s a j ≡ dots_at t b j
  unfolding list_at dot_in
  dots_from i zero a b ea eb l = refl
  dots_from i (suc j) a b ea eb l =
      ap₂ ◌∷◌ (ap₂ dot (same_u32 i a b ea eb (omega arith)) (same_u64 (i + 4) (a + 4) (b + 4) (omega arith) (omega arith) (omega arith)))
      (dots_from (i + 12) j (a + 12) (b + 12) (omega arith) (omega arith) (omega arith))

  members_from : (i j a b : ℕ) → a ≡ p + i → b ≡ q + i → i + 4 * j ≤ m → members_at s a j ≡ members_at t b j
  unfolding list_at
  members_from i zero a b ea eb l = refl
  members_from i (suc j) a b ea eb l = ap₂ ◌∷◌ (same_u32 i a b ea eb (omega arith)) (members_from (i + 4) j (a + 4) (b + 4) (omega arith) (omega arith) (omega arith))

pub same_dots : (s : List ℕ) (p m : ℕ) (t : List ℕ) (q n : ℕ) → p + 12 * m ≤ length s → q + 12 * n ≤ length t → take (p + 12 * m - p) (drop p s) ≡ take (q + 12 * n - q) (drop q t)
    → dots_at t q n ≡ dots_at s p m
same_dots s p m t q n h k e =
    let g = long s p (12 * m) t q (12 * n) h k e in
    let f : n ≡ m = omega arith in
    rw f (sym (dots_from s p (12 * m) t q (12 * n) h k e 0 m p q (omega arith) (omega arith) (omega arith)))

pub same_members : (s : List ℕ) (p m : ℕ) (t : List ℕ) (q n : ℕ) → p + 4 * m ≤ length s → q + 4 * n ≤ length t → take (p + 4 * m - p) (drop p s) ≡ take (q + 4 * n - q) (drop q t)
    → members_at s p m ≡ members_at t q n
same_members s p m t q n h k e =
    let g = long s p (4 * m) t q (4 * n) h k e in
    let f : n ≡ m = omega arith in
    rw f (members_from s p (4 * m) t q (4 * n) h k e 0 m p q (omega arith) (omega arith) (omega arith))
