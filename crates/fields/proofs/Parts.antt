-- Numbers in a part of the bytes.
use Prim.Native.Nat.{ℕ, ◌+◌, ◌-◌, ◌*◌, ◌≤◌, ◌<◌}
use mathlib.Core.Path.{◌≡◌, ap, ap₂, ◌∙◌}
use mathlib.Core.List.{List}
use native.Mathlib.Omega.{arith}
use native.Mathlib.Nat.{add-zero, add_assoc}
use lib.ListN.{get_or, take, drop}
use lib.Seq.{get_or-take, get_or-drop}
use Rattle.layout.specs.Fields.{u32_at, u64_at}

module _ (s : List ℕ) (at w : ℕ) where
  abbrev part : List ℕ
  part = take (at + w - at) (drop at s)

  part_byte : (k : ℕ) → k < w → get_or part k 0 ≡ get_or s (at + k) 0
  part_byte k h = get_or-take (at + w - at) (drop at s) k 0 (omega arith) ∙ get_or-drop at s k 0

  pub part_u32 : (k : ℕ) → k + 4 ≤ w → u32_at part k ≡ u32_at s (at + k)
  unfolding u32_at
  part_u32 k h = rw (part_byte k (omega arith), part_byte (k + 1) (omega arith), part_byte (k + 2) (omega arith), part_byte (k + 3) (omega arith), ← (add_assoc at k 1), ← (add_assoc at k 2), ← (add_assoc at k 3))

  pub first_u32 : 4 ≤ w → u32_at part 0 ≡ u32_at s at
  first_u32 h = part_u32 0 h ∙ ap (u32_at s) (add-zero at)

pub u32_of_part : (s : List ℕ) (at : ℕ) → u32_at (take (at + 4 - at) (drop at s)) 0 ≡ u32_at s at
u32_of_part s at = first_u32 s at 4 (omega arith)

pub u64_of_part : (s : List ℕ) (at : ℕ) → u64_at (take (at + 8 - at) (drop at s)) 0 ≡ u64_at s at
unfolding u64_at
u64_of_part s at = ap₂ (λ (x : ℕ) (y : ℕ). x + y * 4294967296) (first_u32 s at 8 (omega arith)) (part_u32 s at 8 4 (omega arith))

-- the actor and the counter of a part of 12 bytes, which is a dot

pub actor_of_part : (s : List ℕ) (at : ℕ) → u32_at (take (at + 12 - at) (drop at s)) 0 ≡ u32_at s at
actor_of_part s at = first_u32 s at 12 (omega arith)

pub counter_of_part : (s : List ℕ) (at : ℕ) → u64_at (take (at + 12 - at) (drop at s)) 4 ≡ u64_at s (at + 4)
unfolding u64_at
counter_of_part s at = ap₂ (λ (x : ℕ) (y : ℕ). x + y * 4294967296) (part_u32 s at 12 4 (omega arith)) (part_u32 s at 12 8 (omega arith) ∙ ap (u32_at s) (omega arith))
