-- Each test of the code says what the definition does.
use mathlib.Core.Path.{◌≡◌, refl, sym}
use mathlib.Core.List.{List}
use mathlib.Core.Bool.{true, false, ◌&&◌}
use Prim.Native.Nat.{ℕ, ◌+◌, ◌*◌, ◌≤◌, ◌<◌}
use native.Mathlib.Omega.{arith}
use borrow.Author.Tests.{lt-leb, le-leb, lt-ltb, le-ltb, leb-true}
use lib.Dec.{leb, ltb}
use lib.ListN.{length}
use Rattle.std.specs.Prelude.{Option, Some, None}
use Rattle.dots.specs.declared.Member.{Member}
use Rattle.dots.specs.Rising.{both_right}
use Rattle.layout.specs.Fields.{u32_at}
use Rattle.layout.specs.Clock.{clock_end_in}
use Rattle.layout.specs.Rows.{row_end, row_end_in}
use Rattle.layout.specs.Image.{good_image}
use Rattle.image.proofs.Whole.{then_told}
use Rattle.walk.specs.Walks.{end_at, start_at, hand_at, onward_at}

module _ (s : List ℕ) (at : ℕ) where
  pub end_past : u32_at s 16 ≤ at → None ≡ end_at s at
  unfolding end_at
  end_past p = rw (le-ltb at (u32_at s 16) p)

  module _ (p : at < u32_at s 16) (n : ℕ) (en : n ≡ u32_at s (at + 4)) where
    is_end : at + 4 + (4 + 12 * n) ≡ row_end s at
    unfolding row_end_in clock_end_in
    is_end = rw en

    pub end_room : length s < at + 4 + (4 + 12 * n) → None ≡ end_at s at
    unfolding end_at
    end_room r = let r' : length s < row_end s at = rw (← is_end) r in rw (lt-ltb at (u32_at s 16) p, lt-leb (row_end s at) (length s) r')

    pub end_here : at + 4 + (4 + 12 * n) ≤ length s → Some (at + 4 + (4 + 12 * n)) ≡ end_at s at
    unfolding end_at
    end_here r = let r' : row_end s at ≤ length s = rw (← is_end) r in rw (lt-ltb at (u32_at s 16) p, le-leb (row_end s at) (length s) r', is_end)

  -- where an entry stands
  pub record Entry (end : ℕ) : Type 0 where
    pub past : at + 8 ≤ end
    pub room : end ≤ length s

  pub entry : (end : ℕ) → Some end ≡ end_at s at → Entry end
  unfolding end_at row_end_in clock_end_in
  entry end h =
      let t = then_told (ltb at (u32_at s 16) && leb (row_end s at) (length s)) (row_end s at) end h in
      let r = leb-true (row_end s at) (length s) (both_right (ltb at (u32_at s 16)) (leb (row_end s at) (length s)) t.0) in
      record { past = omega arith; room = omega arith }

-- where no member is handed out, a walk stays; where one is, it goes on, inside the bytes
pub stays : (s : List ℕ) (at : ℕ) → None ≡ hand_at s at → at ≡ onward_at s at
unfolding hand_at onward_at
stays s at h = go (end_at s at) refl
  where
    go : (o : Option ℕ) → end_at s at ≡ o → at ≡ onward_at s at
    go (Some end) f = let k = rw f at h in absurd (cc)
    go None f = rw f

pub record Moves (s : List ℕ) (at : ℕ) : Type 0 where
  pub on : at < onward_at s at
  pub room : onward_at s at ≤ length s

pub moves : (s : List ℕ) (at : ℕ) (m : Member) → Some m ≡ hand_at s at → Moves s at
unfolding hand_at onward_at
moves s at m h = go (end_at s at) refl
  where
    go : (o : Option ℕ) → end_at s at ≡ o → Moves s at
    go (Some end) f = let r = entry s at end (sym f) in let g : onward_at s at ≡ end = rw f in record { on = omega arith; room = omega arith }
    go None f = let k = rw f at h in absurd (cc)

pub start_good : (s : List ℕ) (n : ℕ) → good_image s ≡ true → n ≡ u32_at s 8 → n ≡ start_at s
unfolding start_at
start_good s n g e = rw (g, e)

pub start_bad : (s : List ℕ) → good_image s ≡ false → length s ≡ start_at s
unfolding start_at
start_bad s g = rw g
