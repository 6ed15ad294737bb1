-- What is proved of specs/Handed.antt.
use Rattle.std.specs.Prelude.{◌≡◌, refl, List, [], ◌∷◌, map, true, false, ℕ, suc, zero, ◌+◌, ◌-◌, ◌≤◌, ◌<◌, Some, None}
use mathlib.Core.Bool.{and-false}
use Rattle.std.proofs.Common.{ap, ◌∙◌, arith}
use borrow.Author.Tests.{lt-leb, le-leb, lt-ltb, le-ltb}
use Rattle.std.proofs.Math.ListN.{length}
use Rattle.layout.specs.Fields.{Bytes, u32_at}
use Rattle.layout.specs.Lists.{list_at, end_after}
use Rattle.layout.specs.Clock.{clock_at, clock_end_in, encode_clock}
use Rattle.layout.specs.Rows.{row_at, row_in, row_end, row_end_in, rows_at, rows_end_at}
use Rattle.layout.specs.Image.{good_image, image_in, image_of, entries_start, entries_count, waits_start_at}
use Rattle.layout.specs.Good.{good_rows}
use Rattle.layout.proofs.KitFacts.{part_is, first_row}
use Rattle.layout.proofs.Parts.{clock_laws}
use Rattle.layout.proofs.Checks.{passed}
use Rattle.walk.specs.Walks.{end_at, start_at, hand_at, part_at, onward_at}
use Rattle.walk.specs.Handed.{Handing, handed, handing_of}

row_end_after : (s : List ℕ) (at : ℕ) → at + 8 ≤ row_end s at
unfolding row_end_in clock_end_in
row_end_after s at = omega arith

end_past : (s : List ℕ) (at : ℕ) → waits_start_at s ≤ at → end_at s at ≡ None
unfolding end_at
end_past s at h = rw (le-ltb at (waits_start_at s) h)

end_outside : (s : List ℕ) (at : ℕ) → length s ≤ at → end_at s at ≡ None
unfolding end_at
end_outside s at h = let k = row_end_after s at in simp (lt-leb (row_end s at) (length s) (omega arith), and-false)

none_at : (s : List ℕ) (at n : ℕ) → end_at s at ≡ None → handed n s at ≡ []
unfolding handed hand_at
none_at s at zero e = refl
none_at s at (suc n) e = rw e

-- "Begun on an image that isn't well-formed, it hands out none."
pub bad_none : (s : List ℕ) → good_image s ≡ false → (n : ℕ) → handed n s (start_at s) ≡ []
unfolding start_at
bad_none s e n = rw e (none_at s (length s) n (end_outside s (length s) (omega arith)))

ends_after : (s : List ℕ) (at n : ℕ) → at ≤ rows_end_at s at n
unfolding end_after
ends_after s at zero = omega arith
ends_after s at (suc n) = let h = ends_after s (row_end s at) n in let k = row_end_after s at in omega arith

module _ (s : List ℕ) (at : ℕ) (b : Bytes s) (low : at < waits_start_at s) (room : row_end s at ≤ length s) where
  here : end_at s at ≡ Some (row_end s at)
  unfolding end_at
  here = rw (lt-ltb at (waits_start_at s) low, le-leb (row_end s at) (length s) room)

  clock_part : part_at s at ≡ encode_clock (clock_at s (at + 4))
  unfolding part_at row_end_in
  clock_part =
      let e : row_end s at - (at + 4) ≡ length (encode_clock (clock_at s (at + 4))) = omega (arith, clock_laws.span s (at + 4)) in
      rw (here, e) (part_is s (at + 4) (encode_clock (clock_at s (at + 4))) (clock_laws.stands s (at + 4) b room))

  one_step : (n : ℕ) → handed (suc n) s at ≡ handing_of (row_at s at) ∷ handed n s (row_end s at)
  unfolding handed hand_at onward_at row_in
  one_step n = rw (clock_part, here)

walk_rows : (s : List ℕ) (at low n : ℕ) → Bytes s → good_rows s at low n ≡ true → waits_start_at s ≡ rows_end_at s at n → handed (suc n) s at ≡ map (λ e. handing_of e) (rows_at s at n)
unfolding list_at end_after
walk_rows s at low zero b g e = none_at s at 1 (end_past s at (omega arith))
walk_rows s at low (suc n) b g e =
    let f = first_row s at low n g in
    let k = row_end_after s at in
    let h = ends_after s (row_end s at) n in
    one_step s at b (omega arith) f.inside (suc n) ∙ ap (λ (l : List Handing). handing_of (row_at s at) ∷ l) (walk_rows s (row_end s at) (u32_at s at + 1) n b f.others e)

-- "hands out members in ascending order, each with the part of the image that is its clock": one step for each entry, and one that finds none
pub walk_hands : (s : List ℕ) → Bytes s → good_image s ≡ true → handed (suc (entries_count s)) s (start_at s) ≡ map (λ e. handing_of e) (image_of s).entries
unfolding start_at image_in
walk_hands s b g = let w = passed s g in rw g (walk_rows s (entries_start s) 0 (entries_count s) b w.rows_good w.readable_ok.waits_start_ok)
