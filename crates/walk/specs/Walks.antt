-- What stands at a place of an image, for a walk over its entries.
use Rattle.std.specs.Prelude.{◌≡◌, List, [], ℕ, ◌+◌, ◌-◌, ◌&&◌, leb, ltb, length, take, drop, Option, unwrap_or, option_map}
use Rattle.std.specs.Bool.{then_some}
use Rattle.std.specs.Option.{option_map_or}
use Rattle.tables.specs.Table.{pick}
use Rattle.layout.specs.Fields.{u32_at}
use Rattle.layout.specs.Rows.{row_end}
use Rattle.layout.specs.Image.{good_image, entries_start, waits_start_at}
use Rattle.dots.specs.declared.Member.{Member}

-- the place after the entry at a place, and none where no entry stands: entries stand before the waiting removes, inside the bytes
unfoldable pub end_at : List ℕ → ℕ → Option ℕ
end_at s at = then_some (ltb at (waits_start_at s) && leb (row_end s at) (length s)) (row_end s at)

-- "Begun on an image that isn't well-formed, it hands out none.": it begins at the length of such bytes, where no entry stands
unfoldable pub start_at : List ℕ → ℕ
start_at s = pick (good_image s) (entries_start s) (length s)

unfoldable pub hand_at : List ℕ → ℕ → Option Member
hand_at s at = option_map (λ end. record { 0 = u32_at s at }) (end_at s at)

-- "the part of the image that is its clock"
unfoldable pub part_at : List ℕ → ℕ → List ℕ
part_at s at = option_map_or (λ end. take (end - (at + 4)) (drop (at + 4) s)) (end_at s at) []

unfoldable pub onward_at : List ℕ → ℕ → ℕ
onward_at s at = unwrap_or (end_at s at) at

-- one step of a walk in an image: to the next place, with the member and the part, or none
pub record Steps (s : List ℕ) (at : ℕ) (handed : Option (Member × List ℕ)) (t : List ℕ) (to : ℕ) : Type 0 where
  pub same : t ≡ s
  pub onward : to ≡ onward_at s at
  pub hands : handed ≡ option_map (λ m. (m, part_at s at)) (hand_at s at)
