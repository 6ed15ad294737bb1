-- "An entry is member, clock. A waiting remove is clock, 32-bit count, ascending members."
use Rattle.std.specs.Prelude.{List, ◌++◌, ℕ, ◌+◌, ◌*◌, length}
use Rattle.replica.specs.Replica.{Entry, Wait}
use Rattle.layout.specs.Fields.{u32_at, le32}
use Rattle.layout.specs.Lists.{list_at, starts_at, end_after, bytes_of}
use Rattle.layout.specs.Clock.{Width, narrow, clock_in, clock_end_in, encode_clock_in}

-- members, 32 bits each
abbrev pub member_end : List ℕ → ℕ → ℕ
member_end s p = p + 4

abbrev pub members_at : List ℕ → ℕ → ℕ → List ℕ
members_at = list_at u32_at member_end

abbrev pub encode_members : List ℕ → List ℕ
encode_members = bytes_of le32

module _ (A : Width) where
  -- "An entry is member, clock."
  unfoldable pub row_in : List ℕ → ℕ → Entry
  row_in s p = record { member = u32_at s p; clock = clock_in A s (p + 4) }

  unfoldable pub row_end_in : List ℕ → ℕ → ℕ
  row_end_in s p = clock_end_in A s (p + 4)

  unfoldable pub encode_row_in : Entry → List ℕ
  encode_row_in e = le32 e.member ++ encode_clock_in A e.clock

  -- "A waiting remove is clock, 32-bit count, ascending members."
  unfoldable pub wait_in : List ℕ → ℕ → Wait
  wait_in s p = record { clock = clock_in A s p; members = members_at s (clock_end_in A s p + 4) (u32_at s (clock_end_in A s p)) }

  unfoldable pub wait_end_in : List ℕ → ℕ → ℕ
  wait_end_in s p = clock_end_in A s p + (4 + 4 * u32_at s (clock_end_in A s p))

  unfoldable pub encode_wait_in : Wait → List ℕ
  encode_wait_in w = encode_clock_in A w.clock ++ (le32 (length w.members) ++ encode_members w.members)

-- ---- 12 bytes per dot

abbrev pub row_at : List ℕ → ℕ → Entry
row_at = row_in narrow

abbrev pub row_end : List ℕ → ℕ → ℕ
row_end = row_end_in narrow

abbrev pub encode_row : Entry → List ℕ
encode_row = encode_row_in narrow

abbrev pub rows_at : List ℕ → ℕ → ℕ → List Entry
rows_at = list_at row_at row_end

abbrev pub places_at : List ℕ → ℕ → ℕ → List ℕ
places_at = starts_at row_end

abbrev pub rows_end_at : List ℕ → ℕ → ℕ → ℕ
rows_end_at = end_after row_end

abbrev pub encode_rows : List Entry → List ℕ
encode_rows = bytes_of encode_row

abbrev pub wait_at_place : List ℕ → ℕ → Wait
wait_at_place = wait_in narrow

abbrev pub wait_end : List ℕ → ℕ → ℕ
wait_end = wait_end_in narrow

abbrev pub encode_wait : Wait → List ℕ
encode_wait = encode_wait_in narrow

abbrev pub waits_at : List ℕ → ℕ → ℕ → List Wait
waits_at = list_at wait_at_place wait_end

abbrev pub wait_places_at : List ℕ → ℕ → ℕ → List ℕ
wait_places_at = starts_at wait_end

abbrev pub waits_end_at : List ℕ → ℕ → ℕ → ℕ
waits_end_at = end_after wait_end

abbrev pub encode_waits : List Wait → List ℕ
encode_waits = bytes_of encode_wait
