-- "Contents first, then bodies; little-endian; no gaps." A replica's image, written; and read in two stages: what the bytes say, and
-- whether that is a well-formed replica.
use Rattle.std.specs.Prelude.{Bool, ◌&&◌, List, [], ◌∷◌, ◌++◌, ℕ, ◌+◌, leb, eqb, length}
use Rattle.std.proofs.Math.Option.{Option, none, some}
use Rattle.tables.specs.Table.{pick, alls}
use Rattle.replica.specs.Replica.{Replica}
use Rattle.replica.specs.Limits.{Limits, full, well_formed}
use Rattle.layout.specs.Fields.{u16_at, u32_at, le16, le32}
use Rattle.layout.specs.Lists.{list_at, end_after, bytes_of}
use Rattle.layout.specs.Clock.{Width, narrow, clock_in, clock_end_in, encode_clock_in}
use Rattle.layout.specs.Rows.{row_in, row_end_in, encode_row_in, wait_in, wait_end_in, encode_wait_in}

-- "Contents, 24 bytes: version 1 (16 bits), zero (16 bits), total length, entries' start, entries' count, waiting removes' start, their
-- count (32 bits each)."
abbrev pub version : List ℕ → ℕ
version s = u16_at s 0

abbrev pub zero_field : List ℕ → ℕ
zero_field s = u16_at s 2

abbrev pub total_length : List ℕ → ℕ
total_length s = u32_at s 4

abbrev pub entries_start : List ℕ → ℕ
entries_start s = u32_at s 8

abbrev pub entries_count : List ℕ → ℕ
entries_count s = u32_at s 12

abbrev pub waits_start_at : List ℕ → ℕ
waits_start_at s = u32_at s 16

abbrev pub waits_count : List ℕ → ℕ
waits_count s = u32_at s 20

unfoldable pub contents : ℕ → ℕ → ℕ → ℕ → ℕ → List ℕ
contents total start count wstart wcount = le16 1 ++ (le16 0 ++ (le32 total ++ (le32 start ++ (le32 count ++ (le32 wstart ++ le32 wcount)))))

module _ (A : Width) where
  -- where the bodies of a replica start and end: "Then V, entries by ascending member, waiting removes by ascending clock"
  unfoldable pub rows_from : Replica → ℕ
  rows_from r = 24 + length (encode_clock_in A r.clock)

  unfoldable pub waits_from : Replica → ℕ
  waits_from r = rows_from r + length (bytes_of (encode_row_in A) r.entries)

  unfoldable pub length_of : Replica → ℕ
  length_of r = waits_from r + length (bytes_of (encode_wait_in A) r.waiting)

  unfoldable pub contents_of : Replica → List ℕ
  contents_of r = contents (length_of r) (rows_from r) (length r.entries) (waits_from r) (length r.waiting)

  unfoldable pub encode_in : Replica → List ℕ
  encode_in r = contents_of r ++ (encode_clock_in A r.clock ++ (bytes_of (encode_row_in A) r.entries ++ bytes_of (encode_wait_in A) r.waiting))

  -- ---- first stage: what the bytes say

  -- contents and rows, by their own counts, fill the named parts exactly. "The lent image is exactly its total length."
  unfoldable pub readable_in : List ℕ → Bool
  readable_in s = alls
      (leb 24 (length s) ∷ eqb (version s) 1 ∷ eqb (zero_field s) 0 ∷ eqb (total_length s) (length s)
      ∷ eqb (entries_start s) (clock_end_in A s 24)
      ∷ eqb (waits_start_at s) (end_after (row_end_in A) s (entries_start s) (entries_count s))
      ∷ eqb (length s) (end_after (wait_end_in A) s (waits_start_at s) (waits_count s))
      ∷ [])

  unfoldable pub image_in : List ℕ → Replica
  image_in s = record {
    clock = clock_in A s 24;
    entries = list_at (row_in A) (row_end_in A) s (entries_start s) (entries_count s);
    waiting = list_at (wait_in A) (wait_end_in A) s (waits_start_at s) (waits_count s);
  }

  -- ---- second stage: what they say is well-formed, its limits among it

  unfoldable pub good_in : Limits → List ℕ → Bool
  good_in l s = readable_in s && well_formed l (image_in s)

-- ---- 12 bytes per dot

abbrev pub encode : Replica → List ℕ
encode = encode_in narrow

abbrev pub readable : List ℕ → Bool
readable = readable_in narrow

abbrev pub image_of : List ℕ → Replica
image_of = image_in narrow

-- the bytes are the image of a well-formed replica
abbrev pub good_image : List ℕ → Bool
good_image = good_in narrow full

-- the replica of an image that is good
unfoldable pub decode : List ℕ → Option Replica
decode s = pick (good_image s) (some (image_of s)) none
