-- The same tests in the order of one pass over the bytes, as the check's loops make them.
use Rattle.std.specs.Prelude.{Bool, true, ◌&&◌, List, [], ◌∷◌, ℕ, suc, zero, ◌+◌, ◌*◌, leb, ltb, eqb, length}
use Rattle.tables.specs.Table.{every}
use Rattle.tables.specs.Ascending.{is_lt}
use Rattle.dots.specs.Clock.{Clock, covers, cmp_clock}
use Rattle.dots.specs.Rising.{rising}
use Rattle.replica.specs.Replica.{Entry, Replica}
use Rattle.replica.specs.Limits.{Limits, full}
use Rattle.replica.specs.WellFormed.{spared}
use Rattle.layout.specs.Fields.{u32_at}
use Rattle.layout.specs.Lists.{end_after}
use Rattle.layout.specs.Clock.{Width, narrow, clock_in, clock_end_in}
use Rattle.layout.specs.Rows.{members_at, row_end_in, wait_end_in}
use Rattle.layout.specs.Image.{version, zero_field, total_length, entries_start, entries_count, waits_start_at, waits_count, image_in}

-- tests in a row, and a last one, which may be a whole rest
abbrev pub chain : List Bool → Bool → Bool
chain [] b = b
chain (t ∷ ts) b = t && chain ts b

-- "ascending members": they rise from low on; "Ascending means strictly so, nothing twice."
unfoldable pub rising_members : ℕ → List ℕ → Bool
rising_members low [] = true
rising_members low (m ∷ ms) = leb low m && rising_members (m + 1) ms

-- at most `most` members, ascending, stand at q after their count
abbrev pub named_tests : ℕ → List ℕ → ℕ → List Bool
named_tests most s q = leb (q + 4) (length s) ∷ leb (u32_at s q) most ∷ leb (q + (4 + 4 * u32_at s q)) (length s) ∷ []

unfoldable pub good_members_in : ℕ → List ℕ → ℕ → Bool
good_members_in most s q = chain (named_tests most s q) (rising_members 0 (members_at s (q + 4) (u32_at s q)))

-- the contents
abbrev pub contents_tests : Limits → List ℕ → List Bool
contents_tests l s = leb 24 (length s) ∷ eqb (version s) 1 ∷ eqb (zero_field s) 0 ∷ eqb (total_length s) (length s) ∷ leb (entries_count s) l.members ∷ []

unfoldable pub good_contents_in : Limits → List ℕ → Bool
good_contents_in l s = chain (contents_tests l s) (leb (waits_count s) l.waiting)

-- "V covers them"; "no entry holds a dot covered by a waiting remove that names its member"
unfoldable pub good_entry : Replica → Entry → Bool
good_entry r e = covers r.clock e.clock && every (spared e) r.waiting

module _ (A : Width) (l : Limits) where
  -- a normalised clock stands at a place
  abbrev pub clock_tests : List ℕ → ℕ → List Bool
  clock_tests s at = leb (at + 4) (length s) ∷ leb (u32_at s at) l.actors ∷ leb (clock_end_in A s at) (length s) ∷ []

  unfoldable pub good_clock_in : List ℕ → ℕ → Bool
  good_clock_in s at = chain (clock_tests s at) (rising 0 (clock_in A s at))

  -- n entries stand from p on, their members rising from low on, each with a clock that is not empty
  abbrev pub row_tests : List ℕ → ℕ → ℕ → List Bool
  row_tests s p low = leb (p + 4) (length s) ∷ leb low (u32_at s p) ∷ good_clock_in s (p + 4) ∷ ltb 0 (u32_at s (p + 4)) ∷ []

  unfoldable pub good_rows_in : List ℕ → ℕ → ℕ → ℕ → Bool
  good_rows_in s p low zero = true
  good_rows_in s p low (suc n) = chain (row_tests s p low) (good_rows_in s (row_end_in A s p) (u32_at s p + 1) n)

  -- n waiting removes stand from p on, each clock after the one before it; the first after `last`, which is [] at the start
  abbrev pub wait_tests : List ℕ → ℕ → Clock → List Bool
  wait_tests s p last = good_clock_in s p ∷ is_lt (cmp_clock last (clock_in A s p)) ∷ good_members_in l.named s (clock_end_in A s p) ∷ []

  unfoldable pub good_waits_in : List ℕ → ℕ → Clock → ℕ → Bool
  good_waits_in s p last zero = true
  good_waits_in s p last (suc n) = chain (wait_tests s p last) (good_waits_in s (wait_end_in A s p) (clock_in A s p) n)

  -- the parts, one after the other
  abbrev pub parts_tests : List ℕ → List Bool
  parts_tests s =
      good_contents_in l s ∷ good_clock_in s 24 ∷ eqb (entries_start s) (clock_end_in A s 24) ∷ good_rows_in s (entries_start s) 0 (entries_count s)
      ∷ eqb (waits_start_at s) (end_after (row_end_in A) s (entries_start s) (entries_count s)) ∷ good_waits_in s (waits_start_at s) [] (waits_count s) ∷ []

  unfoldable pub good_parts_in : List ℕ → Bool
  good_parts_in s = chain (parts_tests s) (eqb (end_after (wait_end_in A) s (waits_start_at s) (waits_count s)) (length s))

  -- all tests of the check
  unfoldable pub checks_in : List ℕ → Bool
  checks_in s = good_parts_in s && every (good_entry (image_in A s)) (image_in A s).entries

-- ---- 12 bytes per dot, the limits of document 01

abbrev pub good_members : List ℕ → ℕ → Bool
good_members = good_members_in 32

abbrev pub good_clock : List ℕ → ℕ → Bool
good_clock = good_clock_in narrow full

abbrev pub good_rows : List ℕ → ℕ → ℕ → ℕ → Bool
good_rows = good_rows_in narrow full

abbrev pub good_waits : List ℕ → ℕ → Clock → ℕ → Bool
good_waits = good_waits_in narrow full

abbrev pub good_contents : List ℕ → Bool
good_contents = good_contents_in full

abbrev pub good_parts : List ℕ → Bool
good_parts = good_parts_in narrow full

abbrev pub checks : List ℕ → Bool
checks = checks_in narrow full
