-- What the checks of an image's parts answer: the place after what stands at a place, and none where it does not stand.
use Rattle.std.specs.Prelude.{ℕ, zero, suc, ◌+◌, ◌*◌, ◌≤◌, ◌<◌, Bool, true, ◌&&◌, List, [], ◌∷◌, leb, ltb, length, replicate, Option}
use Rattle.std.specs.Bool.{then_some}
use Rattle.std.proofs.lemmas.List.Edits.{sets}
use Rattle.dots.specs.Clock.{Clock}
use Rattle.layout.specs.Fields.{u32_at}
use Rattle.layout.specs.Clock.{clock_end, narrow}
use Rattle.layout.specs.Rows.{row_end, places_at, rows_end_at, wait_end, wait_places_at, waits_end_at}
use Rattle.replica.specs.Limits.{full}
use Rattle.layout.specs.Good.{good_clock, good_members, good_waits, chain, wait_tests}
use Rattle.scan.specs.declared.Table.{Table}

-- a count stands at a place, and after it so many things of `width` bytes, at most `most`
abbrev pub count_tests : List ℕ → ℕ → ℕ → ℕ → List Bool
count_tests s at width most = leb (at + 4) (length s) ∷ leb (u32_at s at) most ∷ leb (at + (4 + width * u32_at s at)) (length s) ∷ []

unfoldable pub counted : List ℕ → ℕ → ℕ → ℕ → Option ℕ
counted s at width most = then_some (chain (count_tests s at width most) true) (u32_at s at)

unfoldable pub clock_ends : List ℕ → ℕ → Option ℕ
clock_ends s at = then_some (good_clock s at) (clock_end s at)

unfoldable pub members_end : List ℕ → ℕ → Option ℕ
members_end s q = then_some (good_members s q) (q + (4 + 4 * u32_at s q))

-- the dots of the clock at a place lie inside, if it has any
pub record DotsIn (s : List ℕ) (at : ℕ) : Type 0 where
  pub room : 0 < u32_at s at → at + (4 + 12 * u32_at s at) ≤ length s

-- an entry is laid at p: its member is at least low, it has 1 to 16 dots, and they lie inside. Whether they rise is not asked: those that fit
-- the replica's clock do
abbrev pub laid_tests : List ℕ → ℕ → ℕ → List Bool
laid_tests s p low = leb low (u32_at s p) ∷ ltb 0 (u32_at s (p + 4)) ∷ leb (u32_at s (p + 4)) 16 ∷ leb (row_end s p) (length s) ∷ []

unfoldable pub row_ends : List ℕ → ℕ → ℕ → Option ℕ
row_ends s p low = then_some (chain (laid_tests s p low) true) (row_end s p)

-- n of them, their members rising from low on
unfoldable pub laid_rows : List ℕ → ℕ → ℕ → ℕ → Bool
laid_rows s p low zero = true
laid_rows s p low (suc n) = chain (laid_tests s p low) (laid_rows s (row_end s p) (u32_at s p + 1) n)

-- a waiting remove whose clock is after `last`
unfoldable pub wait_ends : List ℕ → ℕ → Clock → Option ℕ
wait_ends s p last = then_some (chain (wait_tests narrow full s p last) true) (wait_end s p)

-- ---- several, one after the other

-- places are 32-bit numbers inside the bytes
abbrev pub inside : List ℕ → ℕ → Bool
inside s at = leb (length s) 4294967295 && leb at (length s)

-- where they end, and where each stands
abbrev pub table_of : (most next : ℕ) → List ℕ → Table most
table_of most next starts = record { next = next; places = sets (replicate most 0) 0 starts }

unfoldable pub rows_table : List ℕ → ℕ → ℕ → Option (Table 64)
rows_table s at n = then_some (leb n 64 && (inside s at && laid_rows s at 0 n)) (table_of 64 (rows_end_at s at n) (places_at s at n))

unfoldable pub waits_table : List ℕ → ℕ → ℕ → Option (Table 16)
waits_table s at n = then_some (leb n 16 && (inside s at && good_waits s at [] n)) (table_of 16 (waits_end_at s at n) (wait_places_at s at n))
