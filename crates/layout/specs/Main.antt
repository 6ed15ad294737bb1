-- The theorems on the replica image of document 01: the round trip both ways, what is accepted, and the lengths.
use Rattle.std.specs.Prelude.{ℕ, ◌≤◌, ◌<◌, List, [], ◌∷◌, length, get_or}
use Rattle.dots.specs.Dot.{dot}
use Rattle.replica.specs.Replica.{Replica}
use Rattle.layout.specs.Clock.{clock_end}
use Rattle.layout.specs.Rows.{row_end, places_at, wait_end, wait_places_at}
use Rattle.layout.specs.Image.{entries_start, entries_count, waits_start_at, waits_count}

abbrev pub empty_replica : Replica
empty_replica = record { clock = []; entries = []; waiting = [] }

-- "E, whole, V {1:1}, entry 5 {1:1}, in hex"
abbrev pub E : Replica
E = record { clock = dot 1 1 ∷ []; entries = record { member = 5; clock = dot 1 1 ∷ [] } ∷ []; waiting = [] }

-- ---- every read is inside the bytes

pub record Inside (b : List ℕ) : Type 0 where
  pub clock_inside : clock_end b 24 ≤ length b
  pub row_inside : (i : ℕ) → i < entries_count b → row_end b (get_or (places_at b (entries_start b) (entries_count b)) i 0) ≤ length b
  pub wait_inside : (i : ℕ) → i < waits_count b → wait_end b (get_or (wait_places_at b (waits_start_at b) (waits_count b)) i 0) ≤ length b
