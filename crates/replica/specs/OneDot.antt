-- What becomes of one dot of one member. In Booleans: `h` says that a side holds it, `s` that its clock has seen it, `k` that a waiting remove that
-- names the member covers it. In numbers: `e` and `f` are the counters that two entries have for an actor, `v` and `w` those of the clocks.
use Rattle.std.specs.Prelude.{ℕ, Bool, not, ◌&&◌, ◌||◌}
use Rattle.tables.specs.Truth.{imp}
use Rattle.tables.specs.Table.{pick}

-- "a dot stays in a member's entry if both hold it, or one holds it and the other's V doesn't cover it"
abbrev pub stays : Bool → Bool → Bool → Bool → Bool
stays hA hB sA sB = hA && hB || (hA && not sB || hB && not sA)

-- it stays, and no waiting remove covers it
abbrev pub lives : Bool → Bool → Bool → Bool → Bool → Bool → Bool
lives hA hB sA sB kA kB = stays hA hB sA sB && not (kA || kB)

-- a well-formed replica holds only what it has seen, and nothing that a waiting remove covers
abbrev pub sane : Bool → Bool → Bool → Bool
sane h s k = imp h (s && not k)

-- `k` after a merge: of one side's waiting removes, and of each of them unless the merged clock has seen the dot
abbrev pub rest : Bool → Bool → Bool → Bool → Bool
rest k kA kB s = imp k (kA || kB) && imp (kA || kB) (k || s)

-- ---- the same in numbers: which of the two entries' counters is kept

-- the first entry's counter where that dot stays, else the second's where that one does, else 0
abbrev pub kept_one : (ℕ → Bool) → ℕ → ℕ → ℕ
kept_one stay e f = pick (stay e) e (pick (stay f) f 0)
