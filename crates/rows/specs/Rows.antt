-- "An entry is member, clock. A waiting remove is clock, 32-bit count, ascending members." What stands at any place of any bytes, read
-- within the limits: at most 16 dots of a clock, at most 32 members of a waiting remove.
use Prim.Native.Nat.{ℕ, ◌+◌, min, compare}
use Rattle.std.specs.Prelude.{Bool, List, ◌++◌, length, take}
use Rattle.tables.specs.Table.{has}
use Rattle.dots.specs.declared.Member.{Member}
use Rattle.clocks.specs.declared.VClock.{VClock}
use Rattle.clocks.specs.VClock.{dots_of, vclock}
use Rattle.replica.specs.Replica.{Wait}
use Rattle.layout.specs.Fields.{u32_at, le32}
use Rattle.layout.specs.Clock.{clock_end}
use Rattle.layout.specs.Rows.{members_at, encode_members}
use Rattle.fields.specs.Read.{clock_read}
use Rattle.rows.specs.declared.Row.{Row}
use Rattle.rows.specs.declared.WaitRow.{WaitRow}

unfoldable pub row_read : List ℕ → ℕ → Row
row_read s at = record { member = record { 0 = u32_at s at }; clock = vclock (clock_read s (at + 4)) }

unfoldable pub wait_read : List ℕ → ℕ → WaitRow
wait_read s at = record { clock = vclock (clock_read s at); count = u32_at s (clock_end s at) }

-- the members after their count at a place, at most 32 of them
abbrev pub named_at : List ℕ → ℕ → List ℕ
named_at s q = members_at s (q + 4) (min (u32_at s q) 32)

-- the waiting remove at a place names the member
unfoldable pub named_read : List ℕ → ℕ → Member → Bool
named_read s at m = has compare m.0 (named_at s (clock_end s at))

-- "32-bit count, ascending members"
unfoldable pub counted : List ℕ → List ℕ
counted ms = le32 (length ms) ++ encode_members ms

-- a clock and the first 32 members of a list, as a waiting remove
abbrev pub wait_of : VClock → List ℕ → Wait
wait_of c ms = record { clock = dots_of c; members = take 32 ms }
