-- What code goes by: one turn along a list in bytes, from either end; the thing at a place; and what each test of a pass says.
use Rattle.std.specs.Prelude.{◌≡◌, Bool, true, T, length}
use mathlib.Core.List.{List, [], ◌∷◌}
use Prim.Native.Nat.{ℕ, ◌+◌, ◌*◌, ◌≤◌, ◌<◌}
use Rattle.tables.specs.Ascending.{is_lt}
use Rattle.dots.specs.Clock.{Clock, cmp_clock}
use Rattle.dots.specs.Rising.{rising}
use Rattle.layout.specs.Fields.{u32_at}
use Rattle.layout.specs.Clock.{clock_at, clock_end}
use Rattle.layout.specs.Rows.{row_end, wait_end, members_at}
use Rattle.layout.specs.Good.{rising_members, good_members, good_clock, good_rows, good_waits}

-- ---- what the tests say

-- each of the tests in a row
abbrev pub Each : List Bool → Bool → Type 0
Each [] b = T b
Each (t ∷ ts) b = T t × Each ts b

-- a clock that passes
pub record Stands (s : List ℕ) (at : ℕ) : Type 0 where
  pub count : u32_at s at ≤ 16
  pub room : at + (4 + 12 * u32_at s at) ≤ length s
  pub rises : rising 0 (clock_at s at) ≡ true

-- members that pass
pub record Named (s : List ℕ) (q : ℕ) : Type 0 where
  pub few : u32_at s q ≤ 32
  pub room : q + (4 + 4 * u32_at s q) ≤ length s
  pub rises : rising_members 0 (members_at s (q + 4) (u32_at s q)) ≡ true

-- an entry that passes, and the ones after it
pub record EntryStands (s : List ℕ) (p low n : ℕ) : Type 0 where
  pub above : low ≤ u32_at s p
  pub clock_good : good_clock s (p + 4) ≡ true
  pub held : 0 < u32_at s (p + 4)
  pub inside : row_end s p ≤ length s
  pub others : good_rows s (row_end s p) (u32_at s p + 1) n ≡ true

-- a waiting remove that passes, and the ones after it
pub record WaitStands (s : List ℕ) (p : ℕ) (last : Clock) (n : ℕ) : Type 0 where
  pub clock_good : good_clock s p ≡ true
  pub later : is_lt (cmp_clock last (clock_at s p)) ≡ true
  pub members_good : good_members s (clock_end s p) ≡ true
  pub inside : wait_end s p ≤ length s
  pub others : good_waits s (wait_end s p) (clock_at s p) n ≡ true
