-- Waiting removes, as clocks that name members: which dots they cover, and what joining two lists of them "by equal clock" gives.
use Rattle.std.specs.Prelude.{ℕ, ◌≡◌, ◌≢◌, List, [], T, leb}
use Rattle.std.proofs.Math.Option.{Option, some}
use Rattle.tables.specs.Table.{get, Normal}
use Rattle.dots.specs.Dot.{clocks}
use Rattle.dots.specs.Clock.{Clock, count}
use Rattle.replica.specs.Replica.{Wait, waits, member_sets, names}

-- ---- which dots they cover

-- a waiting remove, by its clock, that names the member and covers the dot
abbrev pub Killer : List Wait → ℕ → ℕ → ℕ → Type 0
Killer ws m a n = (c : Clock) × T (names (get waits ws c) m) × T (leb n (count c a))

-- ---- two with an equal clock are joined

-- the members, where there are any, have a property
abbrev pub Each : (List ℕ → Type 0) → Option (List ℕ) → Type 0
Each P o = (ms : List ℕ) → o ≡ some ms → P ms

-- the clock of a waiting remove is normalised and not empty, and its members are a set
abbrev pub GoodWait : Clock → List ℕ → Type 0
GoodWait c ms = Normal clocks c × (c ≢ []) × Normal member_sets ms

-- two sets of members are equal if both are there or neither is, and they name the same
abbrev pub Sets : Option (List ℕ) → Type 0
Sets = Each (Normal member_sets)
