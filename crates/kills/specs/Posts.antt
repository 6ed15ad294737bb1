-- What a padded copy tells, what raising by one dot or one member, and what a line that is nowhere above the floor.
use Rattle.std.specs.Prelude.{ℕ, ◌+◌, ◌*◌, ◌≤◌, ◌<◌, ◌≡◌, Bool, false, List, ◌∷◌, length, get_or, drop}
use Rattle.tables.specs.Zip.{Rows}
use Rattle.dots.specs.declared.Dot.{Dot}
use Rattle.dots.specs.Dot.{dots}
use Rattle.replica.specs.Replica.{member_rows}
use Rattle.kills.specs.Lines.{along, raise_from, raised}

-- the bytes from a place on, with zeros past the end
pub record Padded (t : List ℕ) (from : ℕ) (copy : List ℕ) : Type 0 where
  pub same : (j : ℕ) → j < 192 → get_or copy j 0 ≡ get_or t (from + j) 0

-- what some dots still raise of a line, from number i on; and some members of a table, from line i on
abbrev pub numbers_by : List ℕ → List ℕ → ℕ → List Dot → List ℕ
numbers_by actors line i ds = raise_from line i (along dots (drop i actors) ds)

abbrev pub lines_by : List ℕ → List ℕ → List ℕ → ℕ → List ℕ → List ℕ
lines_by ms line out i rs = raised out i (along member_rows (drop i ms) rs) line

-- what a row and any rows after it raise from place i on is what those after it raise from place j on
pub record UpTo (N : Rows) (by : List ℕ → ℕ → List N.Row → List ℕ) (r : N.Row) (i : ℕ) (out : List ℕ) (j : ℕ) (out' : List ℕ) : Type 0 where
  pub same : (rs : List N.Row) → by out' j rs ≡ by out i (r ∷ rs)

-- a line that is not above the floor is nowhere above it
pub record Compared (line floor : List ℕ) (b : Bool) : Type 0 where
  pub under : b ≡ false → (j : ℕ) → j < 16 → get_or line j 0 ≤ get_or floor j 0

-- the first n lines of a table are nowhere below the floor
pub record Founded (floor : List ℕ) (n : ℕ) (t : List ℕ) : Type 0 where
  pub least : (i j : ℕ) → i < n → j < 16 → 16 * i + j < length t → get_or floor j 0 ≤ get_or t (16 * i + j) 0
