-- An entry's clock against the replica's clock v and the kill line of its member, in one walk along v.
use Rattle.std.specs.Prelude.{ℕ, suc, ◌+◌, ◌*◌, ◌≤◌, ◌<◌, Bool, true, false, ◌&&◌, List, [], ◌∷◌, eqb, leb, ltb, length, get_or}
use Rattle.tables.specs.Table.{pick}
use Rattle.dots.specs.declared.Dot.{Dot}
use Rattle.dots.specs.Dot.{actor_of}
use Rattle.dots.specs.Clock.{Clock}
use Rattle.layout.specs.Clock.{clock_at}
use Rattle.layout.specs.Rows.{row_end}
use Rattle.image.specs.declared.Meeting.{Meeting}
use Rattle.image.specs.declared.Meeting.TheVariants.{Another, Within, Outside}

-- a counter that d covers, above the line
abbrev pub within : ℕ → Dot → ℕ → Bool
within c d line = leb c d.counter && ltb line c

-- a dot against a dot of v and its number of the line: of another actor, within, or not
unfoldable pub met_of : Dot → Dot → ℕ → Meeting
met_of d x line = pick (eqb (actor_of d) (actor_of x)) (pick (within d.counter x line) Within Outside) Another

-- each dot of a clock is one of v's actors, and within; number q of the table is the line's for the first actor
unfoldable pub fits : List ℕ → ℕ → Clock → Clock → Bool
fits t q [] [] = true
fits t q [] (d ∷ ds) = false
fits t q (x ∷ v) [] = true
fits t q (x ∷ v) (d ∷ ds) = pick (eqb (actor_of d) (actor_of x)) (within d.counter x (get_or t q 0) && fits t (suc q) v ds) (fits t (suc q) v (d ∷ ds))

-- where line i of a table stands; or one line for all
abbrev pub line_for : Bool → ℕ → ℕ
line_for own i = pick own (16 * i) 0

-- the entries at places, the first with line i
unfoldable pub fit_all : List ℕ → List ℕ → Clock → Bool → ℕ → List ℕ → Bool
fit_all t s v own i [] = true
fit_all t s v own i (p ∷ ps) = fits t (line_for own i) v (clock_at s (p + 4)) && fit_all t s v own (suc i) ps

-- the entry at each of the first n places ends inside
pub record EachInside (s places : List ℕ) (n : ℕ) : Type 0 where
  pub each : (i : ℕ) → i < n → row_end s (get_or places i 0) ≤ length s
