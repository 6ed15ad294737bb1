-- What stays of the entries of one image beside a side that has none: the dots above that side's line.
use Rattle.std.specs.Prelude.{ℕ, suc, ◌+◌, ◌*◌, ◌≤◌, ◌<◌, ◌≡◌, Bool, List, [], ◌∷◌, ◌++◌, length, get_or, Option, Some}
use Rattle.std.specs.Option.{is_none}
use Rattle.std.proofs.lemmas.List.Edits.{sets}
use Rattle.std.proofs.Math.Seq.{slice}
use Rattle.tables.specs.Table.{pick, cons?}
use Rattle.dots.specs.Clock.{Clock}
use Rattle.replica.specs.Replica.{Entry, entry?}
use Rattle.layout.specs.Rows.{rows_at, rows_end_at, encode_rows}
use Rattle.merging.specs.declared.entries.Rows.{Rows}
use Rattle.merging.specs.Keeping.{lines_from, kept_along}
use Rattle.merging.specs.Rowing.{Goes, RowsAhead}

-- where the line of entry i stands: each has its own, or there is one for all
abbrev pub line_for : Bool → ℕ → ℕ
line_for own i = pick own (16 * i) 0

-- lines for the actors vs: of each entry, or one for all
pub record Lined (vs l : List ℕ) (own : Bool) : Type 0 where
  pub few : length vs ≤ 16
  pub wide : pick own 1024 16 ≤ length l

-- h of the n numbers of a line reach its last one that isn't 0
pub record Reach (l : List ℕ) (from n h : ℕ) : Type 0 where
  pub within : h ≤ n
  pub zeros : (i : ℕ) → h ≤ i → i < n → get_or l (from + i) 0 ≡ 0

-- the first n numbers of a line count so far, where it is the one for all entries
pub record Shared (l : List ℕ) (n : ℕ) (one : Option ℕ) : Type 0 where
  pub reach : (h : ℕ) → one ≡ Some h → Reach l 0 n h

-- what stays of a clock
abbrev pub sifted : List ℕ → List ℕ → ℕ → Clock → Clock
sifted vs l from x = kept_along (lines_from vs l from l from 0 (length vs)) x []

-- what stays of entries, the first of which is entry i
unfoldable pub sifted_rows : List ℕ → List ℕ → Bool → ℕ → List Entry → List Entry
sifted_rows vs l own i [] = []
sifted_rows vs l own i (e ∷ es) = cons? (entry? e.member (sifted vs l (line_for own i) e.clock)) (sifted_rows vs l own (suc i) es)

module _ (s vs l : List ℕ) (own : Bool) where
  -- what stays of the rows ahead
  abbrev pub rows_ahead : Rows → List Entry
  rows_ahead w = sifted_rows vs l own w.x.gone (rows_at s w.x.at w.x.left)

  -- from w to w' some rows ahead went by
  pub record Moved (w w' : Rows) : Type 0 where
    pub edge : rows_end_at s w'.x.at w'.x.left ≡ rows_end_at s w.x.at w.x.left
    pub goes : Goes vs (rows_at s w.x.at w.x.left) → Goes vs (rows_at s w'.x.at w'.x.left)
    pub step : w'.x.gone + w'.x.left ≡ w.x.gone + w.x.left
    pub on : w.x.gone ≤ w'.x.gone
    pub room : w'.at + 200 * w.x.gone ≤ w.at + 200 * w'.x.gone
    pub few : w'.n + w.x.gone ≤ w.n + w'.x.gone
    pub count : w'.n + length (rows_ahead w') ≡ w.n + length (rows_ahead w)

  -- they stay as they are
  pub record Passed (w w' : Rows) : Type 0 where
    pub moved : Moved w w'
    pub start : w.x.at ≤ w'.x.at
    pub inside : w'.x.at ≤ length s
    pub at : w'.at + w.x.at ≡ w.at + w'.x.at
    pub bytes : encode_rows (rows_ahead w) ≡ slice w.x.at w'.x.at s ++ encode_rows (rows_ahead w')

  -- what stays of them was written
  pub record Sifted (out : List ℕ) (w : Rows) (out' : List ℕ) (w' : Rows) : Type 0 where
    pub moved : Moved w w'
    pub ends : w'.at + length (encode_rows (rows_ahead w')) ≡ w.at + length (encode_rows (rows_ahead w))
    pub store : sets out' w'.at (encode_rows (rows_ahead w')) ≡ sets out w.at (encode_rows (rows_ahead w))

-- what a turn starts from
pub record SiftReady (s vs l : List ℕ) (one : Option ℕ) (w : Rows) : Type 0 where
  pub lined : Lined vs l (is_none one)
  pub reach : Shared l (length vs) one
  pub ahead : RowsAhead s w.x.at w.x.left vs
  pub few : w.x.gone + w.x.left ≤ 64
  pub place : w.at ≤ 65536 + 200 * w.x.gone
  pub kept : w.n ≤ w.x.gone
