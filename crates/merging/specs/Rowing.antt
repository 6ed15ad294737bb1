-- What the loop over the entries of two images starts from, what one turn leaves, and what the whole loop leaves.
use Rattle.std.specs.Prelude.{ℕ, ◌+◌, ◌*◌, ◌%◌, ◌≤◌, ◌<◌, ◌≡◌, List, [], ◌∷◌, length, get_or, drop}
use Rattle.std.proofs.Math.Option.{Option}
use Rattle.std.proofs.lemmas.List.Edits.{sets}
use Rattle.tables.specs.Table.{All, cons?}
use Rattle.tables.specs.Zip.{said, past, Rise}
use Rattle.replica.specs.Replica.{Entry, Replica, entry?, entry_rows}
use Rattle.layout.specs.Rows.{rows_at, rows_end_at, encode_rows}
use Rattle.changing.specs.Kept.{line_of, met_along}
use Rattle.merging.specs.declared.entries.Dots.{Dots}
use Rattle.merging.specs.declared.entries.Hand.{Hand}
use Rattle.merging.specs.declared.entries.Rows.{Rows}
use Rattle.merging.specs.Ahead.{key_ahead}
use Rattle.merging.specs.Keeping.{dots_in, lines_from, kept_along}

-- entries whose dots a walk along some actors meets, all of them
abbrev pub Goes : List ℕ → List Entry → Type 0
Goes cs es = All (λ e. met_along cs e.clock ≡ e.clock) es

-- rows ahead: m from p on, inside the bytes
pub record RowsAhead (s : List ℕ) (p m : ℕ) (cs : List ℕ) : Type 0 where
  pub edge : rows_end_at s p m < 4294967296
  pub room : rows_end_at s p m ≤ length s
  pub goes : Goes cs (rows_at s p m)

-- at most 64 rows, those ahead inside the bytes
pub record RowsInside (s : List ℕ) (h : Hand) : Type 0 where
  pub edge : rows_end_at s h.at h.left < 4294967296
  pub room : rows_end_at s h.at h.left ≤ length s
  pub few : h.gone + h.left ≤ 64

-- what a step of a walk along members reads of the rows h in s, the dots d, and leaves of them: h'
pub record TookRow (s : List ℕ) (low : ℕ) (h h' : Hand) (d : Dots) : Type 0 where
  pub rows : rows_at s h'.at h'.left ≡ past entry_rows low (rows_at s h.at h.left)
  pub edge : rows_end_at s h'.at h'.left ≡ rows_end_at s h.at h.left
  pub dots : dots_in s d ≡ said entry_rows low (rows_at s h.at h.left)
  pub inside : d.at + 12 * d.left ≤ rows_end_at s h.at h.left
  pub step : h'.gone + h'.left ≡ h.gone + h.left
  pub on : h.gone ≤ h'.gone
  pub hit : key_ahead s h.at h.left ≡ low → h.gone < h'.gone

-- one side: m rows from p on, which are the entries of A; and k, the lines that A has for the members of the other side's entries es
pub record Side (A : Replica) (s : List ℕ) (p m : ℕ) (vs k : List ℕ) (es : List Entry) : Type 0 where
  pub rows : rows_at s p m ≡ A.entries
  pub few : m ≤ 64
  pub ahead : RowsAhead s p m vs
  pub rise : Rise entry_rows (rows_at s p m)
  pub lines : (j i : ℕ) (e : Entry) (rest : List Entry) → drop j es ≡ e ∷ rest → i < length vs → get_or k (16 * j + i) 0 ≡ line_of A e.member (get_or vs i 0)

-- where the walk starts: m rows from p on, k from q on, written from `at` on
abbrev pub starts : ℕ → ℕ → ℕ → ℕ → ℕ → Rows
starts p m q k at = record { x = record { at = p; left = m; gone = 0 }; y = record { at = q; left = k; gone = 0 }; at = at; n = 0 }

pub record Ready (A B : Replica) (s t : List ℕ) (vs ka kb : List ℕ) (w : Rows) : Type 0 where
  pub start : w ≡ starts w.x.at w.x.left w.y.at w.y.left w.at
  pub ours : Side A s w.x.at w.x.left vs ka B.entries
  pub theirs : Side B t w.y.at w.y.left vs kb A.entries
  pub few : length vs ≤ 16

-- the entry that a turn gives to the member low
abbrev pub turn_entry : List ℕ → List ℕ → List ℕ → ℕ → Rows → List Entry → List Entry → Option Entry
turn_entry vs ka kb low w xs ys = entry? low (kept_along (lines_from vs ka (16 * (w.y.gone % 64)) kb (16 * (w.x.gone % 64)) 0 (length vs)) (said entry_rows low xs) (said entry_rows low ys))

-- what one turn leaves
pub record MergedRow (s t vs ka kb : List ℕ) (low : ℕ) (out : List ℕ) (w : Rows) (out' : List ℕ) (w' : Rows) : Type 0 where
  pub small : low < 4294967296
  pub left : rows_at s w'.x.at w'.x.left ≡ past entry_rows low (rows_at s w.x.at w.x.left)
  pub right : rows_at t w'.y.at w'.y.left ≡ past entry_rows low (rows_at t w.y.at w.y.left)
  pub left_edge : rows_end_at s w'.x.at w'.x.left ≡ rows_end_at s w.x.at w.x.left
  pub right_edge : rows_end_at t w'.y.at w'.y.left ≡ rows_end_at t w.y.at w.y.left
  pub left_step : w'.x.gone + w'.x.left ≡ w.x.gone + w.x.left
  pub right_step : w'.y.gone + w'.y.left ≡ w.y.gone + w.y.left
  pub moves : w.x.gone + w.y.gone < w'.x.gone + w'.y.gone
  pub count : w'.n ≡ w.n + length (cons? (turn_entry vs ka kb low w (rows_at s w.x.at w.x.left) (rows_at t w.y.at w.y.left)) [])
  pub ends : w'.at ≡ w.at + length (encode_rows (cons? (turn_entry vs ka kb low w (rows_at s w.x.at w.x.left) (rows_at t w.y.at w.y.left)) []))
  pub short : w'.at ≤ w.at + 200
  pub bytes : out' ≡ sets out w.at (encode_rows (cons? (turn_entry vs ka kb low w (rows_at s w.x.at w.x.left) (rows_at t w.y.at w.y.left)) []))

-- rows written from a place on: how many they are, and where they end
pub record WroteRows (out : List ℕ) (at : ℕ) (es : List Entry) (out' : List ℕ) (n end : ℕ) : Type 0 where
  pub count : n ≡ length es
  pub ends : end ≡ at + length (encode_rows es)
  pub few : n ≤ 128
  pub room : end ≤ at + 25600
  pub bytes : out' ≡ sets out at (encode_rows es)
