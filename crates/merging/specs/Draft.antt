-- What the parts of a result's draft start from, and what they promise.
use Rattle.std.specs.Prelude.{ℕ, ◌<◌, ◌≤◌, ◌+◌, ◌≡◌, List, map, ltb, length, get_or}
use Rattle.std.proofs.lemmas.List.Edits.{sets}
use Rattle.tables.specs.Table.{All}
use Rattle.tables.specs.Zip.{Rise}
use Rattle.dots.specs.Clock.{Clock, count}
use Rattle.replica.specs.Replica.{Entry, Wait, entry_rows}
use Rattle.layout.specs.Fields.{u32_at}
use Rattle.layout.specs.Rows.{rows_end_at, encode_rows, encode_waits}
use Rattle.layout.specs.Image.{image_of, entries_start, entries_count}
use Rattle.results.specs.declared.Draft.{Draft}
use Rattle.kills.specs.Lines.{members_of, waits_of}
use Rattle.kills.specs.Laws.{Ordered}
use Rattle.image.specs.declared.Image.{Image}
use Rattle.merging.specs.Waiting.{most_named}

-- the counters of a clock for some actors
pub record Counts (c : Clock) (vs r : List ℕ) : Type 0 where
  pub is : (i : ℕ) → i < length vs → get_or r i 0 ≡ count c (get_or vs i 0)

-- one side: bytes with ascending entries and waiting removes where their contents say, and x, which tells where each stands
pub record Held (s : List ℕ) (x : Image) : Type 0 where
  pub clock_few : u32_at s 24 ≤ 16
  pub number : x.entries ≡ entries_count s
  pub few : x.entries ≤ 64
  pub edge : rows_end_at s (entries_start s) (entries_count s) < 65536
  pub room : rows_end_at s (entries_start s) (entries_count s) ≤ length s
  pub rise : Rise entry_rows (image_of s).entries
  pub members : members_of s x.places x.entries ≡ map (λ e. e.member) (image_of s).entries
  pub waiting : waits_of s x.starts x.waits ≡ (image_of s).waiting
  pub ordered : All Ordered (image_of s).waiting

-- entries and waiting removes, written from a start on where they stand in a result's image
pub record DraftOf (es : List Entry) (ws : List Wait) (start : ℕ) (d : Draft) (out out' : List ℕ) : Type 0 where
  pub entries : d.entries ≡ length es
  pub waits : d.waits ≡ length ws
  pub most : ltb 32 d.most ≡ ltb 32 (most_named ws)
  pub middle : d.middle ≡ start + length (encode_rows es)
  pub end : d.end ≡ d.middle + length (encode_waits ws)
  pub bytes : out' ≡ sets (sets out start (encode_rows es)) d.middle (encode_waits ws)
