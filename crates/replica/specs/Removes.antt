-- Entries under removes: what is left of each member's clock, dot by dot.
use Rattle.std.specs.Prelude.{ℕ, List}
use Rattle.tables.specs.Table.{get, Normal}
use Rattle.dots.specs.Dot.{clocks}
use Rattle.replica.specs.Replica.{Entry, entries}

-- entries ascending by member, each with a normalised clock that is not empty
pub record FineEntries (es : List Entry) : Type 0 where
  pub rows : Normal entries es
  pub each : (m : ℕ) → Normal clocks (get entries es m)
