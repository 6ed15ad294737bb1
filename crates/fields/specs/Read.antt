-- What readers answer and writers leave, for bytes of any kind.
use Rattle.std.specs.Prelude.{ℕ, ◌+◌, min, ◌≡◌, List, length}
use Rattle.std.proofs.lemmas.List.Edits.{sets}
use Rattle.dots.specs.Clock.{Clock}
use Rattle.clocks.specs.declared.VClock.{VClock}
use Rattle.clocks.specs.VClock.{dots_of}
use Rattle.replica.specs.Replica.{Entry}
use Rattle.layout.specs.Fields.{u32_at}
use Rattle.layout.specs.Clock.{dots_at}

-- the clock at a place, by its own count, but at most 16 dots of it
unfoldable pub clock_read : List ℕ → ℕ → Clock
clock_read s at = dots_at s (at + 4) (min (u32_at s at) 16)

abbrev pub entry_of : ℕ → VClock → Entry
entry_of m c = record { member = m; clock = dots_of c }

-- bytes written at a place, those past the end dropped; the answer is how many they are
pub record Put (before : List ℕ) (at : ℕ) (bytes after : List ℕ) (r : ℕ) : Type 0 where
  pub long : r ≡ length bytes
  pub is : after ≡ sets before at bytes
