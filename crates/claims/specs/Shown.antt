-- The clock by which `contains` says that a member can be removed.
use Rattle.std.specs.Prelude.{ℕ, List}
use Rattle.clocks.specs.declared.VClock.{VClock}
use Rattle.clocks.specs.VClock.{vclock}
use Rattle.replica.specs.Replica.{entry}
use Rattle.layout.specs.Image.{image_of}

abbrev pub shown : List ℕ → ℕ → VClock
shown a m = vclock (entry (image_of a) m)
