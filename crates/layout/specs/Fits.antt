-- "Actor and member are 32-bit unsigned numbers .. Counters are 64-bit unsigned": the numbers of a replica fit their fields.
use Rattle.std.specs.Prelude.{ℕ, ◌<◌, ◌^◌, List}
use Rattle.tables.specs.Table.{All}
use Rattle.dots.specs.declared.Dot.{Dot}
use Rattle.dots.specs.Dot.{actor_of}
use Rattle.dots.specs.Clock.{Clock}
use Rattle.replica.specs.Replica.{Entry, Wait, Replica}
use Rattle.layout.specs.Clock.{Width, narrow}

abbrev pub FitMembers : List ℕ → Type 0
FitMembers = All (λ m. m < 2 ^ 32)

module _ (A : Width) where
  abbrev pub FitsDotIn : Dot → Type 0
  FitsDotIn d = (actor_of d < A.bound) × (d.counter < 2 ^ 64)

  abbrev pub FitsClockIn : Clock → Type 0
  FitsClockIn = All FitsDotIn

  abbrev pub FitsRowIn : Entry → Type 0
  FitsRowIn e = (e.member < 2 ^ 32) × FitsClockIn e.clock

  abbrev pub FitsWaitIn : Wait → Type 0
  FitsWaitIn w = FitsClockIn w.clock × FitMembers w.members

  pub record FitsIn (r : Replica) : Type 0 where
    pub clock_fits : FitsClockIn r.clock
    pub entries_fit : All FitsRowIn r.entries
    pub waiting_fit : All FitsWaitIn r.waiting

-- ---- an actor of 32 bits

abbrev pub FitsClock : Clock → Type 0
FitsClock = FitsClockIn narrow

abbrev pub FitsRow : Entry → Type 0
FitsRow = FitsRowIn narrow

abbrev pub FitsWait : Wait → Type 0
FitsWait = FitsWaitIn narrow

abbrev pub Fits : Replica → Type 0
Fits = FitsIn narrow
