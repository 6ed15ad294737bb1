-- What happens to a replica whose numbers fit their fields gives one whose numbers fit: no event makes a number that it was not given.
use Rattle.std.specs.Prelude.{[], ◌∷◌}
use Rattle.replica.specs.History.{Add, Remove, Event, Apply, MergeWith, MergeInto, Reset}
use Rattle.layout.specs.Fits.{FitMembers, FitsClock, Fits}

-- the numbers of an event's arguments fit
abbrev pub FitsEvent : Event → Type 0
FitsEvent (Apply (Add d ms)) = FitsClock (d ∷ []) × FitMembers ms
FitsEvent (Apply (Remove c ms)) = FitsClock c × FitMembers ms
FitsEvent (MergeWith B) = Fits B
FitsEvent (MergeInto B) = Fits B
FitsEvent (Reset c) = Unit {0}
