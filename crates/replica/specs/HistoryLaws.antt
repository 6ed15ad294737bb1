-- A history of events whose arguments are well-formed takes well-formed replicas to well-formed ones, limits aside.
use Rattle.std.specs.Prelude.{Bool, true}
use Rattle.dots.specs.Clock.{normal}
use Rattle.replica.specs.History.{Add, Remove, Event, Apply, MergeWith, MergeInto, Reset}
use Rattle.replica.specs.WellFormed.{sound}

-- the event's arguments are well-formed: a remove's clock is normalised, and the other replica of a merge well-formed, limits aside
unfoldable pub fair : Event → Bool
fair (Apply (Add d ms)) = true
fair (Apply (Remove c ms)) = normal c
fair (MergeWith B) = sound B
fair (MergeInto B) = sound B
fair (Reset c) = true
