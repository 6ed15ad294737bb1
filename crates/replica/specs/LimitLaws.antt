-- Which limits an operation can break, and that what is granted is well-formed, limits included.
use Rattle.std.specs.Prelude.{ℕ, ◌≤◌, Bool, ◌&&◌, leb, eqb, length}
use Rattle.std.proofs.Math.Bool.{true}
use Rattle.tables.specs.Table.{pick}
use Rattle.dots.specs.Clock.{normal}
use Rattle.replica.specs.Replica.{Wait, Replica}
use Rattle.replica.specs.Limits.{Limits, broken, well_formed}
use Rattle.replica.specs.History.{Add, Remove, Event, Apply, MergeWith, MergeInto, Reset, step}

-- ---- the clocks of waiting removes

abbrev pub Short : Limits → Wait → Type 0
Short l w = length w.clock ≤ l.actors

-- ---- which numbers an operation on a replica within the limits can give

-- 6 to 9 by what is broken
abbrev pub given : Bool → Bool → Bool → Bool → ℕ
given six seven eight nine = pick six 6 (pick seven 7 (pick eight 8 (pick nine 9 0)))

-- ---- what is granted is well-formed

-- the event's arguments are well-formed, limits included
unfoldable pub fits : Limits → Event → Bool
fits l (Apply (Add d ms)) = true
fits l (Apply (Remove c ms)) = normal c && leb (length c) l.actors
fits l (MergeWith B) = well_formed l B
fits l (MergeInto B) = well_formed l B
fits l (Reset c) = true

-- the judge of the limits, and a history under it: every replica on the way is well-formed
unfoldable pub within_limits : Limits → Event → Replica → Bool
within_limits l e A = eqb (broken l (step e A)) 0
