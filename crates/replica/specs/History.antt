-- What can happen to a replica, as data, and what becomes of it: one event after the other, each granted, or each under a judge.
use Rattle.std.specs.Prelude.{ℕ, Bool, List, [], ◌∷◌}
use Rattle.tables.specs.Table.{pick}
use Rattle.dots.specs.declared.Dot.{Dot}
use Rattle.dots.specs.Clock.{Clock}
use Rattle.replica.specs.Replica.{Replica}
use Rattle.replica.specs.Rules.{add, remove, merge, reset}

-- "An operation is an add carrying a dot, or a remove; a remove's clock and either's members come beside it."
pub data Op : Type 0 where
  Add : Dot → List ℕ → Op
  Remove : Clock → List ℕ → Op

unfoldable pub apply : Op → Replica → Replica
apply (Add d ms) A = add d ms A
apply (Remove c ms) A = remove c ms A

-- an operation; a merge with another replica, as the first or as the second of the two; a reset
pub data Event : Type 0 where
  Apply : Op → Event
  MergeWith : Replica → Event
  MergeInto : Replica → Event
  Reset : Clock → Event

unfoldable pub step : Event → Replica → Replica
step (Apply o) A = apply o A
step (MergeWith B) A = merge A B
step (MergeInto B) A = merge B A
step (Reset c) A = reset c A

unfoldable pub run : List Event → Replica → Replica
run [] A = A
run (e ∷ es) A = run es (step e A)

-- the same under a judge, who grants an event or refuses it: what is refused changes nothing
unfoldable pub judged : (Event → Replica → Bool) → List Event → Replica → Replica
judged grants [] A = A
judged grants (e ∷ es) A = judged grants es (pick (grants e A) (step e A) A)
