-- What `validate_op` and `validate_merge` report, on replicas. Each definition stands under the sentence that it renders.
use Rattle.std.specs.Prelude.{ℕ, Bool, not, ◌&&◌, List, [], ◌∷◌, ◌++◌, map, eqb}
use Rattle.std.proofs.Math.Option
use Rattle.std.proofs.Math.Option.{Option, none, some}
use Rattle.tables.specs.Table.{pick}
use Rattle.dots.specs.declared.Dot.{Dot}
use Rattle.dots.specs.declared.DotRange.{DotRange}
use Rattle.dots.specs.Dot.{actor_of}
use Rattle.dots.specs.Clock.{count, gap}
use Rattle.replica.specs.Replica.{Entry, Replica}
use Rattle.replica.specs.History.{Op, Add, Remove}

-- "The set's `validate_op` judges an add's dot so against V, and grants every remove": the gap that it reports
unfoldable pub validate_op : Op → Replica → Option DotRange
validate_op (Add d ms) A = gap A.clock d
validate_op (Remove c ms) A = none

-- ---- validate_merge

-- an entry of ours, an entry of theirs, and a dot of ours
pub record Triple : Type 0 where
  pub our : Entry
  pub their : Entry
  pub dot : Dot

-- "Reported is a dot equal in an entry of ours and an entry of theirs with a different member."
unfoldable pub reportable : Triple → Bool
reportable t = not (eqb t.our.member t.their.member) && eqb (count t.their.clock (actor_of t.dot)) t.dot.counter

-- "Search order: our members ascending, then theirs, then actors"
abbrev pub with_theirs : Entry → List Entry → List Triple
with_theirs o [] = []
with_theirs o (t ∷ ts) = map (λ d. record { our = o; their = t; dot = d }) o.clock ++ with_theirs o ts

abbrev pub triples : List Entry → List Entry → List Triple
triples [] ts = []
triples (o ∷ os) ts = with_theirs o ts ++ triples os ts

-- "the search stops at the first such triple"
abbrev pub first : {X : Type 0} → (X → Bool) → List X → Option X
first p [] = none
first p (x ∷ xs) = pick (p x) (some x) (first p xs)

unfoldable pub first_spent : Replica → Replica → Option Triple
first_spent A B = first reportable (triples A.entries B.entries)

-- what is reported of it: "double-spent dot, with dot and both members"
pub record Spent : Type 0 where
  pub dot : Dot
  pub our : ℕ
  pub their : ℕ

abbrev pub spent_of : Triple → Spent
spent_of t = record { dot = t.dot; our = t.our.member; their = t.their.member }

unfoldable pub validate_merge : Replica → Replica → Option Spent
validate_merge A B = Option.map spent_of (first_spent A B)
