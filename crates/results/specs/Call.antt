-- What every call that writes a replica promises: its refusals in the order of the table, or the result's image from byte 0 on.
use Rattle.std.specs.Prelude.{ℕ, Result, Ok, Err, ◌≡◌, List, [], ◌∷◌, ◌++◌, eqb, ltb, length}
use Rattle.std.proofs.lemmas.List.Edits.{sets}
use Rattle.tables.specs.Table.{pick}
use Rattle.tables.specs.Refusal.{Refusal, ◌if◌, first_of}
use Rattle.replica.specs.Replica.{Replica}
use Rattle.replica.specs.Limits.{Limits, limits_of}
use Rattle.layout.specs.Image.{encode}
use Rattle.dots.specs.declared.refusals.Refused.{Refused}
use Rattle.dots.specs.Answers.{answer}

-- a call: what it refuses of its arguments, 1 to 5, and the replica that it gives where it refuses nothing
pub record Call : Type 0 where
  pub refusals : List Refusal
  pub result : Replica

-- what it refuses of a finished result: 6 to 9, "judged on the finished result, never on a step between", then 10, "the output is shorter than
-- the result"
abbrev pub finish_of : Limits → Replica → ℕ → List Refusal
finish_of l A room = limits_of l A ++ 10 if ltb room (length (encode A)) ∷ []

-- all that it refuses, in the order of the table
abbrev pub table_of : Limits → Call → ℕ → List Refusal
table_of l c room = c.refusals ++ finish_of l c.result room

-- "The lowest number that applies is given."
unfoldable pub number_of : Limits → Call → ℕ → ℕ
number_of l c room = first_of (table_of l c room)

-- a refusal carries nothing beside its number; a granted call "returns its length"
unfoldable pub answered : ℕ → ℕ → Result ℕ Refused
answered n long = answer n long

-- the length that an answer carries, which is 0 in a refusal
abbrev pub length_in : Result ℕ Refused → ℕ
length_in (Ok long) = long
length_in (Err r) = 0

unfoldable pub answer_of : Limits → Call → ℕ → Result ℕ Refused
answer_of l c room = answered (number_of l c room) (length (encode c.result))

-- "A refusal changes no lent memory". "A granted call writes the result from byte 0, .. and leaves later bytes unchanged."
unfoldable pub output_of : Limits → Call → List ℕ → List ℕ
output_of l c out = pick (eqb (number_of l c (length out)) 0) (sets out 0 (encode c.result)) out

-- the promise: r is the answer, and `after` are the output's bytes where `before` was lent
pub record Meets (l : Limits) (c : Call) (before : List ℕ) (r : Result ℕ Refused) (after : List ℕ) : Type 0 where
  pub answer : r ≡ answer_of l c (length before)
  pub output : after ≡ output_of l c before
