-- What a call answers: the value, or the refusal with a number. A refusal carries nothing beside its number, but a gap, which carries its range.
use Prim.Native.Nat.{ℕ}
use Rattle.std.specs.Prelude.{Result, Ok, Err, ⊤, eqb}
use Rattle.std.proofs.Math.Option.{Option, none, some}
use Rattle.tables.specs.Table.{pick}
use Rattle.dots.specs.declared.DotRange.{DotRange}
use Rattle.dots.specs.declared.refusals.Refused.{Refused}
use Rattle.dots.specs.declared.refusals.Refused.TheVariants.{BadImage, BadSecond, BadClock, LongList, LastCounter, ManyActors, ManyEntries, ManyWaits, ManyNamed, ShortOutput}
use Rattle.dots.specs.declared.refusals.OpRefused.{OpRefused}
use Rattle.dots.specs.declared.refusals.OpRefused.TheVariants.{Refused as RefusedWith, Gap}

-- the refusal with a number, from 1 to 10
unfoldable pub refusal : ℕ → Refused
refusal n =
    pick (eqb n 1) BadImage
    (pick (eqb n 2) BadSecond
    (pick (eqb n 3) BadClock
    (pick (eqb n 4) LongList
    (pick (eqb n 5) LastCounter
    (pick (eqb n 6) ManyActors
    (pick (eqb n 7) ManyEntries
    (pick (eqb n 8) ManyWaits
    (pick (eqb n 9) ManyNamed ShortOutput))))))))

abbrev pub number : Refused → ℕ
number BadImage = 1
number BadSecond = 2
number BadClock = 3
number LongList = 4
number LastCounter = 5
number ManyActors = 6
number ManyEntries = 7
number ManyWaits = 8
number ManyNamed = 9
number ShortOutput = 10

abbrev pub op_number : OpRefused → ℕ
op_number (RefusedWith r) = number r
op_number (Gap g) = 11

-- the value where the number is 0
unfoldable pub answer : {A : Type 0} → ℕ → A → Result A Refused
answer n a = pick (eqb n 0) (Ok a) (Err (refusal n))

-- and the number of an answer
abbrev pub number_in : {A : Type 0} → Result A Refused → ℕ
number_in (Ok a) = 0
number_in (Err r) = number r

-- what `validate_op` answers by its number and the gap, if there is one: valid, refused, or 11 with the range
abbrev pub op_answer : ℕ → Option DotRange → Result ⊤ OpRefused
op_answer n none = pick (eqb n 0) (Ok tt) (Err (RefusedWith (refusal n)))
op_answer n (some g) = Err (Gap g)

abbrev pub op_number_in : Result ⊤ OpRefused → ℕ
op_number_in (Ok a) = 0
op_number_in (Err r) = op_number r
