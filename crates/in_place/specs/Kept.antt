-- "a clock the caller holds is brought forward in place by one dot or by another clock"; "A refusal changes no lent memory".
use Rattle.std.specs.Prelude.{Result, Ok, Err, ⊤}
use Rattle.dots.specs.declared.refusals.Refused.{Refused}
use Rattle.clocks.specs.declared.VClock.{VClock}

-- what the record holds after a call with that answer
abbrev pub kept : VClock → Result VClock Refused → VClock
kept c (Ok k) = k
kept c (Err r) = c

-- and what the call in place says: done, or the same refusal
abbrev pub done : Result VClock Refused → Result ⊤ Refused
done (Ok k) = Ok tt
done (Err r) = Err r
