-- A clock that is given to C with a number beside it, or the refusal.
use Rattle.std.specs.Prelude.{ℕ, Result, Ok, Err, []}
use Rattle.dots.specs.declared.refusals.Refused.{Refused}
use Rattle.dots.specs.Answers.{number}
use Rattle.clocks.specs.declared.VClock.{VClock}
use Rattle.clocks.specs.VClock.{dots_of}
use Rattle.layout.specs.Clock.{encode_clock}
use Rattle.replies.specs.Reply.{Reply, reply, fitted}

-- the clock is written where it fits; a refusal writes nothing
abbrev pub clock_given : ℕ → Result (ℕ × VClock) Refused → Reply
clock_given room (Ok x) = fitted room 0 x.0 (encode_clock (dots_of x.1))
clock_given room (Err r) = reply (number r) 0 []
