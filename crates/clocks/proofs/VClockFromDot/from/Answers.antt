use Rattle.clocks.specs.VClock.{vclock}
use mathlib.Core.Path.{sym, ap, ◌∙◌}
use Rattle.clocks.proofs.Answers.{from_nothing, from_one}
use Rattle.clocks.proofs.VClockFromDot.from.Goals as goal

pub returns-then-d-eq0 : goal.returns-then-d-eq0
returns-then-d-eq0 c = c.new-c.ensures ∙ sym (ap vclock (from_nothing _ c.if-d-eq0.true))

pub returns : goal.returns
unfolding vclock
returns c = rw (c.new-c.ensures, from_one c.args.d c.if-d-eq0.false)
