use Rattle.clocks.proofs.Answers.{judged_self}
use Rattle.clocks.proofs.VClock.judged.Goals as goal

pub returns : goal.returns
returns c = rw (c.ok_or.ensures.value, c.then_some.ensures, c.is_normalised.ensures) (judged_self _)
