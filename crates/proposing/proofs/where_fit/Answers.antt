use Rattle.clocks.proofs.Steps.{so}
use Rattle.tables.specs.Refusal.{first_of}
use Rattle.dots.specs.Answers.{answer, refusal}
use Rattle.proposing.proofs.where_fit.Goals as goal

pub returns-then-is_normalised : goal.returns-then-is_normalised
unfolding first_of answer
returns-then-is_normalised c = rw (so c.is_normalised.ensures c.if-is_normalised.true)

pub returns-else-is_normalised : goal.returns-else-is_normalised
unfolding first_of answer refusal
returns-else-is_normalised c = rw (so c.is_normalised.ensures c.if-is_normalised.false)
