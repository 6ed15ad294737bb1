use Rattle.std.proofs.Common.{ne_eqb, eq-eqb}
use Rattle.dots.specs.Answers.{answer, refusal}
use Rattle.dots.specs.Calls.{inc_of}
use Rattle.dots.proofs.Dot.inc.Goals as goal

-- `dots::Dot::inc` meets its contract: the definition tests the counter as the code does.
pub returns-then-self-eq18446744073709551615 : goal.returns-then-self-eq18446744073709551615
unfolding inc_of answer refusal
returns-then-self-eq18446744073709551615 c = simp (eq-eqb _ _ c.if-self-eq18446744073709551615.true)

pub returns-else-self-eq18446744073709551615 : goal.returns-else-self-eq18446744073709551615
unfolding inc_of answer
returns-else-self-eq18446744073709551615 c = simp (ne_eqb _ _ c.if-self-eq18446744073709551615.false, c.new.ensures)
