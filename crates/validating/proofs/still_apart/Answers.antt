use borrow.Author.Tests.{eq-eqb, ne_eqb}
use Rattle.validating.proofs.still_apart.Goals as goal

pub returns-then-x-y : goal.returns-then-x-y
returns-then-x-y c = rw (eq-eqb _ _ c.if-x-y.true)

pub returns-else-x-y : goal.returns-else-x-y
returns-else-x-y c = rw (ne_eqb _ _ c.if-x-y.false)
