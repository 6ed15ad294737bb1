use borrow.Author.Tests.{eq-eqb, ne_eqb}
use Rattle.validating.specs.Search.{reportable}
use Rattle.validating.proofs.reportable.Goals as goal

pub returns-then-our-their : goal.returns-then-our-their
unfolding reportable
returns-then-our-their c = rw (eq-eqb _ _ c.if-our-their.true)

pub returns : goal.returns
unfolding reportable
returns c = rw (ne_eqb _ _ c.if-our-their.false)
