use borrow.Author.Tests.{eq-eqb, ne_eqb}
use Rattle.validating.specs.Search.{key_of}
use Rattle.validating.proofs.key.Goals as goal

pub returns-then-count-eq0 : goal.returns-then-count-eq0
unfolding key_of
returns-then-count-eq0 c = rw (eq-eqb _ _ c.if-count-eq0.true)

pub returns : goal.returns
unfolding key_of
returns c = rw (ne_eqb _ _ c.if-count-eq0.false)
