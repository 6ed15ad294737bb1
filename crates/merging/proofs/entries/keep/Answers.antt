use borrow.Author.Tests.{eq-eqb, ne_eqb, lt-ltb, le-ltb}
use Rattle.changing.specs.Kept.{keep_of}
use Rattle.merging.proofs.entries.keep.Goals as goal

pub returns-then-u-w : goal.returns-then-u-w
unfolding keep_of
returns-then-u-w c = rw (eq-eqb _ _ c.if-u-w.true)

pub returns-then-lb-u : goal.returns-then-lb-u
unfolding keep_of
returns-then-lb-u c = rw (ne_eqb _ _ c.if-u-w.false, lt-ltb _ _ c.if-lb-u.true)

pub returns-then-la-w : goal.returns-then-la-w
unfolding keep_of
returns-then-la-w c = rw (ne_eqb _ _ c.if-u-w.false, le-ltb _ _ c.if-lb-u.false, lt-ltb _ _ c.if-la-w.true)

pub returns-else-la-w : goal.returns-else-la-w
unfolding keep_of
returns-else-la-w c = rw (ne_eqb _ _ c.if-u-w.false, le-ltb _ _ c.if-lb-u.false, le-ltb _ _ c.if-la-w.false)
