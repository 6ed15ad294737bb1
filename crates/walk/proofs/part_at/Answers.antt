use native.Mathlib.Omega.{arith}
use borrow.Author.Rules.{rules}
use Rattle.walk.specs.Walks.{part_at}
use Rattle.walk.proofs.Steps.{entry}
use Rattle.walk.proofs.part_at.Goals as goal

pub overflow_add-result : goal.overflow_add-result
overflow_add-result c = let e = entry c.args.s.now c.args.at c.in-Some.end c.in-Some.ensures in omega arith

pub slice_bounds-result-count : goal.slice_bounds-result-count
slice_bounds-result-count c = let e = entry c.args.s.now c.args.at c.in-Some.end c.in-Some.ensures in omega arith

pub slice_bounds-result-start : goal.slice_bounds-result-start
slice_bounds-result-start c = let e = entry c.args.s.now c.args.at c.in-Some.end c.in-Some.ensures in search rules

pub slice_bounds-result-end : goal.slice_bounds-result-end
slice_bounds-result-end c = let e = entry c.args.s.now c.args.at c.in-Some.end c.in-Some.ensures in search rules

pub returns-in-Some : goal.returns-in-Some
unfolding part_at
returns-in-Some c = rw (← c.in-Some.ensures)

pub returns-in-None : goal.returns-in-None
unfolding part_at
returns-in-None c = rw (← c.in-None.ensures)
