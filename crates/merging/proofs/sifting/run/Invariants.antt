use Rattle.std.specs.Option.{is_none}
use Rattle.merging.specs.Sifting.{Passed}
use Rattle.merging.proofs.sifting.run.Given as goal

abbrev pub invariant-loop-r : goal.invariant-loop-r
invariant-loop-r l = Passed l.s l.actors l.lines (is_none l.one) l.initial.r l.r

abbrev pub decreases-loop-r : goal.decreases-loop-r
decreases-loop-r l = l.r.x.left
