use Rattle.layout.specs.Clock.{dots_at}
use Rattle.validating.specs.Search.{Keyed}
use Rattle.validating.proofs.put_lines.Given as goal

abbrev pub invariant-loop-j : goal.invariant-loop-j
invariant-loop-j l = Keyed (dots_at l.v 28 l.m) l.s l.places l.out l.j l.m
