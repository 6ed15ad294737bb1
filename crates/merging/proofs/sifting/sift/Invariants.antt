use Prim.Native.Nat.{◌+◌, ◌*◌}
use Rattle.layout.specs.Clock.{dots_at}
use Rattle.merging.specs.Sifting.{sifted}
use Rattle.merging.proofs.SiftSteps.{Along}
use Rattle.merging.proofs.sifting.sift.Given as goal

abbrev pub invariant-loop-j : goal.invariant-loop-j
invariant-loop-j l = let x = l.initial.k.x in Along l.s l.actors l.line l.p (x.at + 12 * x.left) l.initial.out (sifted l.actors l.line 0 (dots_at l.s x.at x.left)) l.out l.k l.j
