use Rattle.std.specs.Option.{is_none}
use Rattle.merging.specs.Sifting.{SiftReady, Sifted}
use Rattle.merging.proofs.sifting.sift_rows.Given as goal

abbrev pub invariant-loop-w : goal.invariant-loop-w
invariant-loop-w l = SiftReady l.s l.actors l.lines l.one l.w × Sifted l.s l.actors l.lines (is_none l.one) l.initial.out l.initial.w l.out l.w

abbrev pub decreases-loop-w : goal.decreases-loop-w
decreases-loop-w l = l.w.x.left
