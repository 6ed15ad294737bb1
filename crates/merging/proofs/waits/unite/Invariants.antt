use Prim.Native.Nat.{◌+◌}
use Rattle.layout.specs.Rows.{members_at}
use Rattle.changing.specs.KeptWaits.{both_sets}
use Rattle.merging.proofs.NameSteps.{Naming}
use Rattle.merging.proofs.waits.unite.Given as goal

abbrev pub invariant-loop-w : goal.invariant-loop-w
invariant-loop-w l = Naming l.s l.t l.p l.m l.q l.k l.at l.initial.out (both_sets (members_at l.s l.p l.m) (members_at l.t l.q l.k)) l.out l.w

abbrev pub decreases-loop-w : goal.decreases-loop-w
decreases-loop-w l = l.w.m + l.w.k
