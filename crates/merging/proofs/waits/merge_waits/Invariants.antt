use Prim.Native.Nat.{◌+◌}
use Rattle.clocks.specs.VClock.{dots_of}
use Rattle.layout.specs.Rows.{waits_at}
use Rattle.changing.specs.KeptWaits.{kept_waits}
use Rattle.merging.proofs.WaitLoop.{Waiting}
use Rattle.merging.proofs.waits.merge_waits.Given as goal

abbrev pub invariant-loop-w : goal.invariant-loop-w
invariant-loop-w l = Waiting (dots_of l.v) l.s l.t l.fn.start.p l.fn.start.m l.fn.start.q l.fn.start.k l.fn.start.at l.initial.out (kept_waits (dots_of l.v) (waits_at l.s l.fn.start.p l.fn.start.m) (waits_at l.t l.fn.start.q l.fn.start.k)) l.out l.w

abbrev pub decreases-loop-w : goal.decreases-loop-w
decreases-loop-w l = l.w.m + l.w.k
