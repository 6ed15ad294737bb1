use Prim.Native.Nat.{◌+◌}
use mathlib.Core.Path.{◌≡◌}
use lib.ListN.{length}
use lib.Seq.{sets, slice}
use Rattle.results.proofs.copy.Given as goal

abbrev pub invariant-loop-i : goal.invariant-loop-i
invariant-loop-i l =
    (length l.out ≡ length l.initial.out) × (sets l.out (l.at + l.i) (slice (l.from + l.i) l.end l.s) ≡ sets l.initial.out l.at (slice l.from l.end l.s))
