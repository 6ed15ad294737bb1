use mathlib.Core.Path.{◌≡◌}
use Prim.Native.Nat.{◌+◌, ◌*◌}
use lib.ListN.{drop}
use Rattle.dots.specs.Covering.{cover_of}
use Rattle.clocks.specs.VClock.{dots_of}
use Rattle.layout.specs.Clock.{dots_at}
use Rattle.merging.proofs.waits.covered.Given as goal

abbrev pub invariant-loop-d : goal.invariant-loop-d
invariant-loop-d l = (l.ahead.at + 12 * l.ahead.left ≡ l.fn.p + 12 * l.fn.n) × (cover_of (drop l.d-index (dots_of l.v)) (dots_at l.s l.ahead.at l.ahead.left) ≡ cover_of (dots_of l.v) (dots_at l.s l.fn.p l.fn.n))
