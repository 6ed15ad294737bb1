use Rattle.image.proofs.Steps.{row_ahead}
use Rattle.image.specs.Fits.{fits}
use Rattle.layout.specs.Clock.{dots_at}
use lib.ListN.{length}
use Prim.Native.Nat.{◌+◌, ◌*◌, ◌≤◌}
use mathlib.Core.Path.{◌≡◌}
use Rattle.image.proofs.row_fits.Given as goal

abbrev pub invariant-loop-j : goal.invariant-loop-j
invariant-loop-j l = (l.p + 12 * l.left ≤ length l.s) × (row_ahead l.lines l.s l.line l.k l.j l.p l.left ≡ fits l.lines l.line (dots_at l.s 28 l.k) (dots_at l.s l.from l.count))
