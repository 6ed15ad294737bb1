use Rattle.image.proofs.Steps.{row_ahead}
use Rattle.image.specs.Fits.{fits}
use Rattle.layout.specs.Clock.{dots_at}
use Prim.Native.Nat.{◌+◌, ◌*◌, ◌-◌}
use mathlib.Core.Path.{◌≡◌}
use Rattle.image.proofs.in_step.Given as goal

abbrev pub invariant-loop-j : goal.invariant-loop-j
invariant-loop-j l = row_ahead l.lines l.s l.line l.k l.j (l.from + 12 * l.j) (l.k - l.j) ≡ fits l.lines l.line (dots_at l.s 28 l.k) (dots_at l.s l.from l.k)
