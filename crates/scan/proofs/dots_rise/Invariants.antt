use Rattle.layout.specs.Clock.{dots_at}
use Rattle.dots.specs.Rising.{rising}
use Prim.Native.Nat.{◌+◌, ◌*◌, ◌-◌}
use mathlib.Core.Path.{◌≡◌}
use Rattle.scan.proofs.dots_rise.Given as goal

abbrev pub invariant-loop-i : goal.invariant-loop-i
invariant-loop-i l = rising l.low (dots_at l.s (l.from + 12 * l.i) (l.count - l.i)) ≡ rising 0 (dots_at l.s l.from l.count)
