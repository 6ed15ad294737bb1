use Prim.Native.Nat.{◌+◌, ◌*◌, ◌-◌}
use mathlib.Core.Path.{◌≡◌}
use Rattle.dots.specs.Dot.{dots}
use Rattle.layout.specs.Clock.{dots_at}
use Rattle.kills.specs.Lines.{reach}
use Rattle.validating.proofs.walk_past.Given as goal

abbrev pub invariant-loop-k : goal.invariant-loop-k
invariant-loop-k l =
    reach dots l.a (dots_at l.s l.from.place l.from.left) ≡ reach dots l.a (dots_at l.s (l.from.place + 12 * l.k) (l.from.left - l.k))
