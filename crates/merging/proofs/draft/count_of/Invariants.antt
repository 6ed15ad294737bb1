use mathlib.Core.Path.{◌≡◌}
use Rattle.dots.specs.Clock.{count}
use Rattle.layout.specs.Clock.{dots_at}
use Rattle.merging.proofs.OrderSteps.{dots_past}
use Rattle.merging.proofs.draft.count_of.Given as goal

abbrev pub invariant-loop-i : goal.invariant-loop-i
invariant-loop-i l = count (dots_past l.s l.p l.n l.i) l.actor ≡ count (dots_at l.s l.p l.n) l.actor
