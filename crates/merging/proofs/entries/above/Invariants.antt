use Prim.Native.Nat.{◌≤◌, ◌+◌, ◌*◌}
use lib.ListN.{length}
use Rattle.layout.specs.Clock.{dots_at}
use Rattle.merging.specs.Keeping.{Above}
use Rattle.merging.proofs.WholeSteps.{Over}
use Rattle.merging.proofs.entries.above.Given as goal

-- the dots ahead decide
abbrev pub invariant-loop-i : goal.invariant-loop-i
invariant-loop-i l = (l.ahead.at + 12 * l.ahead.left ≤ length l.s) × (Over l.s l.actors l.line (length l.actors) l.i l.ahead → Above l.actors l.line 0 0 (length l.actors) (dots_at l.s l.fn.x.at l.fn.x.left))
