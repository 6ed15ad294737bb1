use mathlib.Core.Path.{◌≡◌}
use lib.ListN.{length}
use Rattle.layout.specs.Clock.{dots_at}
use Rattle.merging.proofs.DraftSteps.{CountsTo}
use Rattle.merging.proofs.draft.counts.Given as goal

abbrev pub invariant-loop-i : goal.invariant-loop-i
invariant-loop-i l = (length l.line ≡ 16) × CountsTo (dots_at l.s l.p l.m) l.actors l.i l.line
