use mathlib.Core.Path.{◌≡◌}
use mathlib.Core.List.{[], ◌∷◌}
use lib.ListN.{length}
use Rattle.merging.proofs.SideSteps.{Rowing}
use Rattle.merging.proofs.side.put_rows.Given as goal

abbrev pub invariant-loop-i : goal.invariant-loop-i
invariant-loop-i l = Rowing (l.d ∷ []) l.m.at l.n l.initial.s l.s l.places l.i × (length l.places ≡ 64)
