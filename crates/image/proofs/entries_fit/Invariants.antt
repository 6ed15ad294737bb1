use Rattle.image.specs.Fits.{fit_all}
use Rattle.layout.specs.Clock.{clock_at}
use lib.ListN.{drop}
use mathlib.Core.Path.{◌≡◌}
use Rattle.image.proofs.entries_fit.Given as goal

abbrev pub invariant-loop-i : goal.invariant-loop-i
invariant-loop-i l = fit_all l.lines l.s (clock_at l.s 24) l.own l.i (drop l.i l.places) ≡ fit_all l.lines l.s (clock_at l.s 24) l.own 0 l.places
