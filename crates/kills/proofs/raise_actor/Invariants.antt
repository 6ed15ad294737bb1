use Rattle.kills.specs.Posts.{numbers_by}
use Rattle.dots.specs.declared.Dot.{Dot}
use Rattle.dots.specs.Dot.{dot}
use mathlib.Core.List.{List, ◌∷◌}
use mathlib.Core.Path.{◌≡◌}
use Rattle.kills.proofs.raise_actor.Given as goal

abbrev pub invariant-loop-i : goal.invariant-loop-i
invariant-loop-i l = (ds : List Dot) → numbers_by l.actors l.line l.i (dot l.a l.counter ∷ ds) ≡ numbers_by l.actors l.initial.line l.from (dot l.a l.counter ∷ ds)
