use Rattle.kills.specs.Lines.{top_from, wait_read}
use Rattle.dots.specs.Dot.{actor_of}
use Rattle.dots.specs.Clock.{Clock}
use lib.ListN.{drop}
use mathlib.Core.List.{map}
use mathlib.Core.Path.{◌≡◌}
use Rattle.kills.proofs.top_line.Given as goal

-- for every clock with these actors
abbrev pub invariant-loop-at : goal.invariant-loop-at
invariant-loop-at l =
    (v : Clock) → l.actors ≡ map (λ d. actor_of d) v → top_from v (map (λ p. wait_read l.t p) (drop l.at-index l.at-items)) l.top ≡ top_from v (map (λ p. wait_read l.t p) l.at-items) l.initial.top
