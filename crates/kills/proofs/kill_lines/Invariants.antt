use Rattle.kills.specs.Posts.{Founded}
use Rattle.kills.specs.Lines.{kill_lines, wait_read}
use Rattle.dots.specs.Dot.{actor_of}
use Rattle.dots.specs.Clock.{Clock}
use lib.ListN.{length, drop}
use mathlib.Core.List.{map}
use mathlib.Core.Path.{◌≡◌}
use Rattle.kills.proofs.kill_lines.Given as goal

-- for every clock with these actors
abbrev pub invariant-loop-at : goal.invariant-loop-at
invariant-loop-at l =
    Founded l.floor (length l.members) l.out
    × ((v : Clock) → l.actors ≡ map (λ d. actor_of d) v → kill_lines v l.members (map (λ p. wait_read l.t p) (drop l.at-index l.at-items)) l.out ≡ kill_lines v l.members (map (λ p. wait_read l.t p) l.at-items) l.initial.out)
