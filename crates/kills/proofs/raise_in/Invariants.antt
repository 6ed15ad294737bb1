use Rattle.kills.specs.Lines.{along, raise_from}
use Rattle.kills.specs.Posts.{numbers_by}
use Rattle.dots.specs.Dot.{dots}
use Rattle.layout.specs.Clock.{dots_at}
use Prim.Native.Nat.{◌+◌, ◌-◌, ◌*◌}
use mathlib.Core.Path.{◌≡◌}
use Rattle.kills.proofs.raise_in.Given as goal

abbrev pub invariant-loop-k : goal.invariant-loop-k
invariant-loop-k l = numbers_by l.actors l.line l.i (dots_at l.t (l.from + 12 * l.k) (l.count - l.k)) ≡ raise_from l.initial.line 0 (along dots l.actors (dots_at l.t l.from l.count))
