use Rattle.kills.specs.Posts.{lines_by}
use Prim.Native.Nat.{ℕ}
use mathlib.Core.List.{List, ◌∷◌}
use mathlib.Core.Path.{◌≡◌}
use Rattle.kills.proofs.raise_same.Given as goal

abbrev pub invariant-loop-i : goal.invariant-loop-i
invariant-loop-i l = (rs : List ℕ) → lines_by l.ms l.line l.out l.i (l.m ∷ rs) ≡ lines_by l.ms l.line l.initial.out l.from (l.m ∷ rs)
