use Rattle.kills.specs.Lines.{raise_from}
use lib.ListN.{drop}
use Prim.Native.Nat.{◌+◌, ◌*◌}
use mathlib.Core.Path.{◌≡◌}
use Rattle.kills.proofs.raise_line.Given as goal

abbrev pub invariant-loop-j : goal.invariant-loop-j
invariant-loop-j l = raise_from l.out (16 * l.i + l.j) (drop l.j l.line) ≡ raise_from l.initial.out (16 * l.i) l.line
