use Rattle.kills.specs.Lines.{spread}
use lib.Seq.{sets}
use Prim.Native.Nat.{◌*◌, ◌-◌}
use mathlib.Core.Path.{◌≡◌}
use Rattle.kills.proofs.lay.Given as goal

abbrev pub invariant-loop-i : goal.invariant-loop-i
invariant-loop-i l = sets l.out (16 * l.i) (spread (l.n - l.i) l.floor) ≡ sets l.initial.out 0 (spread l.n l.floor)
