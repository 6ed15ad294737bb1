use Rattle.layout.specs.Clock.{dots_at}
use lib.Seq.{sets}
use lib.ListN.{length}
use Prim.Native.Nat.{◌+◌, ◌*◌, ◌-◌, ◌≤◌}
use mathlib.Core.Path.{◌≡◌}
use Rattle.fields.proofs.clock_at.Given as goal

abbrev pub invariant-loop-i : goal.invariant-loop-i
invariant-loop-i l = (l.n ≤ 16) × (l.p ≡ l.at + 4 + 12 * l.i) × (length l.dots ≡ 16) × (sets l.dots l.i (dots_at l.s l.p (l.n - l.i)) ≡ sets l.initial.dots 0 (dots_at l.s (l.at + 4) l.n))
