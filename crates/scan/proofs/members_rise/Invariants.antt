use Rattle.layout.specs.Rows.{members_at}
use Rattle.layout.specs.Good.{rising_members}
use Prim.Native.Nat.{◌+◌, ◌*◌, ◌-◌}
use mathlib.Core.Path.{◌≡◌}
use Rattle.scan.proofs.members_rise.Given as goal

abbrev pub invariant-loop-i : goal.invariant-loop-i
invariant-loop-i l = rising_members l.low (members_at l.s (l.from + 4 * l.i) (l.count - l.i)) ≡ rising_members 0 (members_at l.s l.from l.count)
