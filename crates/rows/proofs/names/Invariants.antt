use Rattle.tables.specs.Table.{has}
use Rattle.layout.specs.Rows.{members_at}
use Prim.Native.Nat.{◌+◌, ◌*◌, ◌-◌, compare}
use mathlib.Core.Path.{◌≡◌}
use Rattle.rows.proofs.names.Given as goal

abbrev pub invariant-loop-i : goal.invariant-loop-i
invariant-loop-i l = has compare l.member.0 (members_at l.s (l.q + 4 + 4 * l.i) (l.n - l.i)) ≡ has compare l.member.0 (members_at l.s (l.q + 4) l.n)
