use Rattle.kills.specs.Lines.{along, raised}
use Rattle.kills.specs.Posts.{lines_by}
use Rattle.layout.specs.Rows.{members_at}
use Rattle.replica.specs.Replica.{member_rows}
use Prim.Native.Nat.{◌+◌, ◌-◌, ◌*◌}
use mathlib.Core.Path.{◌≡◌}
use Rattle.kills.proofs.raise_named.Given as goal

abbrev pub invariant-loop-k : goal.invariant-loop-k
invariant-loop-k l = lines_by l.ms l.line l.out l.i (members_at l.t (l.at + 4 + 4 * l.k) (l.count - l.k)) ≡ raised l.initial.out 0 (along member_rows l.ms (members_at l.t (l.at + 4) l.count)) l.line
