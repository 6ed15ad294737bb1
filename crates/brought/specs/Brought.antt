-- A clock and members as a waiting remove.
use Rattle.std.specs.Prelude.{ℕ, List, ◌++◌, length}
use Rattle.clocks.specs.declared.VClock.{VClock}
use Rattle.clocks.specs.VClock.{dots_of}
use Rattle.replica.specs.Replica.{Wait}
use Rattle.layout.specs.Fields.{le32}
use Rattle.layout.specs.Rows.{encode_members}
use Rattle.lists.specs.declared.Members.{Members}
use Rattle.lists.specs.Members.{list_of}

-- ".. 32-bit count, ascending members"
unfoldable pub counted_members : Members → List ℕ
counted_members m = le32 (length (list_of m)) ++ encode_members (list_of m)

abbrev pub wait_of : VClock → Members → Wait
wait_of c m = record { clock = dots_of c; members = list_of m }
