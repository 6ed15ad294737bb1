use Prim.Native.Nat.{◌*◌}
use mathlib.Core.Path.{◌≡◌}
use mathlib.Core.List.{map}
use lib.ListN.{length}
use lib.Seq.{sets, slice}
use Rattle.layout.specs.Fields.{u32_at}
use Rattle.layout.specs.Rows.{encode_members}
use Rattle.reading.proofs.put_members.Given as goal

abbrev pub invariant-loop-i : goal.invariant-loop-i
invariant-loop-i l =
    sets l.out (4 * l.i) (encode_members (map (u32_at l.s) (slice l.i (length l.places) l.places))) ≡ sets l.initial.out 0 (encode_members (map (u32_at l.s) l.places))
