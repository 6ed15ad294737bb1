use Prim.Native.Nat.{◌+◌, ◌*◌}
use mathlib.Core.Path.{◌≡◌}
use lib.ListN.{length, drop}
use lib.Seq.{sets}
use Rattle.layout.specs.Rows.{encode_members}
use Rattle.fields.proofs.put_few.Given as goal

abbrev pub invariant-loop-member : goal.invariant-loop-member
invariant-loop-member l = (l.place ≡ l.at + (4 + 4 * l.member-index)) × (length l.s ≡ length l.initial.s) × (sets l.s l.place (encode_members (drop l.member-index l.members)) ≡ sets l.initial.s l.initial.place (encode_members l.members))
