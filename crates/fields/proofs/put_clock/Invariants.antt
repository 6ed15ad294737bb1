use Rattle.layout.specs.Clock.{encode_dots}
use lib.Seq.{sets}
use lib.ListN.{length, drop}
use Prim.Native.Nat.{◌+◌, ◌*◌}
use mathlib.Core.Path.{◌≡◌}
use Rattle.fields.proofs.put_clock.Given as goal

abbrev pub invariant-loop-d : goal.invariant-loop-d
invariant-loop-d l = (l.p ≡ l.at + (4 + 12 * l.d-index)) × (length l.s ≡ length l.initial.s) × (sets l.s l.p (encode_dots (drop l.d-index l.d-items)) ≡ sets l.initial.s l.initial.p (encode_dots l.d-items))
