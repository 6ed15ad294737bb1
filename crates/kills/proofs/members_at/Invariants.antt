use Rattle.layout.specs.Fields.{u32_at}
use lib.ListN.{length, take}
use mathlib.Core.List.{map}
use mathlib.Core.Path.{◌≡◌}
use Rattle.kills.proofs.members_at.Given as goal

abbrev pub invariant-loop-i : goal.invariant-loop-i
invariant-loop-i l = (length l.ms ≡ 64) × (take l.i l.ms ≡ map (λ p. u32_at l.s p) (take l.i l.places))
