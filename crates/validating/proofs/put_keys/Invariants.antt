use Prim.Native.Nat.{◌+◌, ◌*◌, ◌≤◌}
use mathlib.Core.Path.{◌≡◌}
use lib.ListN.{length}
use Rattle.validating.proofs.Steps.{at_keys}
use Rattle.validating.proofs.put_keys.Given as goal

abbrev pub invariant-loop-k : goal.invariant-loop-k
invariant-loop-k l =
    (l.ahead.place + 12 * l.ahead.left ≤ length l.s) × (length l.out ≡ length l.initial.out)
    × (at_keys l.v l.s l.out l.missing l.n l.k l.at l.ahead.place l.ahead.left ≡ at_keys l.v l.s l.initial.out l.missing l.n 0 l.at l.initial.ahead.place l.initial.ahead.left)
