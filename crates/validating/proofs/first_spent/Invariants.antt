use Prim.Native.Nat.{◌+◌, ◌*◌, ◌≤◌}
use mathlib.Core.Path.{◌≡◌}
use lib.ListN.{length}
use Rattle.validating.proofs.Steps.{at_ours, at_theirs, at_actors}
use Rattle.validating.proofs.Keys.{Ready, OurRow}
use Rattle.validating.proofs.first_spent.Given as goal

abbrev pub invariant-actors : goal.invariant-actors
invariant-actors l =
    (l.ahead.place + 12 * l.ahead.left ≤ length l.b)
    × (at_actors l.a l.ours l.b l.theirs l.our_place-index l.p l.our l.n l.j l.their l.k l.ahead.place l.ahead.left ≡ at_ours l.a l.ours l.b l.theirs 0)

abbrev pub invariant-theirs : goal.invariant-theirs
invariant-theirs l =
    (length l.keys ≡ 16) × OurRow l.a l.ours l.keys l.our_place-index l.p l.our l.n l.m
    × (at_theirs l.a l.ours l.b l.theirs l.our_place-index l.p l.j ≡ at_ours l.a l.ours l.b l.theirs 0)

abbrev pub invariant-search : goal.invariant-search
invariant-search l =
    Ready l.a l.ours l.b l.theirs l.lines l.m
    × (at_ours l.a l.ours l.b l.theirs l.our_place-index ≡ at_ours l.a l.ours l.b l.theirs 0)
