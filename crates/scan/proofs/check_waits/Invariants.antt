use Rattle.scan.specs.Scan.{DotsIn}
use Rattle.layout.specs.Good.{good_waits}
use Rattle.layout.specs.Rows.{waits_end_at, wait_places_at}
use Rattle.layout.specs.Clock.{clock_at}
use lib.Seq.{sets}
use lib.ListN.{length}
use Prim.Native.Nat.{◌-◌, ◌≤◌}
use mathlib.Core.List.{[]}
use mathlib.Core.Path.{◌≡◌}
use Rattle.scan.proofs.check_waits.Given as goal

abbrev pub invariant-loop-i : goal.invariant-loop-i
invariant-loop-i l =
    (l.p ≤ length l.s) × (l.last ≤ length l.s) × DotsIn l.s l.last × (length l.places ≡ 16)
    × (good_waits l.s l.p (clock_at l.s l.last) (l.count - l.i) ≡ good_waits l.s l.at [] l.count)
    × (waits_end_at l.s l.p (l.count - l.i) ≡ waits_end_at l.s l.at l.count)
    × (sets l.places l.i (wait_places_at l.s l.p (l.count - l.i)) ≡ sets l.initial.places 0 (wait_places_at l.s l.at l.count))
