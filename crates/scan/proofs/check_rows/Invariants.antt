use Rattle.scan.specs.Scan.{laid_rows}
use Rattle.layout.specs.Rows.{rows_end_at, places_at}
use lib.Seq.{sets}
use lib.ListN.{length}
use Prim.Native.Nat.{◌-◌, ◌≤◌}
use mathlib.Core.Path.{◌≡◌}
use Rattle.scan.proofs.check_rows.Given as goal

abbrev pub invariant-loop-i : goal.invariant-loop-i
invariant-loop-i l =
    (l.p ≤ length l.s) × (length l.places ≡ 64)
    × (laid_rows l.s l.p l.low (l.count - l.i) ≡ laid_rows l.s l.at 0 l.count)
    × (rows_end_at l.s l.p (l.count - l.i) ≡ rows_end_at l.s l.at l.count)
    × (sets l.places l.i (places_at l.s l.p (l.count - l.i)) ≡ sets l.initial.places 0 (places_at l.s l.at l.count))
