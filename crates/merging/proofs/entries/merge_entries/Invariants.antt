use Prim.Native.Nat.{◌+◌}
use Rattle.layout.specs.Rows.{rows_end_at}
use Rattle.layout.specs.Image.{image_of}
use Rattle.merging.proofs.RowLoop.{Rowing}
use Rattle.merging.proofs.entries.merge_entries.Given as goal

abbrev pub invariant-loop-w : goal.invariant-loop-w
invariant-loop-w l = let u = l.initial.w in Rowing l.actors (image_of l.s) (image_of l.t) l.s l.t u.x.left u.y.left u.at (rows_end_at l.s u.x.at u.x.left) (rows_end_at l.t u.y.at u.y.left) l.initial.out l.out l.w

abbrev pub decreases-loop-w : goal.decreases-loop-w
decreases-loop-w l = l.w.x.left + l.w.y.left
