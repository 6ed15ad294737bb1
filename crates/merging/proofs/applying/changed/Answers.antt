use Prim.Native.Nat.{ℕ}
use lib.ListN.{length-replicate}
use Rattle.merging.proofs.Applies.{side_fits, side_taken, side_counted, draft_ready, side_finished}
use Rattle.merging.proofs.applying.changed.Goals as goal

pub slice_bounds-side-end : goal.slice_bounds-side-end
slice_bounds-side-end c =
    let b = c in
    let a = b.args in
    let pre = b.requires in
    side_fits _ _ pre.0 a.o.clock a.o.members a.o.rows pre.1 c.put_side-y.ensures.2 _ c.put_side-y.ensures.0

pub slice_bounds-drafted-end : goal.slice_bounds-drafted-end
slice_bounds-drafted-end c =
    let b = c in
    let a = b.args in
    let pre = b.requires in
    side_counted _ _ pre.0 a.o.clock a.o.members a.o.rows pre.1 c.put_side-y.ensures.2 _ c.put_side-y.ensures.0

pub drafted-d-requires : goal.drafted-d-requires
drafted-d-requires c =
    let b = c in
    let a = b.args in
    let pre = b.requires in
    draft_ready _ _ pre.0 a.o.clock a.o.members a.o.rows pre.1 c.put_side-y.ensures.2 _ c.put_side-y.ensures.1 a.l pre.4 _ (side_taken _ _ pre.0 a.o.clock a.o.members a.o.rows pre.1 c.put_side-y.ensures.2 _ c.put_side-y.ensures.0) a.v a.settled pre.2 pre.3 pre.5 pre.6 pre.7 pre.8

pub returns : goal.returns
returns c =
    let b = c in
    let a = b.args in
    let pre = b.requires in
    side_finished _ _ pre.0 a.o.clock a.o.members a.o.rows pre.1 c.put_side-y.ensures.2 _ c.put_side-y.ensures.1 a.l pre.4 _ (side_taken _ _ pre.0 a.o.clock a.o.members a.o.rows pre.1 c.put_side-y.ensures.2 _ c.put_side-y.ensures.0) a.v a.settled pre.2 pre.3 pre.5 pre.6 _ _ _ _ _ _ (length-replicate {A = ℕ} 18268 0) c.drafted-d.ensures c.finish.ensures
