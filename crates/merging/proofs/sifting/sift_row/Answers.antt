use native.Mathlib.Omega.{arith}
use Rattle.merging.proofs.RowSteps.{row_put}
use Rattle.merging.proofs.SiftSteps.{FirstRow, first_row, next_hand, head_inside, line_long, line_kept, row_written}
use Rattle.merging.proofs.SharedSteps.{line_shared}
use Rattle.merging.proofs.sifting.sift_row.Goals as goal
use Rattle.merging.proofs.sifting.sift_row.Goals.{After-next-dots}

-- the row that was read

row : (c : After-next-dots) → FirstRow c.args.s.now c.args.w.x.at c.args.w.x.left c.next-dots.result.left c.args.actors.now
row c = let p = c.requires in first_row _ _ _ _ _ p.0 c.next-dots.ensures.1 p.1.ahead

pub u32_in-member-requires : goal.u32_in-member-requires
u32_in-member-requires c = let p = c.requires in let h = head_inside _ _ _ _ p.0 p.1.ahead in omega arith

pub reach-h-requires : goal.reach-h-requires
reach-h-requires c =
    let p = c.requires in let q = p.1.few in let f = p.1.lined.few in
    let l = line_long _ _ _ _ c.line_at-line.ensures (omega arith) p.1.lined.wide in
    (omega arith, line_shared _ _ _ _ c.line_at-line.ensures _ f p.1.reach)

pub sift-c-requires : goal.sift-c-requires
sift-c-requires c =
    let p = c.requires in let r = row (goal.at.sift-c-requires c).After-next-dots in let q = p.1.few in let a = p.1.place in let f = p.1.lined.few in
    let l = line_long _ _ _ _ c.line_at-line.ensures (omega arith) p.1.lined.wide in
    rw c.next-dots.ensures.0 (r.inside, f, omega arith, c.reach-h.ensures, r.met, omega arith)

pub returns : goal.returns
returns c =
    let p = c.requires in let k = c.sift-c.ensures.0 in let f = p.1.lined.few in let n = c.next-dots.ensures in let r = c.put_row.ensures in
    row_written c.args.w (row (goal.at.returns c).After-next-dots) p.0 _ _ (omega arith) (next_hand _ _ _ n.2 n.3 n.4) r.0 r.1 r.2 r.3
    (rw (← c.u32_in-member.ensures) (row_put _ _ _ _ _ _ _ (line_kept _ _ _ _ c.line_at-line.ensures _ f _ _ _ _ _ (rw n.0 at c.sift-c.ensures.1)) r.4))
