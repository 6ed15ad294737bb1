use mathlib.Core.Path.{◌≡◌}
use Rattle.std.specs.Ordering.{is_le, is_ge}
use Rattle.tables.specs.Table.{pick}
use native.Mathlib.Omega.{arith}
use Rattle.merging.proofs.WaitSteps.{one_taken, Turned, turned, Numbers, numbers, starts_small, first_inside, merged_wait, put_size, put_one, clock_length}
use Rattle.merging.proofs.waits.merge_wait.Goals as goal
use Rattle.merging.proofs.waits.merge_wait.Goals.{After-part_at-y}

taken_i : (c : After-part_at-y) → c.from-i.result ≡ pick (is_le c.next_wait-side.result) 1 0
taken_i c = one_taken _ _ (rw c.is_le.ensures at c.from-i.ensures)

taken_j : (c : After-part_at-y) → c.from-j.result ≡ pick (is_ge c.next_wait-side.result) 1 0
taken_j c = one_taken _ _ (rw c.is_ge.ensures at c.from-j.ensures)

-- what the turn has read
turn : (c : After-part_at-y) → Turned c.args.s.now c.args.t.now c.args.w c.next_wait-side.result c.part_at-x.result c.part_at-y.result
turn c = turned _ _ _ _ _ _ _ _ c.requires.0 c.next_wait-side.ensures (taken_i c) (taken_j c) c.part_at-x.ensures c.part_at-y.ensures

counted : (c : After-part_at-y) → Numbers c.args.s.now c.args.t.now c.args.w c.next_wait-side.result c.from-i.result c.from-j.result c.part_at-x.result c.part_at-y.result
counted c = numbers _ _ _ _ _ _ _ _ (taken_i c) (taken_j c) (turn c)

pub next_wait-side-requires : goal.next_wait-side-requires
next_wait-side-requires c = let h = c.requires.0 in (h.more, first_inside _ _ _ h.left_inside, first_inside _ _ _ h.right_inside)

pub part_at-x-requires : goal.part_at-x-requires
part_at-x-requires c = (starts_small c.requires.0).0

pub part_at-y-requires : goal.part_at-y-requires
part_at-y-requires c = (starts_small c.requires.0).1

pub put_next-r-requires : goal.put_next-r-requires
put_next-r-requires c =
    let p = c.requires in let e = starts_small p.0 in let d = turn (goal.at.put_next-r-requires c).After-part_at-y in let n = counted (goal.at.put_next-r-requires c).After-part_at-y in (
      record {
        left = n.left;
        right = n.right;
        left_none = n.left_none;
        right_none = n.right_none;
        left_small = rw d.left.start e.0;
        right_small = rw d.right.start e.1;
        ready = record { left_rise = d.left.rise; right_rise = d.right.rise; left_edge = c.part_at-x.ensures.small; right_edge = c.part_at-y.ensures.small };
      },
      p.1,
      p.2,
    )

pub overflow_sub-result : goal.overflow_sub-result
overflow_sub-result c = let f = (counted (goal.at.overflow_sub-result c).After-part_at-y).left_fits in omega arith

pub overflow_sub-result-2 : goal.overflow_sub-result-2
overflow_sub-result-2 c = let f = (counted (goal.at.overflow_sub-result-2 c).After-part_at-y).right_fits in omega arith

pub overflow_add-result : goal.overflow_add-result
overflow_add-result c =
    let n = counted (goal.at.overflow_add-result c).After-part_at-y in let a = c.args in let s = rw (c.part_at-x.ensures.start, c.part_at-y.ensures.start) at c.put_next-r.ensures.short in
    let l = clock_length c.next_wait-side.result a.s.now a.t.now a.w.p a.w.q in let f = n.few in let g = n.clock_few in let r = c.requires.2 in omega arith

pub overflow_add-result-2 : goal.overflow_add-result-2
overflow_add-result-2 c = let o = put_one c.put_next-r.ensures in let f = c.requires.3 in omega arith

pub shape_of-out : goal.shape_of-out
shape_of-out c = put_size c.put_next-r.ensures

pub returns : goal.returns
returns c = let b = (goal.at.returns c).After-part_at-y in merged_wait _ _ _ _ _ _ _ _ _ _ _ _ _ _ _ (taken_i b) (taken_j b) (turn b) c.put_next-r.ensures c.max.ensures
