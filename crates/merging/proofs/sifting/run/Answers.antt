use mathlib.Core.Path.{sym, ◌∙◌}
use native.Mathlib.Omega.{arith}
use Rattle.layout.specs.Fields.{Bytes}
use Rattle.merging.proofs.RowSteps.{end_ge}
use Rattle.merging.proofs.SiftSteps.{FirstRow, first_row, next_hand, line_long, line_sifted}
use Rattle.merging.proofs.SiftLoop.{passed_none, passed_on}
use Rattle.merging.proofs.SharedSteps.{line_shared, ready_on}
use Rattle.merging.proofs.sifting.run.Goals as goal
use Rattle.merging.proofs.sifting.run.Goals.{After-next-dots}

-- the row that was read

row : (c : After-next-dots) → FirstRow c.args.s.now c.loop-r.r.x.at c.loop-r.r.x.left c.next-dots.result.left c.args.actors.now
row c = first_row _ _ _ _ _ c.loop-r-test.true c.next-dots.ensures.1 (ready_on c.requires c.loop-r.invariant.moved).ahead

pub loop-r-init : goal.loop-r-init
loop-r-init c = let a = c.args in let h = c.requires.ahead.room in passed_none (let e = end_ge a.s.now a.w.x.at a.w.x.left in omega arith)

pub reach-h-requires : goal.reach-h-requires
reach-h-requires c =
    let q = (ready_on c.requires c.loop-r.invariant.moved).few in let m = c.loop-r-test.true in let f = c.requires.lined.few in
    let l = line_long _ _ _ _ c.line_at-line.ensures (omega arith) c.requires.lined.wide in
    (omega arith, line_shared _ _ _ _ c.line_at-line.ensures _ f c.requires.reach)

pub stays-requires : goal.stays-requires
stays-requires c =
    let r = row (goal.at.stays-requires c).After-next-dots in
    let q = (ready_on c.requires c.loop-r.invariant.moved).few in let m = c.loop-r-test.true in let f = c.requires.lined.few in
    let l = line_long _ _ _ _ c.line_at-line.ensures (omega arith) c.requires.lined.wide in
    rw c.next-dots.ensures.0 (r.inside, omega arith, c.reach-h.ensures, r.met)

pub overflow_mul-r : goal.overflow_mul-r
overflow_mul-r c = let i = (row (goal.at.overflow_mul-r c).After-next-dots).small in omega arith

pub overflow_add-r : goal.overflow_add-r
overflow_add-r c = let i = (row (goal.at.overflow_add-r c).After-next-dots).small in omega arith

pub overflow_add-r-then-stays : goal.overflow_add-r-then-stays
overflow_add-r-then-stays c = let i = (row (goal.at.overflow_add-r-then-stays c).After-next-dots).small in let r = ready_on c.requires c.loop-r.invariant.moved in let q = r.place in let f = r.few in omega arith

pub loop-r-preserved : goal.loop-r-preserved
loop-r-preserved c =
    let a = c.args in let n = c.next-dots.ensures in
    let b : Bytes a.s.now = λ i. omega (arith, c.type_inv.s i) in
    let t = rw n.0 at (c.stays.ensures c.if-stays.true) in
    passed_on _ _ (next_hand _ _ _ n.2 n.3 n.4) c.loop-r.invariant (row (goal.at.loop-r-preserved c).After-next-dots) c.loop-r-test.true c.requires.lined.few b n.1
    (t.0, sym (line_sifted _ _ _ _ c.line_at-line.ensures _ _ c.requires.lined.few) ∙ t.1)
