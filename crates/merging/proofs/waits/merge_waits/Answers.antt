use mathlib.Core.Path.{refl}
use native.Mathlib.Omega.{arith}
use Rattle.merging.proofs.WaitSteps.{end_ge}
use Rattle.merging.proofs.WaitLoop.{waits_begin, waits_ahead, waits_again, waits_done}
use Rattle.merging.proofs.waits.merge_waits.Goals as goal

pub loop-w-init : goal.loop-w-init
loop-w-init c = waits_begin _ _ _ _ _ _ _ c.requires.0 c.args.start refl refl refl refl c.requires.3 c.requires.4 _

pub overflow_add-w : goal.overflow_add-w
overflow_add-w c = let z = c.loop-w.invariant in let r = c.requires.0 in let f = z.few in let x = r.left_few in let y = r.right_few in omega arith

pub merge_wait-w-requires : goal.merge_wait-w-requires
merge_wait-w-requires c =
    let z = c.loop-w.invariant in let r = c.requires.0 in let h = c.requires.2 in let f = z.few in let x = r.left_few in let y = r.right_few in let ro = z.room in let ea = r.left_edge in let eb = r.right_edge in let za = z.left_edge in let zb = z.right_edge in
    let a = end_ge c.args.s.now c.loop-w.w.p c.loop-w.w.m in let b = end_ge c.args.t.now c.loop-w.w.q c.loop-w.w.k in
    (waits_ahead _ _ _ _ _ _ _ c.requires.0 z c.loop-w-test.true, c.requires.1, omega arith, omega arith)

pub loop-w-smaller : goal.loop-w-smaller
loop-w-smaller c = c.merge_wait-w.ensures.moves

pub loop-w-preserved : goal.loop-w-preserved
loop-w-preserved c = waits_again _ _ _ _ _ _ _ c.requires.0 c.loop-w.invariant c.loop-w-test.true _ _ c.merge_wait-w.ensures

pub shape_of-out : goal.shape_of-out
shape_of-out c = c.loop-w.invariant.size

pub returns : goal.returns
returns c = waits_done _ _ _ _ _ _ _ c.requires.0 c.loop-w.invariant (let t = c.loop-w-test.false in omega arith)
