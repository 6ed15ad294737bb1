use native.Mathlib.Omega.{arith}
use Rattle.merging.proofs.NameSteps.{names_begin, names_again, names_end}
use Rattle.merging.proofs.waits.unite.Goals as goal

pub loop-w-init : goal.loop-w-init
loop-w-init c = names_begin _ _ _ _ _ _ _ _ c.requires.0

pub overflow_add-w : goal.overflow_add-w
overflow_add-w c = let z = c.loop-w.invariant in let r = c.requires.0 in let f = z.few in let ea = r.left_edge in let eb = r.right_edge in omega arith

pub name-w-requires : goal.name-w-requires
name-w-requires c =
    let z = c.loop-w.invariant in let r = c.requires.0 in let l = c.requires.1 in let f = z.few in let ea = r.left_edge in let eb = r.right_edge in let za = z.left_edge in let zb = z.right_edge in
    (c.loop-w-test.true, record { left_rise = z.left_rise; right_rise = z.right_rise; left_edge = omega arith; right_edge = omega arith }, omega arith)

pub loop-w-smaller : goal.loop-w-smaller
loop-w-smaller c = c.name-w.ensures.moves

pub loop-w-preserved : goal.loop-w-preserved
loop-w-preserved c = names_again _ _ _ _ _ _ _ c.loop-w.invariant _ _ c.name-w.ensures

pub shape_of-out : goal.shape_of-out
shape_of-out c = c.loop-w.invariant.size

pub returns : goal.returns
returns c = names_end _ _ _ _ _ _ _ c.loop-w.invariant (let t = c.loop-w-test.false in omega arith)
