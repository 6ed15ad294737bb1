use native.Mathlib.Omega.{arith}
use Rattle.merging.proofs.WholeSteps.{over_on, over_end}
use Rattle.merging.proofs.entries.above.Goals as goal

pub loop-i-preserved : goal.loop-i-preserved
loop-i-preserved c =
    let z = c.loop-i.invariant in let g = c.take.ensures.edge in
    (omega arith, λ e. z.1 (over_on _ _ _ _ _ _ c.loop-i-test.true _ _ c.take.ensures (c.passes.ensures c.if-not-passes.false) e))

pub returns : goal.returns
returns c = λ e. c.loop-i.invariant.1 (over_end _ _ _ _ _ _ c.loop-i-test.false)
