use native.Mathlib.Omega.{arith}
use Rattle.merging.proofs.WholeSteps.{above_first}
use Rattle.merging.proofs.SiftSteps.{reach_stays}
use Rattle.merging.proofs.sifting.stays.Goals as goal

pub returns : goal.returns
returns c = λ e. let p = c.requires in let n = c.if-x-eq0.false in
    (omega arith, reach_stays _ _ _ _ p.2 p.3 (above_first _ _ _ _ p.2.within (c.above.ensures e)))
