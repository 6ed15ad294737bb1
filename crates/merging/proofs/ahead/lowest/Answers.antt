use native.Mathlib.Omega.{arith}
use Rattle.merging.proofs.AheadSteps.{lowest_left, lowest_right, lowest_both}
use Rattle.merging.proofs.ahead.lowest.Goals as goal

pub returns-then-k-eq0 : goal.returns-then-k-eq0
returns-then-k-eq0 c = lowest_left _ _ _ _ _ _ _ (omega arith) c.if-k-eq0.true c.requires c.u32_at.ensures

pub returns-then-m-eq0 : goal.returns-then-m-eq0
returns-then-m-eq0 c = lowest_right _ _ _ _ _ _ _ (omega arith) c.if-m-eq0.true c.requires c.u32_at-then-m-eq0.ensures

pub returns : goal.returns
returns c = lowest_both _ _ _ _ _ _ _ (omega arith) c.if-m-eq0.false c.if-k-eq0.false _ _ c.u32_at-2.ensures c.u32_at-3.ensures c.min.ensures
