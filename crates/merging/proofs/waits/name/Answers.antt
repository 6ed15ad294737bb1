use native.Mathlib.Omega.{arith}
use Rattle.merging.proofs.NameSteps.{named}
use Rattle.merging.proofs.waits.name.Goals as goal

pub overflow_add-result-2 : goal.overflow_add-result-2
overflow_add-result-2 c = let h = c.requires.1 in let a = c.meets-j.ensures in let ea = h.right_edge in let f = a.fits in omega arith

pub overflow_add-result-3 : goal.overflow_add-result-3
overflow_add-result-3 c = let h = c.requires.2 in omega arith

pub returns : goal.returns
returns c = named _ _ _ _ c.args.w _ _ _ _ c.lowest-low.ensures.0 c.meets-i.ensures.small c.meets-i.ensures c.meets-j.ensures c.requires.1.left_rise c.requires.1.right_rise c.put_u32.ensures
