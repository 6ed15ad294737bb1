use native.Mathlib.Omega.{arith}
use Rattle.merging.proofs.SiftLoop.{sifted_on, sifted_end}
use Rattle.merging.proofs.sifting.sift_rows.Goals as goal

pub returns : goal.returns
returns c = let p = c.requires in let t = c.loop-w-test.false in rw (← c.shared-one.ensures.0) (sifted_end p.2 p.4 p.5 (omega arith) (sifted_on c.copy_run-w.ensures c.loop-w.invariant.1))
