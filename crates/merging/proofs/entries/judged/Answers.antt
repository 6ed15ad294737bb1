use native.Mathlib.Omega.{arith}
use native.Mathlib.Nat.{zero-add}
use Rattle.merging.proofs.KeepSteps.{keep_again, keep_end}
use Rattle.merging.proofs.entries.judged.Goals as goal

pub loop-i-preserved : goal.loop-i-preserved
loop-i-preserved c = keep_again c.loop-i.invariant c.loop-i-test.true _ _ (rw (zero-add c.loop-i.i) c.keep_dot-k.ensures)

pub returns : goal.returns
returns c = let z = c.loop-i.invariant in (omega arith, keep_end z c.loop-i-test.false)
