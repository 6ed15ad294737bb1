use native.Mathlib.Omega.{arith}
use Rattle.reading.proofs.Steps.{empty_short, empty_put}
use Rattle.reading.proofs.empty.Goals as goal

pub returns-then-out-lt28 : goal.returns-then-out-lt28
returns-then-out-lt28 c = empty_short _ (omega arith)

pub returns : goal.returns
returns c = empty_put _ _ _ (omega arith) c.put_contents.ensures c.put_u32.ensures
