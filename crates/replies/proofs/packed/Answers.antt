use native.Mathlib.Omega.{arith}
use Rattle.replies.proofs.packed.Goals as goal

pub returns : goal.returns
returns c = omega arith
