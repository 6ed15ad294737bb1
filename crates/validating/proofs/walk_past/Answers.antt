use mathlib.Core.Path.{◌∙◌}
use native.Mathlib.Omega.{arith}
use Rattle.kills.proofs.Steps.{skip_dot}
use Rattle.validating.proofs.Steps.{walked_stop, walked_here, walked_end}
use Rattle.validating.proofs.walk_past.Goals as goal

pub returns-then-a-actor : goal.returns-then-a-actor
returns-then-a-actor c = (walked_stop _ _ _ _ _ c.loop-k.invariant (omega arith) (omega arith), omega arith)

pub returns-then-actor-a : goal.returns-then-actor-a
returns-then-actor-a c = (walked_here _ _ _ _ _ c.loop-k.invariant _ (omega arith) (omega arith) c.u64_in.ensures, omega arith)

pub loop-k-preserved : goal.loop-k-preserved
loop-k-preserved c = c.loop-k.invariant ∙ skip_dot _ _ _ _ _ _ (omega arith) (omega arith) (omega arith)

pub returns : goal.returns
returns c = (walked_end _ _ _ _ _ c.loop-k.invariant _ (omega arith), omega arith)
