use Rattle.std.proofs.lemmas.Grind.{common_steps}
use native.Mathlib.Omega.{arith}
use Rattle.walk.specs.Walks.{hand_at}
use Rattle.walk.proofs.hand_at.Goals as goal

pub returns : goal.returns
unfolding hand_at
returns c = rw (← c.end_at.ensures) (grind (arith, common_steps, c.map.ensures.cases))
