use Rattle.dots.proofs.Actors.{by_actor}
use Rattle.dots.proofs.OrdDot.compare.Goals as goal

-- `dots::OrdDot::compare` meets its contract: the actors decide, and the counters where they are the same.
pub returns : goal.returns
returns c = rw c.cmp.ensures (by_actor _ _)
