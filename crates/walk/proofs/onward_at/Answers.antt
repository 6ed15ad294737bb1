use Rattle.walk.specs.Walks.{onward_at}
use Rattle.walk.proofs.onward_at.Goals as goal

pub returns : goal.returns
unfolding onward_at
returns c = rw (← c.end_at.ensures) c.unwrap_or.ensures
