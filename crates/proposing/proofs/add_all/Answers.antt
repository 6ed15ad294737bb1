use Rattle.proposing.specs.Calls.{add_all_call}
use Rattle.proposing.proofs.add_all.Goals as goal

pub returns : goal.returns
unfolding add_all_call
returns c = rw (c.where_fit.ensures, c.new-clock.ensures)
