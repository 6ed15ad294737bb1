use Rattle.proposing.specs.Calls.{rm_all_call}
use Rattle.proposing.proofs.rm_all.Goals as goal

pub returns : goal.returns
unfolding rm_all_call
returns c = c.where_fit.ensures
