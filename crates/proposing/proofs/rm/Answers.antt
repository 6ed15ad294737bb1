use mathlib.Core.Path.{ap}
use Rattle.std.proofs.lemmas.Result.{err_from_is_err_and}
use Rattle.proposing.specs.Calls.{rm_call, one_of}
use Rattle.proposing.proofs.rm.Goals as goal

pub returns-in_err-rm_all : goal.returns-in_err-rm_all
unfolding rm_call
returns-in_err-rm_all c = let p = err_from_is_err_and c.from_residual.result c.from_residual.ensures.1 in rw (p.1, p.2) (ap (one_of _) c.in_err-rm_all.ensures)

pub returns : goal.returns
unfolding rm_call
returns c = rw c.of_one.ensures (ap (one_of _) c.in_ok-rm_all.ensures)
