use Rattle.std.proofs.lemmas.Result.{err_from_is_err_and}
use Rattle.clocks.specs.Calls.{get_call}
use Rattle.clocks.proofs.Answers.{is_fit, still_ok, still_err}
use Rattle.clocks.proofs.VClock.get.Goals as goal

pub returns-in_err-judged : goal.returns-in_err-judged
unfolding get_call
returns-in_err-judged c = let p = err_from_is_err_and c.from_residual.result c.from_residual.ensures.1 in rw (p.1, p.2) (still_err _ _ _ c.in_err-judged.ensures)

pub returns : goal.returns
unfolding get_call
returns c = rw (c.counter.ensures, (is_fit _ _ c.in_ok-judged.ensures).1) (still_ok _ _ _ c.in_ok-judged.ensures)
