use Rattle.std.proofs.lemmas.Result.{err_from_is_err_and}
use Rattle.clocks.specs.Calls.{compare_call, concurrent_call}
use Rattle.clocks.proofs.Answers.{is_fit, still_ok, still_err, concurrent_says}
use Rattle.clocks.proofs.VClock.concurrent.Goals as goal

pub returns-in_err-compare : goal.returns-in_err-compare
unfolding compare_call concurrent_call
returns-in_err-compare c = let p = err_from_is_err_and c.from_residual.result c.from_residual.ensures.1 in rw (p.1, p.2) (still_err _ _ _ c.in_err-compare.ensures)

pub returns : goal.returns
unfolding compare_call concurrent_call
returns c =
    let f = is_fit _ _ c.in_ok-compare.ensures in
    rw (concurrent_says _ _ _ _ f.1 c.is_none.ensures) (still_ok _ _ _ c.in_ok-compare.ensures)
