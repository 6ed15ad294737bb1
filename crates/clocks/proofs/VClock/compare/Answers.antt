use Rattle.std.proofs.lemmas.Result.{err_from_is_err_and}
use Rattle.clocks.specs.VClock.{swapped}
use Rattle.clocks.specs.Calls.{validate_merge_call, compare_call}
use Rattle.clocks.proofs.Answers.{is_fit, still_ok, still_err}
use Rattle.clocks.proofs.VClock.compare.Goals as goal

pub returns-in_err-validate_merge : goal.returns-in_err-validate_merge
unfolding validate_merge_call compare_call
returns-in_err-validate_merge c = let p = err_from_is_err_and c.from_residual.result c.from_residual.ensures.1 in rw (p.1, p.2) (still_err _ _ _ c.in_err-validate_merge.ensures)

pub covers-requires : goal.covers-requires
unfolding validate_merge_call
covers-requires c = (is_fit _ _ c.in_ok-validate_merge.ensures).0

pub covers-requires-2 : goal.covers-requires-2
unfolding validate_merge_call
covers-requires-2 c = swapped _ _ (is_fit _ _ c.in_ok-validate_merge.ensures).0

pub returns : goal.returns
unfolding validate_merge_call compare_call
returns c = rw (c.by_covering.ensures, c.covers.ensures, c.covers-2.ensures) (still_ok _ _ _ c.in_ok-validate_merge.ensures)
