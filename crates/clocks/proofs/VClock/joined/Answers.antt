use Rattle.std.proofs.lemmas.Result.{err_from_is_err_and}
use Rattle.clocks.specs.Calls.{validate_merge_call}
use Rattle.clocks.proofs.Answers.{is_fit, is_unfit, unfit_join, crowded_join, granted_join}
use Rattle.clocks.proofs.VClock.joined.Goals as goal

pub returns-in_err-validate_merge : goal.returns-in_err-validate_merge
unfolding validate_merge_call
returns-in_err-validate_merge c =
    let p = err_from_is_err_and c.from_residual.result c.from_residual.ensures.1 in
    let u = is_unfit _ _ c.in_err-validate_merge.ensures in
    rw (p.1, p.2, u.1) (unfit_join _ _ _ u.0)

pub zip-clock-requires : goal.zip-clock-requires
unfolding validate_merge_call
zip-clock-requires c = (is_fit _ _ c.in_ok-validate_merge.ensures).0

pub returns-then-clock-gt16 : goal.returns-then-clock-gt16
unfolding validate_merge_call
returns-then-clock-gt16 c = crowded_join _ _ _ (is_fit _ _ c.in_ok-validate_merge.ensures).0 _ c.zip-clock.ensures c.if-clock-gt16.true

pub returns-else-clock-gt16 : goal.returns-else-clock-gt16
unfolding validate_merge_call
returns-else-clock-gt16 c = granted_join _ _ _ (is_fit _ _ c.in_ok-validate_merge.ensures).0 _ c.zip-clock.ensures c.if-clock-gt16.false
