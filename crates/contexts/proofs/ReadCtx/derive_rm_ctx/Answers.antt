use Rattle.std.proofs.lemmas.Result.{err_from_is_err_and}
use Rattle.std.proofs.Common.{◌∙◌}
use Rattle.clocks.proofs.Answers.{is_fit, still_ok, still_err}
use Rattle.contexts.specs.Contexts.{rm_ctx_call}
use Rattle.contexts.proofs.Steps.{judged_is}
use Rattle.contexts.proofs.ReadCtx.derive_rm_ctx.Goals as goal

pub returns-in_err-clock : goal.returns-in_err-clock
unfolding rm_ctx_call
returns-in_err-clock c = let p = err_from_is_err_and c.from_residual.result c.from_residual.ensures.1 in rw (p.1, p.2) (still_err _ _ _ c.in_err-clock.ensures ∙ judged_is _ _)

pub returns : goal.returns
unfolding rm_ctx_call
returns c = rw (is_fit _ _ c.in_ok-clock.ensures).1 (still_ok _ _ _ c.in_ok-clock.ensures ∙ judged_is _ _)
