use Rattle.std.proofs.lemmas.Result.{err_from_is_err_and}
use Rattle.std.proofs.Common.{◌∙◌}
use Rattle.clocks.proofs.Answers.{is_fit, still_ok, still_err}
use Rattle.contexts.specs.Contexts.{split_call}
use Rattle.contexts.proofs.Steps.{judged_is}
use Rattle.contexts.proofs.ReadCtx.split.Goals as goal

pub returns-in_err-ctx : goal.returns-in_err-ctx
unfolding split_call
returns-in_err-ctx c = let p = err_from_is_err_and c.from_residual.result c.from_residual.ensures.1 in rw (p.1, p.2) (still_err _ _ _ c.in_err-ctx.ensures ∙ judged_is _ _)

pub returns : goal.returns
unfolding split_call
returns c = rw (is_fit _ _ c.in_ok-ctx.ensures).1 (still_ok _ _ _ c.in_ok-ctx.ensures ∙ judged_is _ _)
