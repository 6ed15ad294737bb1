use mathlib.Core.Path.{ap, ◌∙◌}
use Rattle.std.specs.Prelude.{Ok}
use Rattle.std.proofs.lemmas.Result.{err_from_is_err_and}
use Rattle.image.proofs.Link.{image_bad, ok_told, err_told}
use Rattle.checked.proofs.Known.{known}
use Rattle.reading.proofs.Answered.{good_ctx, bad_ctx}
use Rattle.reading.proofs.read_ctx.Goals as goal

pub returns-in_err-x : goal.returns-in_err-x
returns-in_err-x c =
    let p = err_from_is_err_and c.from_residual.result c.from_residual.ensures.1 in
    let q = err_told _ _ _ c.in_err-x.ensures.value in
    rw (p.1, p.2, q.1) (bad_ctx _ (image_bad _ (q.0 ∙ c.check.ensures)))

pub returns : goal.returns
returns c = ap Ok c.twice.ensures ∙ good_ctx _ _ (known _ _ (ok_told _ _ _ c.in_ok-x.ensures.value ∙ c.check.ensures))
