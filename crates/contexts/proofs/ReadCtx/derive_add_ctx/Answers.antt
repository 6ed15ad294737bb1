use Rattle.std.proofs.lemmas.Result.{err_from_is_err_and}
use Rattle.clocks.proofs.Answers.{is_fit, is_unfit}
use Rattle.contexts.proofs.Steps.{unfit_add, next_refused, after_refused, derived}
use Rattle.contexts.proofs.ReadCtx.derive_add_ctx.Goals as goal

pub returns-in_err-clock : goal.returns-in_err-clock
returns-in_err-clock c =
    let p = err_from_is_err_and c.from_residual.result c.from_residual.ensures.1 in
    let u = is_unfit _ _ c.in_err-clock.ensures in
    rw (p.1, p.2, u.1) (unfit_add _ _ u.0)

pub returns-in_err-dot : goal.returns-in_err-dot
returns-in_err-dot c =
    let p = err_from_is_err_and c.from_residual-in_err-dot.result c.from_residual-in_err-dot.ensures.1 in
    let f = is_fit _ _ c.in_ok-clock.ensures in
    rw (p.1, p.2) (next_refused _ _ f.0 _ (rw f.1 at c.in_err-dot.ensures))

pub returns-in_err-clock-2 : goal.returns-in_err-clock-2
returns-in_err-clock-2 c =
    let p = err_from_is_err_and c.from_residual-in_err-clock-2.result c.from_residual-in_err-clock-2.ensures.1 in
    let f = is_fit _ _ c.in_ok-clock.ensures in
    rw (p.1, p.2) (after_refused _ _ f.0 _ (rw f.1 at c.in_ok-dot.ensures) _ (rw f.1 at c.in_err-clock-2.ensures))

pub returns : goal.returns
returns c =
    let f = is_fit _ _ c.in_ok-clock.ensures in
    derived _ _ f.0 _ (rw f.1 at c.in_ok-dot.ensures) _ (rw f.1 at c.in_ok-clock-2.ensures)
