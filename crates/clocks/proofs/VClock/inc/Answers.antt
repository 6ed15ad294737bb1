use Rattle.std.proofs.lemmas.Result.{err_from_is_err_and}
use Rattle.clocks.specs.Calls.{dot_call}
use Rattle.clocks.proofs.Answers.{is_fit, is_unfit, inc_unfit, inc_granted}
use Rattle.clocks.proofs.VClock.inc.Goals as goal

pub returns-in_err-dot : goal.returns-in_err-dot
unfolding dot_call
returns-in_err-dot c =
    let p = err_from_is_err_and c.from_residual.result c.from_residual.ensures.1 in
    let u = is_unfit _ _ c.in_err-dot.ensures in
    rw (p.1, p.2, u.1) (inc_unfit _ _ u.0)

pub returns : goal.returns
unfolding dot_call
returns c = let f = is_fit _ _ c.in_ok-dot.ensures in rw (c.inc.ensures, f.1) (inc_granted _ _ f.0)
