use Rattle.std.proofs.lemmas.Result.{err_from_is_err_and}
use Rattle.clocks.specs.VClock.{few}
use Rattle.clocks.specs.Calls.{nth_call}
use Rattle.clocks.proofs.Answers.{is_fit, alone_fit, still_ok, still_err, copied_is, dot_is}
use Rattle.clocks.proofs.VClock.nth.Goals as goal

pub returns-in_err-c : goal.returns-in_err-c
unfolding nth_call
returns-in_err-c c = let p = err_from_is_err_and c.from_residual.result c.from_residual.ensures.1 in rw (p.1, p.2) (still_err _ _ _ c.in_err-c.ensures)

pub shared_ref_as_front-get : goal.shared_ref_as_front-get
shared_ref_as_front-get c =
    let f = is_fit _ _ c.in_ok-c.ensures in
    rw f.1 (few _ (alone_fit _ _ f.0))

pub returns : goal.returns
unfolding nth_call
returns c =
    let f = is_fit _ _ c.in_ok-c.ensures in
    let look = c.get.ensures.lookup in
    rw (c.copied.ensures, copied_is _ _ _ look.0 look.1, dot_is, f.1) (still_ok _ _ _ c.in_ok-c.ensures)
