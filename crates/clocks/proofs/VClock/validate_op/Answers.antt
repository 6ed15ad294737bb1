use Rattle.std.proofs.lemmas.Result.{err_from_is_err_and}
use Rattle.std.proofs.Common.{arith}
use Rattle.clocks.specs.VClock.{dots_of}
use Rattle.clocks.specs.Calls.{get_call}
use Rattle.clocks.proofs.Answers.{is_fit, is_unfit, op_unfit, op_valid, op_gap, no_gap, a_gap}
use Rattle.clocks.proofs.VClock.validate_op.Goals as goal

pub returns-in_err-last : goal.returns-in_err-last
unfolding get_call
returns-in_err-last c =
    let p = err_from_is_err_and c.from_residual.result c.from_residual.ensures.1 in
    let u = is_unfit _ _ c.in_err-last.ensures in
    rw (p.1, p.2, u.1) (op_unfit _ _ u.0)

pub returns-then-d-last : goal.returns-then-d-last
unfolding get_call
returns-then-d-last c =
    let a = c.args in
    let f = is_fit _ _ c.in_ok-last.ensures in
    let e = f.1 in
    op_valid _ _ f.0 (no_gap (dots_of a.self) a.d (omega arith))

pub returns-then-next-d : goal.returns-then-next-d
unfolding get_call
returns-then-next-d c =
    let a = c.args in
    let f = is_fit _ _ c.in_ok-last.ensures in
    let e = f.1 in
    rw e (op_gap _ _ f.0 _ (a_gap (dots_of a.self) a.d (omega arith)))

pub returns : goal.returns
unfolding get_call
returns c =
    let a = c.args in
    let f = is_fit _ _ c.in_ok-last.ensures in
    let e = f.1 in
    op_valid _ _ f.0 (no_gap (dots_of a.self) a.d (omega arith))
