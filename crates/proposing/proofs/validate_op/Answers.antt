use mathlib.Core.Path.{◌≡◌, ◌∙◌}
use native.Mathlib.Omega.{arith}
use Rattle.std.specs.Prelude.{Some}
use Rattle.std.proofs.lemmas.Result.{err_from_is_err_and}
use Rattle.clocks.proofs.Steps.{so}
use Rattle.image.specs.Image.{check_image}
use Rattle.image.proofs.Link.{image_bad, ok_told, err_told}
use Rattle.checked.proofs.Known.{known}
use Rattle.proposing.proofs.Judged.{bad_image, bad_clock, long_list, remove_fine, add_judged}
use Rattle.proposing.proofs.validate_op.Goals as goal
use Rattle.proposing.proofs.validate_op.Goals.{In_ok-x}

seen : (c : In_ok-x) → Some c.in_ok-x.x ≡ check_image c.args.img.now
seen c = ok_told _ _ _ c.in_ok-x.ensures.value ∙ c.check.ensures

pub returns-in_err-x : goal.returns-in_err-x
returns-in_err-x c =
    let p = err_from_is_err_and c.from_residual.result c.from_residual.ensures.1 in
    let q = err_told _ _ _ c.in_err-x.ensures.value in
    rw (p.1, p.2, q.1) (bad_image _ _ _ _ (image_bad _ (q.0 ∙ c.check.ensures)))

pub returns-then-not-is_normalised : goal.returns-then-not-is_normalised
returns-then-not-is_normalised c =
    rw c.into.ensures (bad_clock _ _ _ _ (known _ _ (seen (goal.at.returns-then-not-is_normalised c).In_ok-x)).is_good (so c.is_normalised.ensures c.if-not-is_normalised.true))

pub returns-then-members-gt64 : goal.returns-then-members-gt64
returns-then-members-gt64 c =
    rw c.into-then-members-gt64.ensures (long_list _ _ _ _ (known _ _ (seen (goal.at.returns-then-members-gt64 c).In_ok-x)).is_good (so c.is_normalised.ensures c.if-not-is_normalised.false) (omega arith))

pub returns-in-Add : goal.returns-in-Add
returns-in-Add c =
    let k = known _ _ (seen (goal.at.returns-in-Add c).In_ok-x) in
    add_judged _ _ _ _ k.is_good (so c.is_normalised.ensures c.if-not-is_normalised.false) _ _ _ k (omega arith) c.in-Add.is c.validate_op.ensures

pub returns-in-Remove : goal.returns-in-Remove
returns-in-Remove c = remove_fine _ _ _ _ (known _ _ (seen (goal.at.returns-in-Remove c).In_ok-x)).is_good (so c.is_normalised.ensures c.if-not-is_normalised.false) (omega arith) c.in-Remove.is
