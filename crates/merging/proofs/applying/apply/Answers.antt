use mathlib.Core.Path.{◌≡◌, sym, ◌∙◌}
use Rattle.std.specs.Prelude.{Some}
use Rattle.std.proofs.lemmas.Result.{err_from_is_err_and}
use Rattle.image.specs.Image.{check_image}
use Rattle.merging.proofs.Results.{unread}
use Rattle.merging.proofs.Applies.{bad_image, bad_clock, long_list, add_passes, remove_passes}
use Rattle.merging.proofs.applying.apply.Goals as goal
use Rattle.merging.proofs.applying.apply.Goals.{In_ok-x}

passed : (c : In_ok-x) → Some c.in_ok-x.x ≡ check_image c.args.img.now
passed c = sym (rw c.check.ensures at c.in_ok-x.ensures.ok_part)

pub returns-in_err-x : goal.returns-in_err-x
returns-in_err-x c =
    let p = err_from_is_err_and c.from_residual.result c.from_residual.ensures.1 in
    rw (p.1, p.2, unread _ _ c.in_err-x.ensures.ok_part c.in_err-x.ensures.value) (bad_image _ _ _ _ _ (sym (rw c.check.ensures at c.in_err-x.ensures.ok_part)))

pub returns-then-not-is_normalised : goal.returns-then-not-is_normalised
returns-then-not-is_normalised c = bad_clock _ _ _ _ _ _ (passed (goal.at.returns-then-not-is_normalised c).In_ok-x) (sym c.is_normalised.ensures ∙ c.if-not-is_normalised.true)

pub returns-then-members-gt64 : goal.returns-then-members-gt64
returns-then-members-gt64 c = long_list _ _ _ _ _ _ (passed (goal.at.returns-then-members-gt64 c).In_ok-x) (sym c.is_normalised.ensures ∙ c.if-not-is_normalised.false) c.if-members-gt64.true

pub add-requires : goal.add-requires
add-requires c = (passed (goal.at.add-requires c).In_ok-x, c.if-members-gt64.false)

pub returns-in-Add : goal.returns-in-Add
returns-in-Add c = add_passes _ _ _ _ _ _ (passed (goal.at.returns-in-Add c).In_ok-x) (sym c.is_normalised.ensures ∙ c.if-not-is_normalised.false) c.if-members-gt64.false _ _ _ c.in-Add.is c.add.ensures

pub remove-requires : goal.remove-requires
remove-requires c = (passed (goal.at.remove-requires c).In_ok-x, sym c.is_normalised.ensures ∙ c.if-not-is_normalised.false, c.if-members-gt64.false)

pub returns-in-Remove : goal.returns-in-Remove
returns-in-Remove c = remove_passes _ _ _ _ _ _ (passed (goal.at.returns-in-Remove c).In_ok-x) (sym c.is_normalised.ensures ∙ c.if-not-is_normalised.false) c.if-members-gt64.false _ _ c.in-Remove.is c.remove.ensures
