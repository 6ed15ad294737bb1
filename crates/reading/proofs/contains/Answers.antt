use mathlib.Core.Path.{◌≡◌, ◌∙◌}
use native.Mathlib.Omega.{arith}
use Rattle.std.specs.Prelude.{Some}
use Rattle.std.proofs.lemmas.Result.{err_from_is_err_and}
use Rattle.image.specs.Image.{check_image}
use Rattle.image.proofs.Link.{image_bad, ok_told, err_told}
use Rattle.checked.proofs.Known.{known}
use Rattle.reading.proofs.Answered.{taken_whole, seat_inside, held, absent, bad_contains}
use Rattle.reading.proofs.contains.Goals as goal
use Rattle.reading.proofs.contains.Goals.{In_ok-x}

seen : (c : In_ok-x) → Some c.in_ok-x.x ≡ check_image c.args.img.now
seen c = ok_told _ _ _ c.in_ok-x.ensures.value ∙ c.check.ensures

pub returns-in_err-x : goal.returns-in_err-x
returns-in_err-x c =
    let p = err_from_is_err_and c.from_residual.result c.from_residual.ensures.1 in
    let q = err_told _ _ _ c.in_err-x.ensures.value in
    rw (p.1, p.2, q.1) (bad_contains _ (image_bad _ (q.0 ∙ c.check.ensures)) _)

pub shared_ref_as_front-places : goal.shared_ref_as_front-places
shared_ref_as_front-places c = (known _ _ (seen (goal.at.shared_ref_as_front-places c).In_ok-x)).few

pub slice_bounds-places-end : goal.slice_bounds-places-end
slice_bounds-places-end c = taken_whole _ _ (known _ _ (seen (goal.at.slice_bounds-places-end c).In_ok-x))

pub offset_bounds-places-i : goal.offset_bounds-places-i
offset_bounds-places-i c = let k = known _ _ (seen (goal.at.offset_bounds-places-i c).In_ok-x) in omega (arith, seat_inside _ _ k _ _ c.in-Some.ensures, taken_whole _ _ k, k.few)

pub bounds-places-i : goal.bounds-places-i
bounds-places-i c = seat_inside _ _ (known _ _ (seen (goal.at.bounds-places-i c).In_ok-x)) _ _ c.in-Some.ensures

pub returns-in-Some : goal.returns-in-Some
returns-in-Some c = held _ _ (known _ _ (seen (goal.at.returns-in-Some c).In_ok-x)) _ _ _ _ c.in-Some.ensures c.index.ensures.0 c.clock_at-rm_clock.ensures

pub returns-in_default : goal.returns-in_default
returns-in_default c = absent _ _ (known _ _ (seen (goal.at.returns-in_default c).In_ok-x)) _ _ c.in_default.ensures c.new-rm_clock.ensures
