use mathlib.Core.Path.{◌≡◌, ◌∙◌}
use native.Mathlib.Omega.{arith}
use Rattle.std.specs.Prelude.{Some}
use Rattle.std.proofs.lemmas.Result.{err_from_is_err_and}
use Rattle.image.specs.Image.{check_image}
use Rattle.image.proofs.Link.{image_bad, ok_told, err_told}
use Rattle.checked.proofs.Known.{known}
use Rattle.reading.proofs.Answered.{taken_whole, read_short, read_done, bad_read}
use Rattle.reading.proofs.read.Goals as goal
use Rattle.reading.proofs.read.Goals.{In_ok-x}

seen : (c : In_ok-x) → Some c.in_ok-x.x ≡ check_image c.args.img.now
seen c = ok_told _ _ _ c.in_ok-x.ensures.value ∙ c.check.ensures

pub returns-in_err-x : goal.returns-in_err-x
returns-in_err-x c =
    let p = err_from_is_err_and c.from_residual.result c.from_residual.ensures.1 in
    let q = err_told _ _ _ c.in_err-x.ensures.value in
    rw (p.1, p.2, q.1) (bad_read _ (image_bad _ (q.0 ∙ c.check.ensures)) _)

pub overflow_mul-count : goal.overflow_mul-count
overflow_mul-count c = omega (arith, (known _ _ (seen (goal.at.overflow_mul-count c).In_ok-x)).few)

pub returns-then-out-count : goal.returns-then-out-count
returns-then-out-count c = read_short _ _ (known _ _ (seen (goal.at.returns-then-out-count c).In_ok-x)) _ (omega arith)

pub shared_ref_as_front-places : goal.shared_ref_as_front-places
shared_ref_as_front-places c = (known _ _ (seen (goal.at.shared_ref_as_front-places c).In_ok-x)).few

pub slice_bounds-places-end : goal.slice_bounds-places-end
slice_bounds-places-end c = taken_whole _ _ (known _ _ (seen (goal.at.slice_bounds-places-end c).In_ok-x))

pub put_members-requires : goal.put_members-requires
put_members-requires c = let k = known _ _ (seen (goal.at.put_members-requires c).In_ok-x) in omega (arith, k.few, taken_whole _ _ k)

pub returns : goal.returns
returns c = read_done _ _ (known _ _ (seen (goal.at.returns c).In_ok-x)) _ _ _ c.twice.ensures (omega arith) c.put_members.ensures
