use Prim.Native.Nat.{ℕ}
use mathlib.Core.Path.{◌≡◌, sym, ◌∙◌}
use mathlib.Core.List.{List}
use native.Mathlib.Omega.{arith}
use lib.ListN.{length, take}
use lib.Seq.{length-take-le}
use Rattle.std.specs.Prelude.{Some}
use Rattle.std.proofs.lemmas.Result.{err_from_is_err_and}
use Rattle.image.specs.declared.Image.{Image}
use Rattle.checked.proofs.Known.{Known, known}
use Rattle.image.specs.Image.{check_image}
use Rattle.image.proofs.Link.{image_bad, ok_told, err_told}
use Rattle.validating.proofs.Found.{listed, both_found, bad_second, bad_first}
use Rattle.validating.proofs.validate_merge.Goals as goal
use Rattle.validating.proofs.validate_merge.Goals.{In_ok-x, In_ok-y}

whole : (s : List ℕ) (x : Image) → Known s x → x.entries ≡ length (take x.entries x.places)
whole s x k = sym (length-take-le x.entries x.places (omega (arith, k.few, k.long)))

first : (c : In_ok-x) → Some c.in_ok-x.x ≡ check_image c.args.a.now
first c = ok_told _ _ _ c.in_ok-x.ensures.value ∙ c.check.ensures

second : (c : In_ok-y) → Some c.in_ok-y.y ≡ check_image c.args.b.now
second c = ok_told _ _ _ c.in_ok-y.ensures.value ∙ c.check-2.ensures

pub returns-in_err-x : goal.returns-in_err-x
returns-in_err-x c =
    let p = err_from_is_err_and c.from_residual.result c.from_residual.ensures.1 in
    let q = err_told _ _ _ c.in_err-x.ensures.value in
    rw (p.1, p.2, q.1) (bad_first _ _ (image_bad _ (q.0 ∙ c.check.ensures)))

pub returns-in_err-y : goal.returns-in_err-y
returns-in_err-y c =
    let p = err_from_is_err_and c.from_residual-in_err-y.result c.from_residual-in_err-y.ensures.1 in
    let q = err_told _ _ _ c.in_err-y.ensures.value in
    rw (p.1, p.2, q.1) (bad_second _ _ (known _ _ (first (goal.at.returns-in_err-y c).In_ok-x)).is_good (image_bad _ (q.0 ∙ c.check-2.ensures)))

pub shared_ref_as_front-ours : goal.shared_ref_as_front-ours
shared_ref_as_front-ours c = (known _ _ (first (goal.at.shared_ref_as_front-ours c).In_ok-x)).few

pub slice_bounds-ours-end : goal.slice_bounds-ours-end
slice_bounds-ours-end c = whole _ _ (known _ _ (first (goal.at.slice_bounds-ours-end c).In_ok-x))

pub shared_ref_as_front-theirs : goal.shared_ref_as_front-theirs
shared_ref_as_front-theirs c = (known _ _ (second (goal.at.shared_ref_as_front-theirs c).In_ok-y)).few

pub slice_bounds-theirs-end : goal.slice_bounds-theirs-end
slice_bounds-theirs-end c = whole _ _ (known _ _ (second (goal.at.slice_bounds-theirs-end c).In_ok-y))

pub first_spent-requires : goal.first_spent-requires
first_spent-requires c = let g = goal.at.first_spent-requires c in (listed _ _ (first g.In_ok-x), listed _ _ (second g.In_ok-y))

pub returns : goal.returns
returns c = let g = goal.at.returns c in c.first_spent.ensures ∙ both_found _ _ _ _ (listed _ _ (first g.In_ok-x)) (listed _ _ (second g.In_ok-y))
