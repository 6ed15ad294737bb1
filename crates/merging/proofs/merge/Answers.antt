use Prim.Native.Nat.{ℕ}
use mathlib.Core.Path.{◌≡◌, sym}
use lib.ListN.{length-replicate}
use Rattle.std.specs.Prelude.{Some}
use Rattle.std.proofs.lemmas.Result.{err_from_is_err_and}
use Rattle.image.specs.Image.{check_image}
use Rattle.merging.proofs.Results.{unread}
use Rattle.merging.proofs.Merges.{first_bad, second_bad, clock_crowded, merge_ready, merge_meets}
use Rattle.merging.proofs.merge.Goals as goal
use Rattle.merging.proofs.merge.Goals.{In_ok-x, In_ok-y, In_ok-v}

first : (c : In_ok-x) → Some c.in_ok-x.x ≡ check_image c.args.a.now
first c = sym (rw c.check.ensures at c.in_ok-x.ensures.ok_part)

second : (c : In_ok-y) → Some c.in_ok-y.y ≡ check_image c.args.b.now
second c = sym (rw c.check-2.ensures at c.in_ok-y.ensures.ok_part)

pub returns-in_err-x : goal.returns-in_err-x
returns-in_err-x c =
    let p = err_from_is_err_and c.from_residual.result c.from_residual.ensures.1 in
    rw (p.1, p.2, unread _ _ c.in_err-x.ensures.ok_part c.in_err-x.ensures.value) (first_bad _ _ _ (sym (rw c.check.ensures at c.in_err-x.ensures.ok_part)))

pub returns-in_err-y : goal.returns-in_err-y
returns-in_err-y c =
    let p = err_from_is_err_and c.from_residual-in_err-y.result c.from_residual-in_err-y.ensures.1 in
    rw (p.1, p.2, unread _ _ c.in_err-y.ensures.ok_part c.in_err-y.ensures.value) (second_bad _ _ _ _ (first (goal.at.returns-in_err-y c).In_ok-x) (sym (rw c.check-2.ensures at c.in_err-y.ensures.ok_part)))

pub returns-in_err-v : goal.returns-in_err-v
returns-in_err-v c =
    let p = err_from_is_err_and c.from_residual-in_err-v.result c.from_residual-in_err-v.ensures.1 in
    rw (p.1, p.2) (clock_crowded _ _ (first (goal.at.returns-in_err-v c).In_ok-x) _ _ (second (goal.at.returns-in_err-v c).In_ok-y) _ c.in_err-v.ensures _)

pub drafted-d-requires : goal.drafted-d-requires
drafted-d-requires c = merge_ready _ _ (first (goal.at.drafted-d-requires c).In_ok-x) _ _ (second (goal.at.drafted-d-requires c).In_ok-y) _ c.in_ok-v.ensures

pub returns : goal.returns
returns c =
    merge_meets _ _ (first (goal.at.returns c).In_ok-x) _ _ (second (goal.at.returns c).In_ok-y) _ c.in_ok-v.ensures
    _ _ _ _ _ _ (length-replicate {A = ℕ} 18268 0) c.drafted-d.ensures c.finish.ensures
