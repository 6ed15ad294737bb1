use Prim.Native.Nat.{◌+◌, ◌*◌}
use mathlib.Core.Path.{◌≡◌, refl, ◌∙◌}
use native.Mathlib.Omega.{arith}
use lib.ListN.{length, length-set}
use Rattle.merging.proofs.SideSteps.{one_brought, rows_begin, rows_again, rows_end}
use borrow.Author.Rules.{rules}
use Rattle.merging.proofs.side.put_rows.Goals as goal

pub bounds-c-0 : goal.bounds-c-0
bounds-c-0 c = let a = c.args in let long : length a.c.dots ≡ 16 = search rules in omega arith

pub loop-i-init : goal.loop-i-init
loop-i-init c = (rows_begin _ _ _ _ _, refl)

pub loop-i-preserved : goal.loop-i-preserved
loop-i-preserved c =
    let l = c.loop-i in
    let t = c.loop-i-test.true in
    let a = c.args in
    let pre = c.requires in
    let wide : length a.m.at ≡ 64 = search rules in
    let room = l.invariant.1 in
    (rows_again l.invariant.0 (omega arith) (omega arith) (omega arith) refl (28 + 20 * l.i) _ refl c.put_one.ensures, length-set l.places l.i (28 + 20 * l.i) ∙ room)

pub shape_of-s : goal.shape_of-s
shape_of-s c = c.loop-i.invariant.0.size

pub returns : goal.returns
returns c =
    let a = c.args in
    let long : length a.c.dots ≡ 16 = search rules in
    rw (one_brought a.c a.n a.m.at long c.requires.1) at (rows_end c.loop-i.invariant.0 (omega arith))
