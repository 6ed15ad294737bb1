use Rattle.std.proofs.Common.{◌≡◌, refl, arith, ◌∙◌}
use Rattle.display.specs.Laws.{length_digits}
use Rattle.display.proofs.Steps.{spell_step}
use Rattle.display.proofs.put_digits.Goals as goal

pub loop-i-init : goal.loop-i-init
loop-i-init c = refl

pub overflow_add-out-in-loop-i : goal.overflow_add-out-in-loop-i
overflow_add-out-in-loop-i c = let a = c.args in let f = c.requires.fits in omega (arith, length_digits a.k a.n)

pub bounds-out-at : goal.bounds-out-at
bounds-out-at c = let a = c.args in let f = c.requires.fits in omega (arith, length_digits a.k a.n)

pub loop-i-preserved : goal.loop-i-preserved
loop-i-preserved c = let l = c.loop-i in spell_step l.out c.args.at l.i l.m c.loop-i-test.true ∙ l.invariant

pub overflow_add-result : goal.overflow_add-result
overflow_add-result c = let a = c.args in let f = c.requires.fits in omega (arith, length_digits a.k a.n)

pub returns : goal.returns
returns c =
    let l = c.loop-i in
    let a = c.args in
    let none : l.i ≡ 0 = omega arith in
    record { place = omega (arith, length_digits a.k a.n); stores = rw none at l.invariant }
