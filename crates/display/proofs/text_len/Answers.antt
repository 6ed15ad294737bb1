use Rattle.clocks.proofs.TextFacts.{items_none, items_one}
use Rattle.std.proofs.Common.{arith, refl, length-append}
use Rattle.display.proofs.Steps.{length_text}
use Rattle.display.proofs.text_len.Goals as goal

pub loop-i-init : goal.loop-i-init
loop-i-init c = (omega arith, refl)

pub loop-i-preserved : goal.loop-i-preserved
loop-i-preserved c =
    let l = c.loop-i in
    let more = rw (items_one l.i c.args.dots.now c.loop-i-test.true, length-append) at l.invariant.1 in
    let e = c.item_len-t.ensures in
    (omega arith, omega arith)

pub returns : goal.returns
returns c =
    let l = c.loop-i in
    let whole = rw (items_none l.i c.args.dots.now c.loop-i-test.false) at l.invariant.1 in
    omega (arith, length_text c.args.dots.now)
