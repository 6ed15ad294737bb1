use Rattle.clocks.proofs.TextFacts.{items_none, items_one}
use Rattle.display.proofs.Steps.{room_first, room_then, put_then, put_nothing}
use Rattle.display.proofs.put_items.Goals as goal

pub loop-i-init : goal.loop-i-init
loop-i-init c = (c.requires, λ r new f. f)

pub put_item-p-requires : goal.put_item-p-requires
put_item-p-requires c = let l = c.loop-i in room_first _ _ (rw (items_one l.i c.args.dots.now c.loop-i-test.true) at l.invariant.0)

pub loop-i-preserved : goal.loop-i-preserved
loop-i-preserved c =
    let l = c.loop-i in
    let more = items_one l.i c.args.dots.now c.loop-i-test.true in
    let put = c.put_item-p.ensures in
    (room_then (rw more at l.invariant.0) put, λ r new f. l.invariant.1 r new (rw more (put_then put f)))

pub returns : goal.returns
returns c = let l = c.loop-i in l.invariant.1 _ _ (rw (items_none l.i c.args.dots.now c.loop-i-test.false) put_nothing)
