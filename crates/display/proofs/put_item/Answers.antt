use Rattle.display.proofs.Steps.{item_first, item_later}
use Rattle.display.proofs.put_item.Goals as goal

-- `display::put_item` meets its contract: the bytes before the dot are those that the definition picks.
pub put_dot-requires : goal.put_dot-requires
put_dot-requires c = let h = c.if-i-eq0.true in rw item_first at c.requires

pub returns-then-i-eq0 : goal.returns-then-i-eq0
returns-then-i-eq0 c = let h = c.if-i-eq0.true in rw item_first c.put_dot.ensures

pub put_dot-requires-2 : goal.put_dot-requires-2
put_dot-requires-2 c = let h = c.if-i-eq0.false in rw item_later at c.requires

pub returns : goal.returns
returns c = let h = c.if-i-eq0.false in rw item_later c.put_dot-2.ensures
