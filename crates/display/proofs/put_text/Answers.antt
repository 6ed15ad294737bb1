use mathlib.Core.List.{◌++◌}
use Rattle.display.specs.Text.{opening, closing, items, text}
use Rattle.display.proofs.Steps.{room_first, room_then, put_then}
use Rattle.display.proofs.put_text.Goals as goal

-- `display::put_text` meets its contract: three writes in a row.
pub put-p-requires : goal.put-p-requires
unfolding text
put-p-requires c = room_first opening (items 0 c.args.dots.now ++ closing) c.requires

pub put_items-q-requires : goal.put_items-q-requires
unfolding text
put_items-q-requires c = room_first _ closing (room_then c.requires c.put-p.ensures)

pub put-requires : goal.put-requires
unfolding text
put-requires c = room_then (room_then c.requires c.put-p.ensures) c.put_items-q.ensures

pub returns : goal.returns
unfolding text
returns c = put_then c.put-p.ensures (put_then c.put_items-q.ensures c.put.ensures)
