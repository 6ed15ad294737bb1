use Rattle.display.specs.Text.{decimal}
use Rattle.display.proofs.Steps.{room_first, room_then, put_then}
use Rattle.display.proofs.put_number.Goals as goal

-- `display::put_number` meets its contract: two writes in a row.
pub put-p-requires : goal.put-p-requires
put-p-requires c = room_first _ (decimal c.args.n) c.requires

pub put_digits-requires : goal.put_digits-requires
unfolding decimal
put_digits-requires c = rw c.width_of-k.ensures.0 (room_then c.requires c.put-p.ensures)

pub returns : goal.returns
unfolding decimal
returns c = put_then c.put-p.ensures (rw c.width_of-k.ensures.0 at c.put_digits.ensures)
