use mathlib.Core.List.{◌++◌}
use Rattle.display.specs.Text.{colon, decimal}
use Rattle.display.proofs.Steps.{dot_parts, room_first, room_then, put_then}
use Rattle.display.proofs.put_dot.Goals as goal

-- `display::put_dot` meets its contract: two writes in a row.
pub put_number-p-requires : goal.put_number-p-requires
put_number-p-requires c = room_first _ (colon ++ decimal c.args.d.counter) (rw dot_parts at c.requires)

pub put_number-requires : goal.put_number-requires
put_number-requires c = room_then (rw dot_parts at c.requires) c.put_number-p.ensures

pub returns : goal.returns
returns c = rw dot_parts (put_then c.put_number-p.ensures c.put_number.ensures)
