use Rattle.walk.proofs.Steps.{end_past, end_room, end_here}
use native.Mathlib.Omega.{arith}
use Rattle.walk.proofs.end_at.Goals as goal

pub returns-then-index-at : goal.returns-then-index-at
returns-then-index-at c = end_past c.args.s.now c.args.at (omega arith)

pub returns-then-s-end : goal.returns-then-s-end
returns-then-s-end c = end_room c.args.s.now c.args.at (omega arith) c.index-2.result (omega arith) (omega arith)

pub returns : goal.returns
returns c = end_here c.args.s.now c.args.at (omega arith) _ (omega arith) (omega arith)
