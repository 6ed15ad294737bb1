use native.Mathlib.Omega.{arith}
use Rattle.replies.specs.Named.{spent_of, spent_bytes}
use Rattle.replies.proofs.Naming.{no_room, with_room, spent_length, spent_put}
use Rattle.replies.proofs.put_spent.Goals as goal

pub returns-then-out-lt20 : goal.returns-then-out-lt20
returns-then-out-lt20 c = let l = spent_length (spent_of c.args.x) in no_room _ _ (omega arith)

pub returns : goal.returns
returns c = let l = spent_length (spent_of c.args.x) in with_room _ (spent_bytes (spent_of c.args.x)) _ (omega arith) (spent_put (spent_of c.args.x) _ _ _ _ _ c.put_u32.ensures c.put_u64.ensures c.put_u32-2.ensures c.put_u32-3.ensures)
