use Rattle.merging.proofs.SideSteps.{one_row}
use Rattle.merging.proofs.side.put_one.Goals as goal

pub returns : goal.returns
returns c = one_row _ _ _ _ _ _ _ c.args.d c.put_u32.ensures c.put_u32-2.ensures c.put_u32-3.ensures c.put_u64.ensures
