use Rattle.std.proofs.Common.{arith}
use Rattle.display.proofs.Steps.{width_is}
use Rattle.display.proofs.width_of.Goals as goal

pub returns : goal.returns
returns c =
    let m = c.max.ensures in
    let i = c.ilog10.ensures in
    (width_is c.args.n _ (rw m at i.power_le) (rw m at i.next_power_gt) i.bound, let b = i.bound in omega arith)
