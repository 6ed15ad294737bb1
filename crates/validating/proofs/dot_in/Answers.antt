use Rattle.layout.specs.Clock.{dot_in}
use Rattle.validating.proofs.dot_in.Goals as goal

pub returns : goal.returns
unfolding dot_in
returns c = rw (c.u32_in.ensures, c.u64_in.ensures)
