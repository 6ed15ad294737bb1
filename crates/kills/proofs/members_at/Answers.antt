use Rattle.kills.proofs.Steps.{each_turn}
use Rattle.layout.specs.Fields.{u32_at}
use lib.ListN.{length-set}
use native.Mathlib.Omega.{arith}
use mathlib.Core.Path.{ap, ◌∙◌}
use Rattle.kills.proofs.members_at.Goals as goal

pub loop-i-preserved : goal.loop-i-preserved
loop-i-preserved c = (
  simp length-set c.loop-i.invariant.0,
  each_turn (u32_at c.args.s.now) 0 c.args.places.now c.loop-i.ms c.loop-i.i _ (omega arith) (omega arith) (c.u32_at.ensures ∙ ap (u32_at c.args.s.now) c.index.ensures.0) c.loop-i.invariant.1,
)
