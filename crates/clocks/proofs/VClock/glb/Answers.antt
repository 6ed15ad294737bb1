use mathlib.Core.Path.{◌∙◌}
use Rattle.clocks.proofs.Answers.{glb_join}
use Rattle.clocks.proofs.VClock.glb.Goals as goal

pub returns : goal.returns
returns c = c.joined.ensures ∙ glb_join _ _
