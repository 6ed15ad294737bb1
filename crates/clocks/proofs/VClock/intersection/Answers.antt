use mathlib.Core.Path.{◌∙◌}
use Rattle.clocks.proofs.Answers.{intersection_join}
use Rattle.clocks.proofs.VClock.intersection.Goals as goal

pub returns : goal.returns
returns c = c.joined.ensures ∙ intersection_join _ _
