use mathlib.Core.Path.{◌∙◌}
use Rattle.clocks.proofs.Answers.{reset_join}
use Rattle.clocks.proofs.VClock.reset_remove.Goals as goal

pub returns : goal.returns
returns c = c.joined.ensures ∙ reset_join _ _
