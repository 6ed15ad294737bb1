use mathlib.Core.Path.{◌∙◌}
use Rattle.clocks.proofs.Answers.{merge_join}
use Rattle.clocks.proofs.VClock.merge.Goals as goal

pub returns : goal.returns
returns c = c.joined.ensures ∙ merge_join _ _
