use mathlib.Core.Path.{◌∙◌}
use Rattle.clocks.proofs.Answers.{apply_join}
use Rattle.clocks.proofs.VClock.apply.Goals as goal

pub returns : goal.returns
returns c = c.joined.ensures ∙ rw c.from.ensures (apply_join _ _)
