use Rattle.fields.proofs.Parts.{u32_of_part}
use mathlib.Core.Path.{◌∙◌}
use Rattle.validating.proofs.u32_in.Goals as goal

pub returns : goal.returns
returns c = c.u32_at.ensures ∙ u32_of_part _ _
