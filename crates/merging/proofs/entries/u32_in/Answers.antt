use Rattle.fields.proofs.Parts.{u32_of_part}
use mathlib.Core.Path.{◌∙◌}
use Rattle.merging.proofs.entries.u32_in.Goals as goal

pub returns : goal.returns
returns c = c.u32_at.ensures ∙ u32_of_part _ _
