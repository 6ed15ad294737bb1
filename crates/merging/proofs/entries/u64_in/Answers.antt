use Rattle.fields.proofs.Parts.{u64_of_part}
use mathlib.Core.Path.{◌∙◌}
use Rattle.merging.proofs.entries.u64_in.Goals as goal

pub returns : goal.returns
returns c = c.u64_at.ensures ∙ u64_of_part _ _
