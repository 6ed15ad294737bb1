use Rattle.rows.proofs.Steps.{end_is}
use mathlib.Core.Path.{◌∙◌}
use borrow.Author.Rules.{rules}
use Rattle.rows.proofs.clock_end.Goals as goal

pub returns : goal.returns
returns c = (end_is _ _ _ (c.index.ensures.0 ∙ c.u32_at.ensures), search rules)
