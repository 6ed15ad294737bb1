use mathlib.Core.Path.{sym, ◌∙◌}
use Rattle.std.specs.Cmp.Lexicographic.{same_text}
use Rattle.merging.proofs.SameBytes.{same_dots}
use Rattle.merging.proofs.entries.same.Goals as goal

pub returns : goal.returns
returns c = λ e. same_dots _ _ _ _ _ _ c.requires.0 c.requires.1 (same_text _ _ (sym e ∙ c.eq.ensures))
