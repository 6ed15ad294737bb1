use mathlib.Core.Path.{sym, ◌∙◌}
use Rattle.std.specs.Cmp.Lexicographic.{same_text}
use Rattle.merging.proofs.SameBytes.{same_members}
use Rattle.merging.proofs.waits.same_members.Goals as goal

pub returns : goal.returns
returns c = λ e. same_members _ _ _ _ _ _ c.requires.0 c.requires.1 (same_text _ _ (sym e ∙ c.eq.ensures))
