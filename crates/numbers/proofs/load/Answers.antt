use Rattle.layout.specs.Fields.{u32_at}
use native.Mathlib.Omega.{arith}
use mathlib.Core.Path.{◌∙◌}
use Rattle.numbers.proofs.load.Goals as goal

pub returns : goal.returns
unfolding u32_at
returns c = c.from_le_bytes.ensures ∙ omega arith
