use mathlib.Core.Path.{◌∙◌, refl}
use Rattle.layout.specs.Fields.{le32}
use Rattle.numbers.proofs.Edge.{part_set}
use Rattle.numbers.proofs.store.Goals as goal

pub returns : goal.returns
unfolding le32
returns c = let b = c.copy_from_slice.ensures.after ∙ c.to_le_bytes.ensures in rw b (part_set c.args.s.now (le32 c.args.v) c.args.at refl c.requires)
