use Rattle.std.proofs.Common.{append_assoc}
use Rattle.dots.proofs.refusals.OpRefusedDisplay.fmt.Goals as goal

-- `dots::OpRefused` is displayed as its contract says: the definition's pieces, joined in another grouping than those of `write!`.
pub returns-in-Gap-clause-writes : goal.returns-in-Gap-clause-writes
returns-in-Gap-clause-writes g c = λ p ok. simp (c.in-Gap.is, append_assoc) (c.write-in-Gap.ensures.writes p ok)
