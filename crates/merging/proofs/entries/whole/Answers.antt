use mathlib.Core.Logic.{inl}
use Rattle.merging.proofs.WholeSteps.{clear_above, none_there}
use Rattle.merging.proofs.entries.whole.Goals as goal

pub returns-then-clear : goal.returns-then-clear
returns-then-clear c = λ e. inl (none_there _ _ _ c.if-y-eq0.true, clear_above _ _ _ _ (c.clear.ensures c.if-clear.true) c.requires.2)

pub returns-then-y-eq0 : goal.returns-then-y-eq0
returns-then-y-eq0 c = λ e. inl (none_there _ _ _ c.if-y-eq0.true, c.above.ensures e)
