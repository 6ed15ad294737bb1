use Rattle.replies.proofs.Clocks.{not_lent, whole_lent}
use Rattle.replies.proofs.clock_lent.Goals as goal

pub returns-then-eq : goal.returns-then-eq
returns-then-eq c = whole_lent _ _ _ c.clock_ends.ensures c.eq.ensures _ c.if-eq.true c.clock_at.ensures

pub returns-else-eq : goal.returns-else-eq
returns-else-eq c = not_lent _ _ _ c.clock_ends.ensures c.eq.ensures _ c.if-eq.false c.unfit_clock.ensures
