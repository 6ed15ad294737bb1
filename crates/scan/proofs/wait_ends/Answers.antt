use Rattle.scan.proofs.Steps.{clock_in_dots, wait_no_clock, wait_early, wait_members}
use Rattle.layout.specs.Clock.{clock_at}
use borrow.Author.Rules.{rules}
use mathlib.Core.Path.{sym, ◌∙◌}
use Rattle.scan.proofs.wait_ends.Goals as goal

pub returns-in_err-q : goal.returns-in_err-q
returns-in_err-q c = let a = c.args in c.from_residual.ensures ∙ wait_no_clock a.s.now a.p (clock_at a.s.now a.last) c.in_err-q.ensures

pub clock_less-requires : goal.clock_less-requires
clock_less-requires c = (search rules, search rules, c.requires.2, clock_in_dots c.args.s.now c.args.p _ c.in_ok-q.ensures)

pub returns-then-clock_less : goal.returns-then-clock_less
returns-then-clock_less c = let a = c.args in c.members_end.ensures ∙ wait_members a.s.now a.p (clock_at a.s.now a.last) _ c.in_ok-q.ensures (sym c.clock_less.ensures ∙ c.if-clock_less.true)

pub returns-else-clock_less : goal.returns-else-clock_less
returns-else-clock_less c = let a = c.args in wait_early a.s.now a.p (clock_at a.s.now a.last) (sym c.clock_less.ensures ∙ c.if-clock_less.false)
