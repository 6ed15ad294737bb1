use Rattle.scan.proofs.Steps.{clock_uncounted, clock_counted}
use mathlib.Core.Path.{◌∙◌}
use Rattle.scan.proofs.clock_ends.Goals as goal

pub returns-in_err-n : goal.returns-in_err-n
returns-in_err-n c = c.from_residual.ensures ∙ clock_uncounted c.args.s.now c.args.at c.in_err-n.ensures.is

pub returns : goal.returns
returns c = c.then_some.ensures ∙ clock_counted c.args.s.now c.args.at c.in_ok-n.n c.in_ok-n.ensures.is _ c.dots_rise.ensures
