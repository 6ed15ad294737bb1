use Rattle.rows.proofs.Steps.{row_is}
use Rattle.fields.proofs.Steps.{u32_past, read_past}
use Rattle.clocks.specs.VClock.{vclock}
use native.Mathlib.Omega.{arith}
use mathlib.Core.Path.{sym, ap, ◌∙◌}
use Rattle.rows.proofs.row_at.Goals as goal

pub returns-then-s-at : goal.returns-then-s-at
returns-then-s-at c = row_is _ _ _ _ (sym (u32_past _ _ (omega arith))) (c.new.ensures ∙ ap vclock (sym (read_past _ _ (omega arith))))

pub returns : goal.returns
returns c = row_is _ _ _ _ c.u32_at.ensures c.clock_at.ensures
