use Rattle.rows.proofs.Steps.{wait_is, end_past}
use Rattle.fields.proofs.Steps.{read_past}
use Rattle.layout.specs.Fields.{u32_at}
use Rattle.clocks.specs.VClock.{vclock}
use native.Mathlib.Omega.{arith}
use mathlib.Core.Path.{sym, ap, ◌∙◌}
use Rattle.rows.proofs.wait_at.Goals as goal

pub returns-then-s-at : goal.returns-then-s-at
returns-then-s-at c = wait_is _ _ _ _ (c.new.ensures ∙ ap vclock (sym (read_past _ _ (omega arith)))) (sym (end_past _ _ (omega arith)))

pub returns : goal.returns
returns c =
    let a = c.args in
    wait_is a.s.now a.at _ _ c.clock_at.ensures (c.u32_at.ensures ∙ ap (u32_at a.s.now) c.clock_end.ensures.0)
