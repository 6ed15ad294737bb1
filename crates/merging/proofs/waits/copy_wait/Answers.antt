use mathlib.Core.Path.{sym, ◌∙◌}
use native.Mathlib.Omega.{arith}
use Rattle.layout.specs.Fields.{Bytes}
use Rattle.merging.proofs.WaitSteps.{clock_inside, cover_clock, put_none, put_whole, whole_end}
use Rattle.merging.proofs.waits.copy_wait.Goals as goal

pub covered-requires : goal.covered-requires
covered-requires c = let p = c.requires in (clock_inside p.0 (c.index-n.ensures.0 ∙ c.u32_at.ensures), p.2)

pub returns-then-covered : goal.returns-then-covered
returns-then-covered c = put_none _ _ _ _ _ _ (sym (cover_clock _ _ _ _ _ (c.index-n.ensures.0 ∙ c.u32_at.ensures) c.covered.ensures) ∙ c.if-covered.true)

pub overflow_sub-result : goal.overflow_sub-result
overflow_sub-result c = whole_end c.requires.0

pub returns : goal.returns
returns c =
    let b : Bytes c.args.s.now = λ i. omega (arith, c.type_inv.s i) in
    put_whole _ _ c.args.x _ _ _ _ b c.requires.0 (sym (cover_clock _ _ _ _ _ (c.index-n.ensures.0 ∙ c.u32_at.ensures) c.covered.ensures) ∙ c.if-covered.false) c.copy.ensures
