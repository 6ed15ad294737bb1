use Rattle.image.proofs.Whole.{no_contents, no_clock, no_start, no_rows, no_waits_start, no_removes, no_end, all_parts}
use native.Mathlib.Omega.{arith}
use mathlib.Core.Path.{sym, ◌∙◌}
use Rattle.image.proofs.parts.Goals as goal

pub returns-then-not-contents_good : goal.returns-then-not-contents_good
returns-then-not-contents_good c = no_contents c.args.s.now (sym c.contents_good.ensures.0 ∙ c.if-not-contents_good.true)

pub returns-in_err-start : goal.returns-in_err-start
returns-in_err-start c = c.from_residual.ensures ∙ no_clock c.args.s.now c.in_err-start.ensures

pub returns-then-index-start : goal.returns-then-index-start
returns-then-index-start c =
    no_start c.args.s.now (sym c.contents_good.ensures.0 ∙ c.if-not-contents_good.false) (c.contents_good.ensures.1 c.if-not-contents_good.false) _ c.in_ok-start.ensures (λ e. omega arith)

pub returns-in_err-rows : goal.returns-in_err-rows
returns-in_err-rows c =
    c.from_residual-in_err-rows.ensures
    ∙ no_rows c.args.s.now (sym c.contents_good.ensures.0 ∙ c.if-not-contents_good.false) (c.contents_good.ensures.1 c.if-not-contents_good.false) _ c.in_ok-start.ensures (omega arith) _ (omega arith) c.in_err-rows.ensures

pub returns-then-index-rows : goal.returns-then-index-rows
returns-then-index-rows c =
    no_waits_start c.args.s.now (sym c.contents_good.ensures.0 ∙ c.if-not-contents_good.false) (c.contents_good.ensures.1 c.if-not-contents_good.false) _ c.in_ok-start.ensures (omega arith) _ (omega arith) _ c.in_ok-rows.ensures (λ e. omega arith)

pub returns-in_err-removes : goal.returns-in_err-removes
returns-in_err-removes c =
    c.from_residual-in_err-removes.ensures
    ∙ no_removes c.args.s.now (sym c.contents_good.ensures.0 ∙ c.if-not-contents_good.false) (c.contents_good.ensures.1 c.if-not-contents_good.false) _ c.in_ok-start.ensures (omega arith) _ (omega arith) _ c.in_ok-rows.ensures (omega arith) _ (omega arith) c.in_err-removes.ensures

pub returns-then-removes-s : goal.returns-then-removes-s
returns-then-removes-s c =
    no_end c.args.s.now (sym c.contents_good.ensures.0 ∙ c.if-not-contents_good.false) (c.contents_good.ensures.1 c.if-not-contents_good.false) _ c.in_ok-start.ensures (omega arith) _ (omega arith) _ c.in_ok-rows.ensures (omega arith) _ (omega arith) _ c.in_ok-removes.ensures (λ e. omega arith)

pub returns : goal.returns
returns c =
    all_parts c.args.s.now (sym c.contents_good.ensures.0 ∙ c.if-not-contents_good.false) (c.contents_good.ensures.1 c.if-not-contents_good.false) _ c.in_ok-start.ensures (omega arith) _ (omega arith) _ c.in_ok-rows.ensures (omega arith) _ (omega arith) _ c.in_ok-removes.ensures (omega arith) _ c.clock_at-clock.ensures
