use mathlib.Core.Path.{◌∙◌}
use native.Mathlib.Omega.{arith}
use Rattle.merging.proofs.OrderSteps.{only_left, only_right, either, dots_inside}
use Rattle.merging.proofs.waits.next_wait.Goals as goal

pub returns-then-k-eq0 : goal.returns-then-k-eq0
returns-then-k-eq0 c = only_left _ _ _ _ _ _ c.requires.0 c.if-k-eq0.true

pub returns-then-m-eq0 : goal.returns-then-m-eq0
returns-then-m-eq0 c = only_right _ _ _ _ _ _ c.if-k-eq0.false c.if-m-eq0.true

pub overflow_add-p : goal.overflow_add-p
overflow_add-p c = let m = c.if-m-eq0.false in let h = (dots_inside _ _ (c.requires.1 (omega arith))).0 in omega arith

pub overflow_add-q : goal.overflow_add-q
overflow_add-q c = let k = c.if-k-eq0.false in let h = (dots_inside _ _ (c.requires.2 (omega arith))).0 in omega arith

pub order-requires : goal.order-requires
order-requires c =
    let m = c.if-m-eq0.false in let k = c.if-k-eq0.false in
    ((dots_inside _ _ (c.requires.1 (omega arith))).1 _ (c.index-n.ensures.0 ∙ c.u32_at.ensures), (dots_inside _ _ (c.requires.2 (omega arith))).1 _ (c.index-l.ensures.0 ∙ c.u32_at-2.ensures))

pub returns : goal.returns
returns c = either _ _ _ _ _ _ c.if-m-eq0.false c.if-k-eq0.false _ _ _ (c.index-n.ensures.0 ∙ c.u32_at.ensures) (c.index-l.ensures.0 ∙ c.u32_at-2.ensures) c.order.ensures
