use native.Mathlib.Omega.{arith}
use Rattle.layout.specs.Fields.{Bytes}
use Rattle.merging.proofs.WholeSteps.{stays_left, stays_right, whole_kept}
use Rattle.merging.proofs.entries.kept.Goals as goal

pub returns-then-whole : goal.returns-then-whole
returns-then-whole c =
    let a = c.args in let p = c.requires in
    let b : Bytes a.s.now = λ i. omega (arith, c.type_inv.s i) in
    whole_kept _ _ (omega arith) _ _ _ b p.0 p.7 _ _ _ _ (stays_left _ _ _ _ _ _ _ p.7 (c.whole.ensures c.if-whole.true)) c.copy.ensures

pub returns-then-whole-2 : goal.returns-then-whole-2
returns-then-whole-2 c =
    let a = c.args in let p = c.requires in
    let b : Bytes a.t.now = λ i. omega (arith, c.type_inv.t i) in
    whole_kept _ _ (omega arith) _ _ _ b p.1 p.8 _ _ _ _ (stays_right _ _ _ _ _ _ _ p.8 (c.whole-2.ensures c.if-whole-2.true)) c.copy-then-whole-2.ensures
