use mathlib.Core.Path.{refl, ◌∙◌}
use native.Mathlib.Nat.{add-zero}
use native.Mathlib.Omega.{arith}
use lib.ListN.{length-set}
use Rattle.results.proofs.Steps.{copy_on, copy_end}
use Rattle.results.proofs.copy.Goals as goal

pub loop-i-init : goal.loop-i-init
loop-i-init c = (refl, simp add-zero)

pub loop-i-preserved : goal.loop-i-preserved
loop-i-preserved c =
    let a = c.args in
    let z = c.loop-i.invariant in
    (simp length-set z.0, copy_on a.s.now c.loop-i.out a.from a.end a.at c.loop-i.i (omega arith) (omega arith) ∙ z.1)

pub returns : goal.returns
returns c =
    let a = c.args in
    let z = c.loop-i.invariant in
    copy_end a.s.now c.loop-i.out a.from a.end a.at c.loop-i.i {n = c.min-n.result} (rw (c.min-n.ensures, c.saturating_sub-given.ensures, c.saturating_sub.ensures, c.min.ensures)) z.0 c.loop-i-test.false ∙ z.1
