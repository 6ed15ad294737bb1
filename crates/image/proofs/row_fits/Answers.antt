use Rattle.image.proofs.Steps.{row_end_is, row_done, row_refused, row_taken, row_other}
use native.Mathlib.Omega.{arith}
use native.Mathlib.Nat.{add-zero, sub-zero}
use mathlib.Core.Path.{◌≡◌, ◌∙◌}
use Rattle.image.proofs.row_fits.Goals.{in-Another, in-Within}
use Rattle.image.proofs.row_fits.Goals as goal

pub returns-then-count-k : goal.returns-then-count-k
returns-then-count-k c = let a = c.args in let e : a.count ≡ a.k = omega arith in rw e c.in_step.ensures

pub loop-j-init : goal.loop-j-init
loop-j-init c = (omega arith, simp (add-zero, sub-zero))

pub returns-then-left-eq0 : goal.returns-then-left-eq0
returns-then-left-eq0 c =
    let a = c.args in
    let l = c.loop-j in
    row_end_is a.lines.now a.s.now a.line a.k l.j l.p l.left (omega arith) ∙ l.invariant.1

pub returns-in-Outside : goal.returns-in-Outside
returns-in-Outside c =
    let a = c.args in
    let l = c.loop-j in
    row_refused a.lines.now a.s.now a.line a.k l.j l.p l.left _ (omega arith) (omega arith) c.met.ensures c.in-Outside.is ∙ l.invariant.1

pub loop-j-preserved : goal.loop-j-preserved
loop-j-preserved c =
    let a = c.args in
    let l = c.loop-j in
    elim c.match-met.branch [
      | in-Another w ↦ rw (w.p-is, w.left-is) (omega arith, row_other a.lines.now a.s.now a.line a.k l.j l.p l.left _ (omega arith) (omega arith) c.met.ensures w.in-Another.is ∙ l.invariant.1)
      | in-Within w ↦ rw (w.p-is, w.left-is) (omega arith, row_taken a.lines.now a.s.now a.line a.k l.j l.p l.left _ (omega arith) (omega arith) c.met.ensures w.in-Within.is ∙ l.invariant.1)
    ]

pub returns : goal.returns
returns c =
    let a = c.args in
    let l = c.loop-j in
    row_done a.lines.now a.s.now a.line a.k l.j l.p l.left (omega arith) ∙ l.invariant.1
