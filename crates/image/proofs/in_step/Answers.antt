use Rattle.image.proofs.Steps.{row_end_is, row_taken, row_out}
use native.Mathlib.Omega.{arith}
use native.Mathlib.Nat.{add-zero, sub-zero}
use Prim.Native.Nat.{◌+◌, ◌*◌, ◌-◌}
use mathlib.Core.Path.{◌≡◌, ◌∙◌}
use Rattle.image.proofs.in_step.Goals as goal

pub loop-j-init : goal.loop-j-init
loop-j-init c = simp (add-zero, sub-zero)

pub returns-in_default : goal.returns-in_default
returns-in_default c =
    let a = c.args in
    let l = c.loop-j in
    row_out a.lines.now a.s.now a.line a.k l.j (a.from + 12 * l.j) (a.k - l.j) _ (omega arith) (omega arith) c.met.ensures (omega arith) c.in_default.not-Within ∙ l.invariant

pub loop-j-preserved : goal.loop-j-preserved
loop-j-preserved c =
    let a = c.args in
    let l = c.loop-j in
    let p : a.from + 12 * (l.j + 1) ≡ a.from + 12 * l.j + 12 = omega arith in
    let m : a.k - (l.j + 1) ≡ a.k - l.j - 1 = omega arith in
    rw (← p, ← m) at (row_taken a.lines.now a.s.now a.line a.k l.j (a.from + 12 * l.j) (a.k - l.j) _ (omega arith) (omega arith) c.met.ensures c.in-Within.is) ∙ l.invariant

pub returns : goal.returns
returns c =
    let a = c.args in
    let l = c.loop-j in
    row_end_is a.lines.now a.s.now a.line a.k l.j (a.from + 12 * l.j) (a.k - l.j) (omega arith) ∙ l.invariant
