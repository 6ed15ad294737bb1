use Rattle.scan.proofs.Steps.{rise_low, rise_zero, rise_next, rise_end}
use Rattle.layout.specs.Fields.{u32_at}
use native.Mathlib.Omega.{arith}
use native.Mathlib.Nat.{add-zero, sub-zero}
use Prim.Native.Nat.{◌+◌, ◌*◌, ◌-◌}
use mathlib.Core.Path.{◌≡◌, sym, ◌∙◌}
use Rattle.scan.proofs.dots_rise.Goals as goal

pub loop-i-init : goal.loop-i-init
loop-i-init c = rw (add-zero, sub-zero)

pub returns-then-actor-low : goal.returns-then-actor-low
returns-then-actor-low c = let a = c.args in let l = c.loop-i in sym (rise_low a.s.now (a.from + 12 * l.i) (a.count - l.i) (a.count - (l.i + 1)) l.low (omega arith) (omega arith)) ∙ l.invariant

pub returns-then-u64_in-eq0 : goal.returns-then-u64_in-eq0
returns-then-u64_in-eq0 c = let a = c.args in let l = c.loop-i in sym (rise_zero a.s.now (a.from + 12 * l.i) (a.count - l.i) (a.count - (l.i + 1)) l.low (omega arith) (omega arith)) ∙ l.invariant

pub loop-i-preserved : goal.loop-i-preserved
loop-i-preserved c =
    let a = c.args in
    let l = c.loop-i in
    let e : c.index-actor.result ≡ u32_at a.s.now (a.from + 12 * l.i) = c.index-actor.ensures.0 ∙ c.u32_in.ensures in
    let f : a.from + 12 * (l.i + 1) ≡ a.from + 12 * l.i + 12 = omega arith in
    rw (e, f) (sym (rise_next a.s.now (a.from + 12 * l.i) (a.count - l.i) (a.count - (l.i + 1)) l.low (omega arith) (omega arith) (λ z. omega arith)) ∙ l.invariant)

pub returns : goal.returns
returns c = let a = c.args in let l = c.loop-i in sym (rise_end a.s.now (a.from + 12 * l.i) (a.count - l.i) l.low (omega arith)) ∙ l.invariant
