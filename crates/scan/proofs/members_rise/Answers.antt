use Rattle.scan.proofs.Steps.{member_low, member_next, member_end}
use Rattle.layout.specs.Fields.{u32_at}
use native.Mathlib.Omega.{arith}
use native.Mathlib.Nat.{add-zero, sub-zero}
use Prim.Native.Nat.{◌+◌, ◌*◌, ◌-◌}
use mathlib.Core.Path.{◌≡◌, sym, ◌∙◌}
use Rattle.scan.proofs.members_rise.Goals as goal

pub loop-i-init : goal.loop-i-init
loop-i-init c = rw (add-zero, sub-zero)

pub returns-then-member-low : goal.returns-then-member-low
returns-then-member-low c = let a = c.args in let l = c.loop-i in sym (member_low a.s.now (a.from + 4 * l.i) (a.count - l.i) (a.count - (l.i + 1)) l.low (omega arith) (omega arith)) ∙ l.invariant

pub loop-i-preserved : goal.loop-i-preserved
loop-i-preserved c =
    let a = c.args in
    let l = c.loop-i in
    let e : c.index-member.result ≡ u32_at a.s.now (a.from + 4 * l.i) = c.index-member.ensures.0 ∙ c.u32_in.ensures in
    let f : a.from + 4 * (l.i + 1) ≡ a.from + 4 * l.i + 4 = omega arith in
    rw (e, f) (sym (member_next a.s.now (a.from + 4 * l.i) (a.count - l.i) (a.count - (l.i + 1)) l.low (omega arith) (omega arith)) ∙ l.invariant)

pub returns : goal.returns
returns c = let a = c.args in let l = c.loop-i in sym (member_end a.s.now (a.from + 4 * l.i) (a.count - l.i) l.low (omega arith)) ∙ l.invariant
