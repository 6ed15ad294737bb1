use Rattle.rows.proofs.Steps.{names_past, names_all, names_here, names_next, names_end}
use Rattle.layout.specs.Fields.{u32_at}
use native.Mathlib.Nat.{sub-zero, add-zero, mul-zero}
use native.Mathlib.Omega.{arith}
use Prim.Native.Nat.{ℕ, ◌+◌, ◌*◌, ◌-◌, min, compare}
use Rattle.tables.specs.Table.{has}
use Rattle.layout.specs.Rows.{members_at}
use mathlib.Core.Path.{◌≡◌, sym, ap, ◌∙◌}
use Rattle.rows.proofs.names.Goals as goal

pub returns-then-s-at : goal.returns-then-s-at
returns-then-s-at c = names_past _ _ _ (omega arith)

pub loop-i-init : goal.loop-i-init
loop-i-init c = rw (sub-zero, mul-zero, add-zero)

pub returns-then-u32_at-member : goal.returns-then-u32_at-member
returns-then-u32_at-member c =
    let n = c.min-n.result in
    let q = c.clock_end-q in
    let a = c.args in
    let i = c.loop-i.i in
    let f : n ≡ min (u32_at a.s.now q.result) 32 = omega (arith, c.min-n.ensures, c.index.ensures.0, c.u32_at.ensures) in
    names_here a.s.now (q.result + 4 + 4 * i) (n - i) a.member.0 (omega arith) (omega arith) ∙ c.loop-i.invariant ∙ names_all a.s.now a.at q.result n a.member q.ensures.0 f

pub loop-i-preserved : goal.loop-i-preserved
loop-i-preserved c =
    let n = c.min-n.result in
    let q = c.clock_end-q.result in
    let a = c.args in
    let i = c.loop-i.i in
    let e : q + 4 + 4 * i + 4 ≡ q + 4 + 4 * (i + 1) = omega arith in
    ap (λ (p : ℕ). has compare a.member.0 (members_at a.s.now p (n - (i + 1)))) (sym e)
    ∙ names_next a.s.now (q + 4 + 4 * i) (n - i) a.member.0 (n - (i + 1)) (omega arith) (λ e. omega arith) ∙ c.loop-i.invariant

pub returns : goal.returns
returns c =
    let n = c.min-n.result in
    let q = c.clock_end-q in
    let a = c.args in
    let i = c.loop-i.i in
    let f : n ≡ min (u32_at a.s.now q.result) 32 = omega (arith, c.min-n.ensures, c.index.ensures.0, c.u32_at.ensures) in
    sym (names_end a.s.now (q.result + 4 + 4 * i) (n - i) a.member.0 (omega arith)) ∙ c.loop-i.invariant ∙ names_all a.s.now a.at q.result n a.member q.ensures.0 f
