use Rattle.layout.specs.Fields.{u32_at}
use Rattle.dots.specs.Dot.{no_dot}
use lib.ListN.{replicate}
use Prim.Native.Nat.{min}
use Rattle.fields.proofs.Steps.{read_past, load_step, load_end, length_dots_at}
use Rattle.fields.specs.Read.{clock_read}
use Rattle.layout.specs.Clock.{dots_at, dot_in}
use Rattle.clocks.specs.VClock.{vclock}
use lib.Seq.{sets}
use lib.ListN.{length-set}
use native.Mathlib.Nat.{sub-zero}
use native.Mathlib.Omega.{arith}
use Prim.Native.Nat.{ℕ, ◌+◌, ◌-◌}
use mathlib.Core.Path.{◌≡◌, refl, sym, ap, ◌∙◌}
use borrow.Author.Rules.{rules}
use Rattle.fields.proofs.clock_at.Goals as goal

pub returns-then-s-at : goal.returns-then-s-at
returns-then-s-at c = c.new.ensures ∙ ap vclock (sym (read_past _ _ (omega arith)))

pub loop-i-init : goal.loop-i-init
loop-i-init c = (search rules, search rules, refl, rw sub-zero)

pub loop-i-preserved : goal.loop-i-preserved
unfolding dot_in
loop-i-preserved c = (search rules, search rules, simp length-set (omega arith), load_step _ _ _ _ _ _ _ (omega arith) (cc) ∙ c.loop-i.invariant.3)

pub returns : goal.returns
unfolding vclock clock_read
returns c =
    let l = c.loop-i in
    let a = c.args in
    let n = c.min-n.result in
    let k : n ≡ min (u32_at a.s.now a.at) 16 = omega (arith, c.min-n.ensures, c.index.ensures.0, c.u32_at.ensures) in
    let q = load_end l.dots a.s.now l.p (n - l.i) l.i (omega arith) in
    let d : l.dots ≡ (vclock (clock_read a.s.now a.at)).dots = sym q ∙ l.invariant.3 ∙ ap (λ (j : ℕ). sets (replicate 16 no_dot) 0 (dots_at a.s.now (a.at + 4) j)) k in
    let e : n ≡ (vclock (clock_read a.s.now a.at)).len = k ∙ sym (length_dots_at a.s.now (a.at + 4) (min (u32_at a.s.now a.at) 16)) in
    λ i. record { dots = d i; len = e i }
