use mathlib.Core.Path.{◌≡◌}
use native.Mathlib.Omega.{arith}
use Rattle.layout.specs.Fields.{Bytes}
use Rattle.merging.proofs.SiftSteps.{along_begin, along_again, along_end}
use Rattle.merging.proofs.sifting.sift.Goals as goal

pub loop-j-init : goal.loop-j-init
loop-j-init c = along_begin _ _ _ _ c.args.x _ c.requires.4

pub loop-j-preserved : goal.loop-j-preserved
loop-j-preserved c = let w = c.requires.3.within in let t = c.loop-j-test.true in along_again c.loop-j.invariant (omega arith) _ _ c.keep_dot-k.ensures

pub returns : goal.returns
returns c =
    let p = c.requires in let t = c.loop-j-test.false in
    let b : Bytes c.args.s.now = λ i. omega (arith, c.type_inv.s i) in
    let e : c.args.h ≡ c.loop-j.j = omega arith in
    along_end c.loop-j.invariant (rw e at p.3) b p.0 _ c.copy.ensures
