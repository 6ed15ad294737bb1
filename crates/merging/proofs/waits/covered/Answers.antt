use mathlib.Core.Path.{refl, ◌∙◌}
use native.Mathlib.Omega.{arith}
use Rattle.clocks.specs.VClock.{dots_of}
use Rattle.merging.proofs.OrderSteps.{cover_less, cover_on, cover_end}
use Rattle.merging.proofs.waits.covered.Goals as goal

pub loop-d-init : goal.loop-d-init
loop-d-init c = (refl, refl)

pub take-requires : goal.take-requires
take-requires c = let z = c.loop-d.invariant in let p = c.requires in omega arith

pub returns-then-d-take : goal.returns-then-d-take
returns-then-d-take c = cover_less (dots_of c.args.v.now) _ _ c.loop-d.d-index _ _ c.loop-d.invariant.1 (omega arith) _ c.take.ensures.is c.if-d-take.true

pub loop-d-preserved : goal.loop-d-preserved
loop-d-preserved c =
    let z = c.loop-d.invariant in let t = c.take.ensures in
    (t.edge ∙ z.0, rw t.past (cover_on (dots_of c.args.v.now) _ _ c.loop-d.d-index _ _ z.1 (omega arith) _ t.is c.if-d-take.false))

pub returns : goal.returns
returns c = cover_end (dots_of c.args.v.now) _ _ c.loop-d.d-index _ _ c.loop-d.invariant.1 (omega arith)
