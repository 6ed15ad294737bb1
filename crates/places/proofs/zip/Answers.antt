use mathlib.Core.Path.{ap₂, ◌∙◌}
use native.Mathlib.Omega.{arith}
use Rattle.dots.specs.Dot.{dot}
use Rattle.places.specs.Places.{joined}
use Rattle.places.specs.Turn.{rule_of}
use Rattle.places.proofs.Walking.{again, zip_end, Stored, stored_none, stored_some, stored_full}
use Rattle.places.proofs.zip.Goals as goal
use Rattle.places.proofs.zip.Goals.{then-counter-ne0, else-counter-ne0, then-len-lt16, else-len-lt16}

pub loop-xs-preserved : goal.loop-xs-preserved
loop-xs-preserved c =
    let L = c.loop-xs in
    let x = dot c.lowest-actor.result c.ruled-counter.result in
    let s : Stored L.dots L.len x c.if-counter-ne0.dots c.if-counter-ne0.len =
    elim c.if-counter-ne0.branch [
      | then-counter-ne0 w ↦ rw (w.dots-is, w.len-is) (elim w.if-len-lt16.branch [
        | then-len-lt16 u ↦ rw u.dots-is (stored_some L.dots L.len x w.if-counter-ne0.true)
        | else-len-lt16 u ↦ rw u.dots-is (stored_full L.dots L.len x w.if-counter-ne0.true (omega (arith, u.if-len-lt16.false)))
      ])
      | else-counter-ne0 w ↦ rw (w.dots-is, w.len-is) (stored_none L.dots L.len x w.if-counter-ne0.false)
    ] in
    let e = c.ruled-counter.ensures ∙ ap₂ (rule_of c.args.rule) c.held.ensures c.held-in-loop-xs.ensures in
    rw (c.after-xs.ensures, c.after-ys.ensures) (again L.invariant 4294967296 _ _ (omega arith) c.lowest-actor.ensures e _ _ s)

pub returns : goal.returns
unfolding joined
returns c =
    let e = zip_end c.loop-xs.invariant (omega arith) in
    λ i. record { dots = e.0 i; len = e.1 i }
