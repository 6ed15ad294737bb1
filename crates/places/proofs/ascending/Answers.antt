use native.Mathlib.Omega.{arith}
use lib.ListN.{get_or, drop_of_length-le}
use borrow.Author.Tests.{lt-ltb, le-ltb, lt-leb, le-leb}
use Rattle.dots.specs.Dot.{no_dot}
use Rattle.dots.specs.Rising.{rising}
use Rattle.places.proofs.Steps.{rest}
use Rattle.places.proofs.ascending.Goals as goal
use Rattle.places.proofs.ascending.Goals.{then-a-low-via-then-a-low, then-a-low-via-else-a-low+then-d-eq0}

pub returns-then-a-low : goal.returns-then-a-low
unfolding rising
returns-then-a-low c =
    let s = c.args.dots.now in
    let i = c.loop-d.d-index in
    let d = get_or s i no_dot in
    let low = c.loop-d.low in
    elim c.then-a-low.branch [
      | then-a-low-via-then-a-low w ↦ simp (rest s i no_dot (omega arith), lt-leb low d.actor.0 (omega arith)) at c.loop-d.invariant
      | then-a-low-via-else-a-low+then-d-eq0 w ↦ simp (rest s i no_dot (omega arith), le-leb low d.actor.0 (omega arith), le-ltb 0 d.counter (omega arith)) at c.loop-d.invariant
    ]

pub loop-d-preserved : goal.loop-d-preserved
unfolding rising
loop-d-preserved c =
    let s = c.args.dots.now in
    let i = c.loop-d.d-index in
    let d = get_or s i no_dot in
    let low = c.loop-d.low in
    rw c.from-a.ensures (simp (rest s i no_dot (omega arith), le-leb low d.actor.0 (omega arith), lt-ltb 0 d.counter (omega arith)) at c.loop-d.invariant)

pub returns : goal.returns
unfolding rising
returns c = simp (drop_of_length-le c.args.dots.now {i = c.loop-d.d-index} (omega arith)) at c.loop-d.invariant
