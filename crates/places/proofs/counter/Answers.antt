use mathlib.Core.Path.{◌≡◌, sym, ◌∙◌}
use lib.ListN.{length, take, get_or, drop}
use Prim.Native.Nat.{◌+◌}
use Rattle.dots.specs.Dot.{no_dot}
use Rattle.dots.specs.Covering.{count_here}
use Rattle.places.proofs.Steps.{rest, first_of, mapped}
use Rattle.places.proofs.counter.Goals as goal

pub returns-then-d-a : goal.returns-then-d-a
returns-then-d-a c =
    let s = c.args.dots in
    let l = take c.min.result s in
    let i = c.loop-d.d-index in
    let long : length s ≡ 16 = search mapped in
    let f = rw (rest l i no_dot c.loop-d-test.true) at c.loop-d.invariant in
    sym (count_here (get_or l i no_dot) (drop (i + 1) l) c.args.a c.if-d-a.true) ∙ f ∙ rw (first_of s c.args.n c.min.result long c.min.ensures)
