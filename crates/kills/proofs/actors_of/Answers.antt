use Rattle.kills.proofs.Steps.{each_turn}
use Rattle.dots.specs.Dot.{actor_of, no_dot}
use lib.ListN.{length, length-set}
use lib.Seq.{take_all}
use native.Mathlib.Omega.{arith}
use mathlib.Core.List.{map}
use mathlib.Core.Path.{◌≡◌, refl, sym, ap, ◌∙◌}
use borrow.Author.Rules.{rules}
use Rattle.kills.proofs.actors_of.Goals as goal

pub loop-i-preserved : goal.loop-i-preserved
loop-i-preserved c =
    let l = c.loop-i in
    let long : length c.args.v.dots ≡ 16 = search rules in
    (simp length-set l.invariant.0, each_turn (λ d. actor_of d) no_dot c.args.v.dots l.actors l.i _ (omega arith) (omega arith) refl l.invariant.1)

pub returns : goal.returns
returns c =
    let l = c.loop-i in
    let long : length c.args.v.dots ≡ 16 = search rules in
    let i : l.i ≡ 16 = omega arith in
    sym (take_all 16 l.actors (omega arith)) ∙ rw i at l.invariant.1 ∙ ap (map (λ d. actor_of d)) (take_all 16 c.args.v.dots (omega arith))
