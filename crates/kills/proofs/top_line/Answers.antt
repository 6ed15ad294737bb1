use Rattle.std.proofs.lemmas.List.{take-map}
use Rattle.kills.proofs.Steps.{top_turn, top_end, take_most}
use Rattle.kills.specs.Lines.{top_from, wait_read, waits_of}
use Rattle.clocks.specs.VClock.{dots_of}
use Rattle.dots.specs.Dot.{actor_of}
use lib.ListN.{length, take, replicate, length-take}
use native.Mathlib.Omega.{arith}
use Prim.Native.Nat.{ℕ, ◌≤◌}
use mathlib.Core.List.{List, map}
use mathlib.Core.Path.{◌≡◌, refl, sym, ap, ◌∙◌}
use borrow.Author.Rules.{rules}
use Rattle.kills.proofs.top_line.Goals as goal

pub loop-at-preserved : goal.loop-at-preserved
loop-at-preserved c =
    let a = c.args in
    let l = c.loop-at in
    let few : length (take c.min-width.result c.actors_of-all.result) ≤ 16 = simp length-take (omega arith) in
    λ v e. top_turn v a.t.now _ l.top l.at-index _ _ (omega arith) few e c.raise_at.ensures ∙ l.invariant v e

pub returns : goal.returns
unfolding waits_of
returns c =
    let a = c.args in
    let l = c.loop-at in
    let width = c.min-width.result in
    let long : length a.v.dots ≡ 16 = search rules in
    let e = take_most a.waits.now 16 (length a.waits.now) c.min.result refl (let n = c.min.ensures in omega arith) in
    let f = ap (take width) c.actors_of-all.ensures ∙ take-map (λ d. actor_of d) width a.v.dots ∙ ap (map (λ d. actor_of d)) (take_most a.v.dots a.v.len 16 width long c.min-width.ensures) in
    sym (top_end (dots_of a.v) a.t.now (take c.min.result a.waits.now) l.top l.at-index c.loop-at-test.false) ∙ l.invariant (dots_of a.v) f
    ∙ ap (λ (ps : List ℕ). top_from (dots_of a.v) (map (λ q. wait_read a.t.now q) ps) (replicate 16 0)) e
