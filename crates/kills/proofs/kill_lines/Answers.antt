use Rattle.std.proofs.lemmas.List.{take-map}
use Rattle.kills.proofs.Steps.{wait_turn, wait_end_is, line_of_zeros, founded_spread, founded_raised, take_most}
use Rattle.kills.specs.Laws.{length_raise}
use Rattle.kills.specs.Lines.{kill_lines, kill_table, spread, members_of, wait_read, waits_of}
use Rattle.fields.specs.Read.{clock_read}
use Rattle.layout.specs.Fields.{u32_at}
use Rattle.clocks.specs.VClock.{dots_of}
use Rattle.dots.specs.Dot.{actor_of}
use lib.Seq.{sets}
use lib.ListN.{length, take, length-map, length-take}
use native.Mathlib.Omega.{arith}
use Prim.Native.Nat.{ℕ}
use mathlib.Core.List.{List, map}
use mathlib.Core.Path.{◌≡◌, refl, sym, ap, ◌∙◌}
use borrow.Author.Rules.{rules}
use Rattle.kills.proofs.kill_lines.Goals as goal

pub loop-at-init : goal.loop-at-init
loop-at-init c =
    let n : length (take c.min-entries.result c.members_at-found.result) ≡ c.min-entries.result = simp length-take (let e = c.min-entries.ensures in let m : length c.members_at-found.result ≡ 64 = search rules in omega arith) in
    (founded_spread c.args.out.now _ _ _ (search rules) (rw n c.lay.ensures), λ v e. refl)

pub loop-at-preserved : goal.loop-at-preserved
loop-at-preserved c =
    let a = c.args in
    let l = c.loop-at in (
      founded_raised l.out _ _ _ _ _ (ap length c.raise_at.ensures ∙ length_raise _ 0 _) c.raise_by.ensures l.invariant.0,
      λ v e. wait_turn v _ a.t.now _ l.out _ _ l.at-index _ (omega arith) refl (line_of_zeros v (clock_read a.t.now _) _ e _ c.raise_at.ensures) c.raise_by.ensures
          ∙ l.invariant.1 v e,
    )

pub returns : goal.returns
unfolding kill_table members_of waits_of
returns c =
    let a = c.args in
    let l = c.loop-at in
    let entries = c.min-entries.result in
    let width = c.min-width.result in
    let long : length a.v.dots ≡ 16 = search rules in
    let m : length (take entries a.places.now) ≡ entries = simp length-take (let e = c.min-entries.ensures in omega arith) in
    let e1 = take_most a.places.now 64 (length a.places.now) entries refl (let n = c.min-entries.ensures in omega arith) in
    let e2 = take_most a.waits.now 16 (length a.waits.now) c.min.result refl (let n = c.min.ensures in omega arith) in
    let ms = ap (λ (n : ℕ). take n c.members_at-found.result) (sym m) ∙ c.members_at-found.ensures ∙ ap (λ (ps : List ℕ). map (λ q. u32_at a.s.now q) ps) e1 in
    let e3 : entries ≡ length (map (λ q. u32_at a.s.now q) (take 64 a.places.now)) = simp (length-map, length-take) (let n = c.min-entries.ensures in omega arith) in
    let f = ap (take width) c.actors_of-all.ensures ∙ take-map (λ d. actor_of d) width a.v.dots ∙ ap (map (λ d. actor_of d)) (take_most a.v.dots a.v.len 16 width long c.min-width.ensures) in
    sym (wait_end_is (dots_of a.v) (take entries c.members_at-found.result) a.t.now (take c.min.result a.waits.now) l.out l.at-index c.loop-at-test.false) ∙ l.invariant.1 (dots_of a.v) f
    ∙ (λ j. kill_lines (dots_of a.v) (ms j) (map (λ q. wait_read a.t.now q) (e2 j)) ((c.lay.ensures ∙ ap (λ (n : ℕ). sets a.out.now 0 (spread n a.floor.now)) e3) j))
