use mathlib.Core.Path.{◌≡◌, sym, ap₂, ◌∙◌}
use native.Mathlib.Omega.{arith}
use lib.ListN.{length, take, get_or, drop_of_length-le}
use lib.Dec.{eqb}
use borrow.Author.Rules.{rules}
use borrow.Author.Tests.{lt-leb, le-leb}
use Rattle.dots.specs.Dot.{no_dot}
use Rattle.dots.specs.Covering.{cover_of}
use Rattle.places.proofs.Steps.{first_of, mapped}
use Rattle.places.proofs.Walking.{cover_step, cover_end}
use Rattle.places.proofs.covers.Goals as goal

pub loop-d-init : goal.loop-d-init
loop-d-init c =
    let a = c.args in
    let la : length a.a ≡ 16 = search mapped in
    let lb : length a.b ≡ 16 = search mapped in
    ap₂ cover_of (first_of a.a a.n c.min-2.result la c.min-2.ensures) (first_of a.b a.m c.min.result lb c.min.ensures)

pub returns-then-d-held : goal.returns-then-d-held
returns-then-d-held c =
    let v = take c.min-2.result c.args.a in
    let i = c.loop-d.d-index in
    let d = get_or v i no_dot in
    let s = cover_step v c.loop-d.left.now i c.loop-d-test.true in
    (rw (← c.held.ensures, lt-leb c.held.result d.counter c.if-d-held.true) at (sym s)) ∙ c.loop-d.invariant

pub loop-d-preserved : goal.loop-d-preserved
loop-d-preserved c =
    let v = take c.min-2.result c.args.a in
    let i = c.loop-d.d-index in
    let d = get_or v i no_dot in
    let s = cover_step v c.loop-d.left.now i c.loop-d-test.true in
    rw c.after-left.ensures ((rw (← c.held.ensures, le-leb c.held.result d.counter c.if-d-held.false) at (sym s)) ∙ c.loop-d.invariant)

pub returns : goal.returns
returns c =
    let v = take c.min-2.result c.args.a in
    let i = c.loop-d.d-index in
    let e : _ ≡ eqb (length c.loop-d.left.now) 0 = search rules in
    e ∙ cover_end c.loop-d.left.now ∙ (rw (drop_of_length-le v {i = i} (omega arith)) at c.loop-d.invariant)
