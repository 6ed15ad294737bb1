use Rattle.image.proofs.Steps.{line_room, all_turn, all_stop, all_end}
use Rattle.layout.specs.Clock.{clock_in, clock_at, clock_end_in}
use Rattle.layout.specs.Rows.{row_end, row_end_in}
use Rattle.layout.specs.Fields.{u32_at}
use lib.ListN.{length}
use native.Mathlib.Omega.{arith}
use Prim.Native.Nat.{◌+◌, ◌≤◌}
use mathlib.Core.Path.{◌≡◌, ◌∙◌}
use Rattle.image.proofs.entries_fit.Goals as goal

pub row_fits-requires : goal.row_fits-requires
unfolding row_end_in clock_end_in
row_fits-requires c =
    let a = c.args in
    let l = c.loop-i in
    let s = a.s.now in
    let k : c.index-k.result ≡ u32_at s 24 = omega arith in
    let count : c.index-count.result ≡ u32_at s (c.index-at.result + 4) = omega arith in
    let w = c.requires.1 in
    let room : row_end s c.index-at.result ≤ length s = rw c.index-at.ensures.0 (c.requires.3.each l.i (omega arith)) in
    let line = line_room a.own l.i _ _ (omega arith) c.line_for.ensures c.requires.2 in
    (omega arith, omega (arith, w.room), omega (arith, w.count))

pub loop-i-preserved : goal.loop-i-preserved
unfolding clock_in
loop-i-preserved c =
    let a = c.args in
    let l = c.loop-i in
    let s = a.s.now in
    let k : c.index-k.result ≡ u32_at s 24 = omega arith in
    let count : c.index-count.result ≡ u32_at s (c.index-at.result + 4) = omega arith in
    let f = rw (k, count) at c.row_fits.ensures in
    all_turn a.lines.now s (clock_at s 24) a.places.now l.i _ (omega arith) c.index-at.ensures.0 _ a.own _ c.line_for.ensures f c.if-not-row_fits.false ∙ l.invariant

pub returns-then-not-row_fits : goal.returns-then-not-row_fits
unfolding clock_in
returns-then-not-row_fits c =
    let a = c.args in
    let l = c.loop-i in
    let s = a.s.now in
    let k : c.index-k.result ≡ u32_at s 24 = omega arith in
    let count : c.index-count.result ≡ u32_at s (c.index-at.result + 4) = omega arith in
    let f = rw (k, count) at c.row_fits.ensures in
    all_stop a.lines.now s (clock_at s 24) a.places.now l.i _ (omega arith) c.index-at.ensures.0 _ a.own _ c.line_for.ensures f c.if-not-row_fits.true ∙ l.invariant

pub returns : goal.returns
returns c =
    let a = c.args in
    let l = c.loop-i in
    all_end a.lines.now a.s.now (clock_at a.s.now 24) a.own a.places.now l.i (omega arith) ∙ l.invariant
