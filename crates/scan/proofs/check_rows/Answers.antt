use Rattle.scan.proofs.Tables.{end_turn, places_turn, rows_stop, rows_turn, row_inside, rows_many, rows_long, rows_past, rows_bad, rows_good}
use Rattle.scan.proofs.Steps.{row_some}
use Rattle.layout.specs.Rows.{row_end}
use Rattle.layout.specs.Fields.{u32_at}
use lib.ListN.{length-set}
use native.Mathlib.Omega.{arith}
use native.Mathlib.Nat.{sub-zero}
use Prim.Native.Nat.{◌+◌, ◌-◌}
use mathlib.Core.Path.{◌≡◌, refl, sym, ◌∙◌}
use borrow.Author.Rules.{rules}
use Rattle.scan.proofs.check_rows.Goals as goal

pub returns-then-count-gt64 : goal.returns-then-count-gt64
returns-then-count-gt64 c = let a = c.args in rows_many a.s.now a.at a.count (omega arith)

pub returns-then-s-gt4294967295 : goal.returns-then-s-gt4294967295
returns-then-s-gt4294967295 c = let a = c.args in rows_long a.s.now a.at a.count (omega arith)

pub returns-then-s-at : goal.returns-then-s-at
returns-then-s-at c = let a = c.args in rows_past a.s.now a.at a.count (omega arith)

pub loop-i-init : goal.loop-i-init
loop-i-init c = (search rules, refl, rw sub-zero, rw sub-zero, rw sub-zero)

pub returns-in_err-next : goal.returns-in_err-next
returns-in_err-next c =
    let a = c.args in
    let l = c.loop-i in
    c.from_residual.ensures ∙ rows_bad a.s.now a.at a.count (sym l.invariant.2 ∙ rows_stop a.s.now l.p l.low (a.count - l.i) (a.count - (l.i + 1)) (omega arith) c.in_err-next.ensures)

pub loop-i-preserved : goal.loop-i-preserved
loop-i-preserved c =
    let a = c.args in
    let l = c.loop-i in
    let next = c.in_ok-next.next in
    let k = a.count - l.i in
    let j = a.count - (l.i + 1) in
    let s = a.s.now in
    let e : c.index-low.result ≡ u32_at s l.p = c.index-low.ensures.0 ∙ c.u32_at.ensures in
    let r = row_some s l.p l.low next c.in_ok-next.ensures in (
      row_inside s l.p l.low next c.in_ok-next.ensures,
      simp length-set (omega arith),
      rw e (rows_turn s l.p l.low k j (omega arith) next c.in_ok-next.ensures ∙ l.invariant.2),
      end_turn row_end s l.p k j next (omega arith) r.1 ∙ l.invariant.3,
      places_turn row_end s l.p k j next (omega arith) r.1 l.places l.i ∙ l.invariant.4,
    )

pub returns : goal.returns
returns c =
    let a = c.args in
    let l = c.loop-i in
    rows_good a.s.now a.at a.count (omega arith) (omega arith) (omega arith) l.p l.low (a.count - l.i) l.i l.places (omega arith) l.invariant.2 l.invariant.3 l.invariant.4
