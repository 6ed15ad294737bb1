use Rattle.scan.proofs.Tables.{end_turn, places_turn, waits_stop, waits_turn, wait_inside, wait_in, none_past, none_in, waits_many, waits_long, waits_past, waits_bad, waits_good}
use Rattle.scan.proofs.Steps.{wait_some}
use Rattle.layout.specs.Rows.{wait_end}
use Rattle.layout.specs.Clock.{clock_at}
use lib.ListN.{length-set}
use native.Mathlib.Omega.{arith}
use native.Mathlib.Nat.{sub-zero}
use Prim.Native.Nat.{◌+◌, ◌-◌}
use mathlib.Core.Path.{refl, sym, ◌∙◌}
use borrow.Author.Rules.{rules}
use Rattle.scan.proofs.check_waits.Goals as goal

pub returns-then-count-gt16 : goal.returns-then-count-gt16
returns-then-count-gt16 c = let a = c.args in waits_many a.s.now a.at a.count (omega arith)

pub returns-then-s-gt4294967295 : goal.returns-then-s-gt4294967295
returns-then-s-gt4294967295 c = let a = c.args in waits_long a.s.now a.at a.count (omega arith)

pub returns-then-s-at : goal.returns-then-s-at
returns-then-s-at c = let a = c.args in waits_past a.s.now a.at a.count (omega arith)

pub loop-i-init : goal.loop-i-init
loop-i-init c = (search rules, search rules, none_in _, refl, rw (none_past, sub-zero), rw sub-zero, rw sub-zero)

pub wait_ends-requires : goal.wait_ends-requires
wait_ends-requires c = (search rules, search rules, c.loop-i.invariant.2)

pub returns-in_err-next : goal.returns-in_err-next
returns-in_err-next c =
    let a = c.args in
    let l = c.loop-i in
    c.from_residual.ensures ∙ waits_bad a.s.now a.at a.count (sym l.invariant.4 ∙ waits_stop a.s.now l.p (clock_at a.s.now l.last) (a.count - l.i) (a.count - (l.i + 1)) (omega arith) c.in_err-next.ensures)

pub loop-i-preserved : goal.loop-i-preserved
loop-i-preserved c =
    let a = c.args in
    let l = c.loop-i in
    let next = c.in_ok-next.next in
    let k = a.count - l.i in
    let j = a.count - (l.i + 1) in
    let s = a.s.now in
    let last = clock_at s l.last in
    let w = c.in_ok-next.ensures in
    let r = wait_some s l.p last next w in (
      wait_inside s l.p last next w,
      search rules,
      wait_in s l.p last next w,
      simp length-set (omega arith),
      waits_turn s l.p last k j (omega arith) next w ∙ l.invariant.4,
      end_turn wait_end s l.p k j next (omega arith) r.1 ∙ l.invariant.5,
      places_turn wait_end s l.p k j next (omega arith) r.1 l.places l.i ∙ l.invariant.6,
    )

pub returns : goal.returns
returns c =
    let a = c.args in
    let l = c.loop-i in
    waits_good a.s.now a.at a.count (omega arith) (omega arith) (omega arith) l.p (a.count - l.i) l.i (clock_at a.s.now l.last) l.places (omega arith) l.invariant.4 l.invariant.5 l.invariant.6
