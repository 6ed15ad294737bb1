use Rattle.rows.proofs.Steps.{wait_done, wait_past, first_written, named_short}
use Rattle.fields.proofs.Steps.{put_short}
use lib.ListN.{length}
use native.Mathlib.Omega.{arith}
use mathlib.Core.Path.{◌≡◌}
use borrow.Author.Rules.{rules}
use Rattle.rows.proofs.put_wait.Goals as goal

pub overflow_add-result : goal.overflow_add-result
overflow_add-result c =
    let a = c.args in
    let p = c.put_clock-r in
    let long : length a.clock.dots ≡ 16 = search rules in
    omega (arith, put_short a.clock.dots a.clock.len p.result long p.ensures.long, named_short a.members.now _ _ _ _ _ c.min.ensures c.put_members.ensures)

pub returns-then-out-at : goal.returns-then-out-at
returns-then-out-at c = let a = c.args in wait_past _ _ _ _ _ _ a.clock a.members.now c.put_clock-r.ensures (omega arith) (first_written a.members.now _ _ _ _ _ c.min.ensures c.put_members.ensures)

pub overflow_add-at : goal.overflow_add-at
overflow_add-at c =
    let a = c.args in
    let p = c.put_clock-r in
    let long : length a.clock.dots ≡ 16 = search rules in
    omega (arith, put_short a.clock.dots a.clock.len p.result long p.ensures.long)

pub overflow_add-result-2 : goal.overflow_add-result-2
overflow_add-result-2 c =
    let a = c.args in
    let p = c.put_clock-r in
    let long : length a.clock.dots ≡ 16 = search rules in
    omega (arith, put_short a.clock.dots a.clock.len p.result long p.ensures.long, named_short a.members.now _ _ _ _ _ c.min.ensures c.put_members-2.ensures)

pub returns : goal.returns
returns c = let a = c.args in wait_done _ _ _ _ _ _ a.clock a.members.now c.put_clock-r.ensures (first_written a.members.now _ _ _ _ _ c.min.ensures c.put_members-2.ensures)
