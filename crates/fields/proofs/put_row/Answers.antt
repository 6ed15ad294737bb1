use Rattle.fields.proofs.Steps.{row_none, row_done, put_short}
use lib.ListN.{length}
use native.Mathlib.Omega.{arith}
use mathlib.Core.Path.{◌≡◌}
use borrow.Author.Rules.{rules}
use Rattle.fields.proofs.put_row.Goals as goal

pub returns-then-s-at : goal.returns-then-s-at
returns-then-s-at c =
    let a = c.args in
    let long : length a.c.dots ≡ 16 = search rules in
    row_none _ _ a.c.len _ a.c.dots long c.min.ensures a.member (omega arith)

pub overflow_add-result-2 : goal.overflow_add-result-2
overflow_add-result-2 c =
    let a = c.args in
    let long : length a.c.dots ≡ 16 = search rules in
    omega (arith, put_short a.c.dots a.c.len c.put_clock.result long c.put_clock.ensures.long)

pub returns : goal.returns
returns c = row_done _ _ _ _ _ _ _ c.put_u32.ensures c.put_clock.ensures
