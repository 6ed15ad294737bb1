use lib.ListN.{length}
use Prim.Native.Nat.{◌+◌}
use Rattle.layout.specs.Fields.{u64_at}
use borrow.Author.Tests.{leb-true}
use native.Mathlib.Omega.{arith}
use native.Mathlib.Nat.{add-zero}
use mathlib.Core.Path.{sym, ◌∙◌}
use borrow.Author.Rules.{rules}
use Rattle.numbers.proofs.u64_at.Goals as goal

pub load-requires : goal.load-requires
load-requires c = let a = c.args in omega (arith, leb-true (a.at + 8) (length a.s.now) (sym c.room.ensures ∙ c.if-room.true))

pub overflow_add-at : goal.overflow_add-at
overflow_add-at c = let a = c.args in omega (arith, leb-true (a.at + 8) (length a.s.now) (sym c.room.ensures ∙ c.if-room.true))

pub load-requires-then-room : goal.load-requires-then-room
load-requires-then-room c = let a = c.args in omega (arith, leb-true (a.at + 8) (length a.s.now) (sym c.room.ensures ∙ c.if-room.true))

pub returns-then-room : goal.returns-then-room
unfolding u64_at
returns-then-room c = search rules

pub returns-else-room : goal.returns-else-room
unfolding u64_at
returns-else-room c = omega (arith, rw add-zero at c.load_edge.ensures)
