use mathlib.Core.List.{List}
use mathlib.Core.Path.{ap}
use Prim.Native.Nat.{ℕ, ◌/◌}
use lib.Seq.{sets}
use Rattle.layout.specs.Fields.{le32}
use lib.ListN.{length}
use Prim.Native.Nat.{◌+◌}
use Rattle.layout.specs.Fields.{le64}
use Rattle.layout.proofs.FieldsFacts.{length_le32}
use Rattle.tables.specs.Stores.{sets_append}
use borrow.Author.Tests.{leb-true}
use native.Mathlib.Omega.{arith}
use native.Mathlib.Nat.{add-zero}
use mathlib.Core.Path.{sym, ◌∙◌}
use Rattle.numbers.proofs.put_u64.Goals as goal

pub store-requires : goal.store-requires
store-requires c = let a = c.args in omega (arith, leb-true (a.at + 8) (length a.s.now) (sym c.room.ensures ∙ c.if-room.true))

pub overflow_add-at : goal.overflow_add-at
overflow_add-at c = let a = c.args in omega (arith, leb-true (a.at + 8) (length a.s.now) (sym c.room.ensures ∙ c.if-room.true))

pub store-requires-then-room : goal.store-requires-then-room
store-requires-then-room c = let a = c.args in omega (arith, leb-true (a.at + 8) (length a.s.now) (sym c.room.ensures ∙ c.if-room.true))

pub returns-then-room : goal.returns-then-room
unfolding le64
returns-then-room c = simp (sets_append, length_le32) cc

pub returns-else-room : goal.returns-else-room
unfolding le64
returns-else-room c = simp (sets_append, length_le32) (c.store_edge-else-room.ensures ∙ ap (λ (l : List ℕ). sets l (c.args.at + 4) (le32 (c.args.v / 4294967296))) (rw add-zero at c.store_edge.ensures))
