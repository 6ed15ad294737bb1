use mathlib.Core.Path.{refl}
use borrow.Author.Tests.{ne_eqb}
use Rattle.tables.specs.Stores.{sets_append}
use Rattle.layout.proofs.FieldsFacts.{length_le32}
use Rattle.merging.proofs.entries.put_row.Goals as goal

pub returns : goal.returns
returns c = rw (ne_eqb _ _ c.if-dots-eq0.false) (refl, refl, refl, refl, simp (sets_append, length_le32) (cc))
