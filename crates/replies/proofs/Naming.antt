-- What 11 and 12 name, written where it fits.
use Prim.Native.Nat.{ℕ, ◌≤◌, ◌<◌}
use Rattle.std.specs.Prelude.{Result, Err, ⊤}
use mathlib.Core.Path.{◌≡◌, refl, sym}
use mathlib.Core.Bool.{Bool, true, false}
use mathlib.Core.Option.{none}
use mathlib.Core.List.{List, []}
use lib.Dec.{ltb}
use lib.ListN.{length, length-append}
use lib.Seq.{sets}
use borrow.Author.Tests.{lt-ltb, le-ltb}
use Rattle.tables.specs.Table.{pick}
use Rattle.tables.specs.Stores.{sets_append}
use Rattle.dots.specs.declared.DotRange.{DotRange}
use Rattle.dots.specs.Dot.{actor_of}
use Rattle.replica.specs.Validate.{Spent}
use Rattle.layout.specs.Fields.{le32, le64}
use Rattle.layout.proofs.FieldsFacts.{length_le32, length_le64}
use Rattle.layout.specs.Clock.{encode_dot_in}
use Rattle.dots.specs.declared.refusals.OpRefused.{OpRefused}
use Rattle.dots.specs.declared.refusals.OpRefused.TheVariants.{Gap}
use Rattle.operations.specs.Calls.{gap_named}
use Rattle.replies.specs.Reply.{if_room}
use Rattle.replies.specs.Named.{gap_bytes, named_gap, spent_bytes}

pub none_named : (room : ℕ) → if_room room [] ≡ []
unfolding if_room
none_named room = go (ltb room 0)
  where
    go : (b : Bool) → pick {A = List ℕ} b [] [] ≡ []
    go true = refl
    go false = refl

module _ (before bytes : List ℕ) where
  pub no_room : length before < length bytes → before ≡ sets before 0 (if_room (length before) bytes)
  unfolding if_room
  no_room h = rw (lt-ltb (length before) (length bytes) h)

  pub with_room : (after : List ℕ) → length bytes ≤ length before → after ≡ sets before 0 bytes → after ≡ sets before 0 (if_room (length before) bytes)
  unfolding if_room
  with_room after h e = rw (le-ltb (length before) (length bytes) h) e

-- ---- a gap

pub gap_length : (g : DotRange) → length (gap_bytes g) ≡ 16
unfolding gap_bytes
gap_length g = simp (length-append, length_le64)

pub gap_put : (g : DotRange) (o p q : List ℕ) → p ≡ sets o 0 (le64 g.start) → q ≡ sets p 8 (le64 g.end) → q ≡ sets o 0 (gap_bytes g)
unfolding gap_bytes
gap_put g o p q e f = rw (f, e) (sym (simp (sets_append, length_le64)))

module _ (before : List ℕ) (v : Result ⊤ OpRefused) where
  abbrev gap_part : Result ⊤ OpRefused → List ℕ
  gap_part w = if_room (length before) (named_gap (gap_named w))

  pub no_gap : (w : Result ⊤ OpRefused) → v ≡ w → gap_named w ≡ none → before ≡ sets before 0 (gap_part v)
  unfolding named_gap
  no_gap w e n = rw (e, n, none_named (length before))

  pub a_gap : (g : DotRange) (after : List ℕ) → v ≡ Err (Gap g) → after ≡ sets before 0 (if_room (length before) (gap_bytes g)) → after ≡ sets before 0 (gap_part v)
  unfolding named_gap
  a_gap g after e h = rw e h

-- ---- a double-spent dot

pub spent_length : (x : Spent) → length (spent_bytes x) ≡ 20
unfolding spent_bytes encode_dot_in
spent_length x = simp (length-append, length_le32, length_le64)

pub spent_put : (x : Spent) (o p q r s : List ℕ) → p ≡ sets o 0 (le32 (actor_of x.dot)) → q ≡ sets p 4 (le64 x.dot.counter) → r ≡ sets q 12 (le32 x.our) → s ≡ sets r 16 (le32 x.their)
    → s ≡ sets o 0 (spent_bytes x)
unfolding spent_bytes encode_dot_in
spent_put x o p q r s e f g h = rw (h, g, f, e) (sym (simp (sets_append, length-append, length_le32, length_le64)))
