-- One turn of each loop, in the code's terms; and what is written of the empty replica.
use Prim.Native.Nat.{ℕ, ◌+◌, ◌*◌, ◌≤◌, ◌<◌}
use Rattle.std.specs.Prelude.{Ok, Err}
use mathlib.Core.Path.{◌≡◌, sym}
use Rattle.dots.specs.declared.refusals.Refused.TheVariants.{ShortOutput}
use Rattle.dots.specs.Answers.{answer, refusal}
use mathlib.Core.List.{List, map}
use native.Mathlib.Omega.{arith}
use lib.ListN.{length, get_or}
use lib.Seq.{sets, slice}
use borrow.Author.Tests.{lt-ltb, le-ltb}
use Rattle.tables.specs.Stores.{sets_append}
use Rattle.tables.specs.Refusal.{first_of}
use Rattle.replica.specs.Limits.{full, limits_of}
use Rattle.clocks.proofs.Steps.{ahead, done}
use Rattle.layout.specs.Fields.{u32_at, le16, le32}
use Rattle.layout.proofs.FieldsFacts.{length_le32}
use Rattle.layout.specs.Lists.{bytes_of}
use Rattle.layout.specs.Clock.{encode_clock_in}
use Rattle.layout.specs.Rows.{encode_members}
use Rattle.layout.specs.Image.{contents, contents_of, length_of, rows_from, waits_from, encode_in}
use Rattle.results.specs.Call.{number_of, answered, answer_of, output_of, Meets}
use Rattle.reading.specs.Calls.{empty_call}

module _ (s places : List ℕ) (i : ℕ) where
  abbrev members_from : ℕ → List ℕ
  members_from j = map (u32_at s) (slice j (length places) places)

  pub put_next : (out after : List ℕ) (p k : ℕ) → i < length places → p ≡ get_or places i 0 → k ≡ u32_at s p → after ≡ sets out (4 * i) (le32 k)
      → sets after (4 * (i + 1)) (encode_members (members_from (i + 1))) ≡ sets out (4 * i) (encode_members (members_from i))
  unfolding bytes_of
  put_next out after p k h f e g =
      let q : 4 * (i + 1) ≡ 4 * i + length (le32 k) = let w = length_le32 k in omega arith in
      rw (ahead places i (length places) 0 h (omega arith), ← f, ← e, g, q) (sym (sets_append out (4 * i) (le32 k) (encode_members (members_from (i + 1)))))

  pub put_end : (out : List ℕ) → length places ≤ i → sets out (4 * i) (encode_members (members_from i)) ≡ out
  unfolding bytes_of
  put_end out h = rw (done places i (length places) h)

-- ---- the empty replica

module _ (before : List ℕ) where
  pub empty_short : length before < 28 → Meets full empty_call before (Err ShortOutput) before
  unfolding answer refusal number_of answered answer_of output_of limits_of first_of encode_in contents_of contents encode_clock_in bytes_of le16 le32
  empty_short h = record { answer = rw (lt-ltb (length before) 28 h); output = rw (lt-ltb (length before) 28 h) }

  pub empty_put : (mid after : List ℕ) → 28 ≤ length before → mid ≡ sets before 0 (contents 28 28 0 28 0) → after ≡ sets mid 24 (le32 0) → Meets full empty_call before (Ok 28) after
  unfolding answer refusal number_of answered answer_of output_of limits_of first_of encode_in contents_of contents encode_clock_in bytes_of le16 le32 length_of rows_from waits_from
  empty_put mid after h e f = record { answer = rw (le-ltb (length before) 28 h); output = rw (le-ltb (length before) 28 h, f, e) }
