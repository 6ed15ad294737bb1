-- What a call of include/gatelichen.h answers, and what it writes into `out`.
use Rattle.std.specs.Prelude.{ℕ, ◌+◌, ◌*◌, ◌/◌, ◌%◌, ◌<◌, ◌≡◌, List, [], eqb, ltb, length}
use Rattle.std.proofs.Common.{sym, ◌∙◌, arith}
use Rattle.std.proofs.lemmas.List.Edits.{sets}
use Rattle.tables.specs.Table.{pick}

-- the refusal number, or 0; the lower half; the bytes that are written from byte 0 on
pub record Reply : Type 0 where
  pub number : ℕ
  pub low : ℕ
  pub bytes : List ℕ

-- "The answer is one 64-bit number: refusal number * 2^32 + length."
abbrev pub one_number : Reply → ℕ
one_number x = x.number * 4294967296 + x.low

-- "Where the number isn't 0 the lower half is 0." "A refused call leaves `out` as it was"
unfoldable pub reply : ℕ → ℕ → List ℕ → Reply
reply number low bytes = record { number = number; low = pick (eqb number 0) low 0; bytes = pick (eqb number 0) bytes [] }

-- 10, "the output is shorter than the result", comes last
unfoldable pub fitted : ℕ → ℕ → ℕ → List ℕ → Reply
fitted room number low bytes = reply (pick (eqb number 0) (pick (ltb room (length bytes)) 10 0) number) low bytes

-- "only 11 and 12 write what they name, where it fits"
unfoldable pub if_room : ℕ → List ℕ → List ℕ
if_room room bytes = pick (ltb room (length bytes)) [] bytes

-- The promise: r is the answer, and `after` are the output's bytes where `before` was lent. "A granted call writes its result from byte 0 and leaves
-- the bytes after it as they were."
pub record Replies (x : Reply) (before : List ℕ) (r : ℕ) (after : List ℕ) : Type 0 where
  pub answer : r ≡ one_number x
  pub output : after ≡ sets before 0 x.bytes

-- any two answers that it allows are equal
pub replies_once : (x : Reply) (before : List ℕ) (q r : ℕ) (y z : List ℕ) → Replies x before q y → Replies x before r z → (q ≡ r) × (y ≡ z)
replies_once x before q r y z m n = (m.answer ∙ sym n.answer, m.output ∙ sym n.output)

-- GATELICHEN_NUMBER and GATELICHEN_LENGTH "take it apart"
pub halves : (x : Reply) → x.low < 4294967296 → (one_number x / 4294967296 ≡ x.number) × (one_number x % 4294967296 ≡ x.low)
halves x h = (omega arith, omega arith)
