-- What C asks and is answered: an answer taken apart as include/gatelichen.h does, the requests behind the functions, and histories of calls.
use Rattle.std.specs.Prelude.{ℕ, ◌/◌, ◌%◌, List, [], ◌∷◌, length}
use Rattle.dots.specs.Dot.{dot}
use Rattle.clocks.specs.VClock.{vclock}
use Rattle.std.specs.Prelude.{Result}
use Rattle.dots.specs.declared.refusals.Refused.{Refused}
use Rattle.dots.specs.Answers.{answer}
use Rattle.operations.specs.declared.Op.TheVariants.{Add, Remove}
use Rattle.replies.specs.Reply.{Replies}
use Rattle.replies.specs.Lent.{clock_lent}
use Rattle.exports.specs.Calls.{replica_reply}
use Rattle.claims.specs.Requests.{Request, apply_op, reset_by, call_on, Lent}
use Rattle.claims.specs.Histories.{next}

-- GATELICHEN_NUMBER and GATELICHEN_LENGTH
pub record Halves : Type 0 where
  pub number : ℕ
  pub length : ℕ

abbrev pub apart : ℕ → Halves
apart r = record { number = r / 4294967296; length = r % 4294967296 }

-- and the answer that they are
abbrev pub answer_in : ℕ → Result ℕ Refused
answer_in r = answer (apart r).number (apart r).length

-- what C is answered to a request
abbrev pub Replied : Request → List ℕ → List ℕ → ℕ → List ℕ → Type 0
Replied q a before r after = Replies (replica_reply (call_on q a) (length before)) before r after

-- ---- the requests behind the functions

abbrev pub adding : ℕ → ℕ → List ℕ → Request
adding actor counter members = apply_op (Add (dot actor counter)) (vclock []) members

abbrev pub removing : List ℕ → List ℕ → Request
removing clock members = apply_op Remove (clock_lent clock) members

abbrev pub resetting : List ℕ → Request
resetting clock = reset_by (clock_lent clock)

-- ---- histories of C calls

-- from image to image: one call after the other, granted or refused, each on the image that the one before left
pub data RepliedHistory : List ℕ → List Request → List ℕ → Type 0 where
  ends : {a : List ℕ} → RepliedHistory a [] a
  goes : {a before after z : List ℕ} {q : Request} {later : List Request} {r : ℕ} → Lent q → Replied q a before r after → RepliedHistory (next a (answer_in r) after) later z → RepliedHistory a (q ∷ later) z
