-- What the calls answer: the first refusal that applies, by the order of document 01's table, and the value where none does.
use Rattle.std.specs.Prelude.{ℕ, ◌≡◌, Bool, false, not, Result, List, [], ◌∷◌, eqb, ltb, length}
use Rattle.std.proofs.Common.{sym, ◌∙◌}
use Rattle.std.proofs.lemmas.List.Edits.{sets}
use Rattle.tables.specs.Table.{pick}
use Rattle.tables.specs.Refusal.{Refusal, ◌if◌, first_of}
use Rattle.clocks.specs.VClock.{vclock}
use Rattle.clocks.specs.declared.VClock.{VClock}
use Rattle.contexts.specs.declared.ReadCtx.{ReadCtx}
use Rattle.dots.specs.declared.refusals.Refused.{Refused}
use Rattle.dots.specs.Answers.{answer}
use Rattle.replica.specs.Reads.{Read, contains, read, read_ctx}
use Rattle.layout.specs.Rows.{encode_members}
use Rattle.layout.specs.Image.{image_of, good_image}
use Rattle.layout.specs.Main.{empty_replica}
use Rattle.results.specs.Call.{Call}

-- "the empty replica is 28 bytes"
abbrev pub empty_call : Call
empty_call = record { refusals = []; result = empty_replica }

-- ---- reads

-- 1: "the first .. replica isn't a well-formed image"
abbrev pub ill_formed : List ℕ → Refusal
ill_formed s = 1 if not (good_image s)

-- the context of a read; what is not a truth is answered beside it
abbrev pub ctx_of : {X : Type 0} → Read X → Bool → ReadCtx
ctx_of r b = record { add_clock = vclock r.add_clock; rm_clock = vclock r.rm_clock; answer = b }

-- the context of a read of all, of which no truth is asked
abbrev pub twice : VClock → ReadCtx
twice v = record { add_clock = v; rm_clock = v; answer = false }

-- "`contains` answers V as add clock, the entry clock or an empty one as remove clock, and whether it is there."
unfoldable pub contains_call : List ℕ → ℕ → Result ReadCtx Refused
contains_call s m = let r = contains (image_of s) m in answer (first_of (ill_formed s ∷ [])) (ctx_of r r.answer)

-- "`read` and `read_ctx` answer V twice"
unfoldable pub read_ctx_call : List ℕ → Result ReadCtx Refused
read_ctx_call s = answer (first_of (ill_formed s ∷ [])) (ctx_of (read_ctx (image_of s)) false)

-- "`read` writes the members ascending as 32-bit little-endian numbers"
abbrev pub members_read : List ℕ → List ℕ
members_read s = (read (image_of s)).answer

-- 10: "the output is shorter than the result"
unfoldable pub read_number : List ℕ → ℕ → ℕ
read_number s room = first_of (ill_formed s ∷ 10 if ltb room (length (encode_members (members_read s))) ∷ [])

unfoldable pub members_answer : ℕ → ReadCtx → ℕ → Result (ReadCtx × ℕ) Refused
members_answer number c n = answer number (c, n)

-- "and returns, in place of the length in bytes, how many they are"
unfoldable pub read_call : List ℕ → ℕ → Result (ReadCtx × ℕ) Refused
read_call s room = members_answer (read_number s room) (ctx_of (read (image_of s)) false) (length (members_read s))

-- "A refusal changes no lent memory"; "writes the result from byte 0, .. and leaves later bytes unchanged"
unfoldable pub read_output : List ℕ → List ℕ → List ℕ
read_output s out = pick (eqb (read_number s (length out)) 0) (sets out 0 (encode_members (members_read s))) out

pub record ReadMeets (s before : List ℕ) (r : Result (ReadCtx × ℕ) Refused) (after : List ℕ) : Type 0 where
  pub answer : r ≡ read_call s (length before)
  pub output : after ≡ read_output s before

-- any two answers that it allows are equal
pub read_once : (s before : List ℕ) (q r : Result (ReadCtx × ℕ) Refused) (x y : List ℕ) → ReadMeets s before q x → ReadMeets s before r y → (q ≡ r) × (x ≡ y)
read_once s before q r x y g h = (g.answer ∙ sym h.answer, g.output ∙ sym h.output)
