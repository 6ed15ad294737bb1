-- What a call has found is what its definition replies.
use Prim.Native.Nat.{ℕ, zero, suc, ◌+◌, ◌*◌, ◌≤◌}
use Rattle.std.specs.Prelude.{Result, Ok, Err, ⊤}
use native.Mathlib.Omega.{arith}
use borrow.Author.Tests.{eqb-true, eqb-false}
use mathlib.Core.Path.{◌≡◌, refl, sym, ap, ◌∙◌}
use mathlib.Core.Bool.{Bool, true, false, not}
use mathlib.Core.List.{List, []}
use lib.Dec.{eqb, ltb}
use lib.ListN.{length}
use lib.Seq.{sets}
use Rattle.tables.specs.Table.{pick}
use Rattle.clocks.specs.declared.VClock.{VClock}
use Rattle.clocks.specs.VClock.{dots_of}
use Rattle.replica.specs.Limits.{full}
use Rattle.layout.specs.Clock.{encode_clock}
use Rattle.layout.specs.Rows.{encode_members}
use Rattle.layout.specs.Image.{encode}
use Rattle.dots.specs.declared.refusals.Refused.{Refused}
use Rattle.dots.specs.declared.refusals.Refused.TheVariants.{BadImage, BadSecond, BadClock, LongList, LastCounter, ManyActors, ManyEntries, ManyWaits, ManyNamed, ShortOutput}
use Rattle.dots.specs.Answers.{answer, refusal, number_in}
use Rattle.dots.proofs.AnswersFacts.{number_in_answer, number_refusal}
use Rattle.contexts.specs.declared.ReadCtx.{ReadCtx}
use Rattle.replica.specs.Reads.{read}
use Rattle.layout.specs.Image.{image_of, good_image}
use Rattle.tables.specs.Refusal.{first_of}
use Rattle.tables.proofs.RefusalFacts.{first_right}
use Rattle.results.specs.Call.{Call, length_in, table_of, number_of, answered, answer_of, output_of, Meets}
use Rattle.results.specs.Laws.{Orderly}
use Rattle.results.proofs.Laws.{number_right}
use Rattle.operations.specs.declared.Op.{Op}
use Rattle.operations.specs.Calls.{apply_call, reset_call}
use Rattle.reading.specs.Calls.{ctx_of, members_read, read_number, members_answer, read_call, read_output, ReadMeets}
use Rattle.replies.specs.Reply.{one_number, reply, Replies}
use Rattle.image.specs.Image.{check_call, clock_call}
use Rattle.reading.specs.Calls.{contains_call}
use Rattle.replies.specs.Given.{clock_given}
use Rattle.exports.proofs.Orderly.{apply_orderly, reset_orderly}
use Rattle.exports.specs.Calls.{replica_reply, check_reply, contains_reply, read_reply, clock_reply}

-- a number alone
pub alone : (n r : ℕ) → r ≡ n * 4294967296 + 0 → r ≡ one_number (reply n 0 [])
unfolding reply
alone n r e = e ∙ go (eqb n 0)
  where
    go : (b : Bool) → n * 4294967296 + 0 ≡ n * 4294967296 + pick b 0 0
    go true = refl
    go false = refl

-- bytes that are written where the number is 0
picked : (b : Bool) (before bytes : List ℕ) → pick b (sets before 0 bytes) before ≡ sets before 0 (pick b bytes [])
picked true before bytes = refl
picked false before bytes = refl

-- an answer's number and length, where the number is one of a refusal
halved : (n long : ℕ) → n ≤ 10 → number_in (answer n long) * 4294967296 + length_in (answer n long) ≡ n * 4294967296 + pick (eqb n 0) long 0
unfolding answer
halved n long h = rw (number_in_answer n long h) (go (eqb n 0))
  where
    go : (b : Bool) → n * 4294967296 + length_in (pick b (Ok long) (Err (refusal n))) ≡ n * 4294967296 + pick b long 0
    go true = refl
    go false = refl

most : (r : Result ℕ Refused) → number_in r ≤ 10
most (Ok n) = omega arith
most (Err BadImage) = omega arith
most (Err BadSecond) = omega arith
most (Err BadClock) = omega arith
most (Err LongList) = omega arith
most (Err LastCounter) = omega arith
most (Err ManyActors) = omega arith
most (Err ManyEntries) = omega arith
most (Err ManyWaits) = omega arith
most (Err ManyNamed) = omega arith
most (Err ShortOutput) = omega arith

-- a call that judges its arguments in order gives a number of a refusal
pub ten : (c : Call) (before after : List ℕ) (w : Result ℕ Refused) → Orderly c → Meets full c before w after → number_of full c (length before) ≤ 10
unfolding number_of
ten c before after w o m = go (first_of (table_of full c (length before))) refl
  where
    go : (n : ℕ) → first_of (table_of full c (length before)) ≡ n → n ≤ 10
    go zero e = omega arith
    go (suc n) e =
        let f = (number_right full c before w after m o (suc n) (omega arith)).1 ((first_right (table_of full c (length before)) (suc n) (omega arith)).0 e) in
        let k = most w in
        omega arith

taken : (c : Call) (before after : List ℕ) (w : Result ℕ Refused) → Orderly c → Meets full c before w after
    → number_in w * 4294967296 + length_in w ≡ number_of full c (length before) * 4294967296 + pick (eqb (number_of full c (length before)) 0) (length (encode c.result)) 0
unfolding answer_of answered
taken c before after w o m = ap (λ (x : Result ℕ Refused). number_in x * 4294967296 + length_in x) m.answer ∙ halved (number_of full c (length before)) (length (encode c.result)) (ten c before after w o m)

-- how many members a read gives
abbrev pub counted : Result (ReadCtx × ℕ) Refused → Result ℕ Refused
counted (Ok x) = Ok x.1
counted (Err r) = Err r

read_ten : (s : List ℕ) (room : ℕ) → read_number s room ≤ 10
unfolding read_number first_of
read_ten s room = go (not (good_image s)) (ltb room (length (encode_members (members_read s))))
  where
    go : (b d : Bool) → pick b 1 (pick d 10 0) ≤ 10
    go true d = omega arith
    go false true = omega arith
    go false false = omega arith

read_taken : (s : List ℕ) (room : ℕ) (x : Result (ReadCtx × ℕ) Refused) → x ≡ read_call s room
    → number_in (counted x) * 4294967296 + length_in (counted x) ≡ read_number s room * 4294967296 + pick (eqb (read_number s room) 0) (length (members_read s)) 0
unfolding read_call members_answer answer
read_taken s room x e =
    ap (λ (y : Result (ReadCtx × ℕ) Refused). number_in (counted y) * 4294967296 + length_in (counted y)) e
    ∙ go (eqb (read_number s room) 0) refl
  where
    go : (b : Bool) → eqb (read_number s room) 0 ≡ b → number_in (counted (pick b (Ok (ctx_of (read (image_of s)) false, length (members_read s))) (Err (refusal (read_number s room))))) * 4294967296
        + length_in (counted (pick b (Ok (ctx_of (read (image_of s)) false, length (members_read s))) (Err (refusal (read_number s room))))) ≡ read_number s room * 4294967296 + pick b (length (members_read s)) 0
    go true q = let z : read_number s room ≡ 0 = eqb-true (read_number s room) 0 q in rw z
    go false q = rw (number_refusal (read_number s room) (let z = eqb-false (read_number s room) 0 q in omega arith) (read_ten s room))

module _ (before after : List ℕ) (r : ℕ) where
  -- a call that writes a replica and answers numbers that a refusal has
  pub replica_replies : (c : Call) (w : Result ℕ Refused) → Orderly c → Meets full c before w after → r ≡ number_in w * 4294967296 + length_in w → Replies (replica_reply c (length before)) before r after
  unfolding replica_reply reply output_of
  replica_replies c w o m e = record {
    answer = e ∙ taken c before after w o m;
    output = m.output ∙ picked (eqb (number_of full c (length before)) 0) before (encode c.result);
  }

  -- the same by a clock argument, which is v
  pub apply_replies : (s : List ℕ) (op : Op) (ms : List ℕ) (v c : VClock) (w : Result ℕ Refused) → c ≡ v → Meets full (apply_call s op c ms) before w after → r ≡ number_in w * 4294967296 + length_in w → Replies (replica_reply (apply_call s op v ms) (length before)) before r after
  apply_replies s op ms v c w e m f = rw (← e) (replica_replies (apply_call s op c ms) w (apply_orderly s op c ms) m f)

  pub reset_replies : (s : List ℕ) (v c : VClock) (w : Result ℕ Refused) → c ≡ v → Meets full (reset_call s c) before w after → r ≡ number_in w * 4294967296 + length_in w → Replies (replica_reply (reset_call s v) (length before)) before r after
  reset_replies s v c w e m f = rw (← e) (replica_replies (reset_call s c) w (reset_orderly s c) m f)

  pub read_replies : (s : List ℕ) (x : Result (ReadCtx × ℕ) Refused) → ReadMeets s before x after → r ≡ number_in (counted x) * 4294967296 + length_in (counted x) → Replies (read_reply s (length before)) before r after
  unfolding read_reply reply read_output
  read_replies s x m e = record {
    answer = e ∙ read_taken s (length before) x m.answer;
    output = m.output ∙ picked (eqb (read_number s (length before)) 0) before (encode_members (members_read s));
  }

  -- by what a read gave
  pub read_by : (s : List ℕ) (x y : Result (ReadCtx × ℕ) Refused) → ReadMeets s before x after → x ≡ y → r ≡ number_in (counted y) * 4294967296 + length_in (counted y) → Replies (read_reply s (length before)) before r after
  read_by s x y m w e = read_replies s x m (e ∙ ap (λ (z : Result (ReadCtx × ℕ) Refused). number_in (counted z) * 4294967296 + length_in (counted z)) (sym w))

  -- a clock that is given, or the refusal
  module _ (s : List ℕ) where
    pub contains_given : (m : ℕ) (w : Result ReadCtx Refused) (x : ReadCtx) (b : Bool) → w ≡ contains_call s m → w ≡ Ok x → x.answer ≡ b
        → Replies (clock_given (length before) (Ok (pick b 1 0, x.rm_clock))) before r after → Replies (contains_reply s m (length before)) before r after
    unfolding contains_reply
    contains_given m w x b e f g h = rw (← e, f, g) h

    pub contains_refused : (m : ℕ) (w : Result ReadCtx Refused) (x : Refused) → w ≡ contains_call s m → w ≡ Err x → Replies (clock_given (length before) (Err x)) before r after → Replies (contains_reply s m (length before)) before r after
    unfolding contains_reply
    contains_refused m w x e f h = rw (← e, f) h

    pub clock_answered : (w : Result VClock Refused) (c : VClock) (long : ℕ) → w ≡ clock_call s → w ≡ Ok c → long ≡ length (encode_clock (dots_of c))
        → Replies (clock_given (length before) (Ok (long, c))) before r after → Replies (clock_reply s (length before)) before r after
    unfolding clock_reply
    clock_answered w c long e f g h = rw (← e, f, ← g) h

    pub clock_refused : (w : Result VClock Refused) (x : Refused) → w ≡ clock_call s → w ≡ Err x → Replies (clock_given (length before) (Err x)) before r after → Replies (clock_reply s (length before)) before r after
    unfolding clock_reply
    clock_refused w x e f h = rw (← e, f) h

-- a check's number
pub checks : (s : List ℕ) (w y : Result ⊤ Refused) (n r : ℕ) → w ≡ check_call s → w ≡ y → n ≡ number_in y → r ≡ n * 4294967296 + 0 → r ≡ one_number (check_reply s)
unfolding check_reply
checks s w y n r e f g h = rw (← e, f, ← g) (alone n r h)
