-- The C functions that write a replica keep the promises that the claims are about: an answer, taken apart as include/gatelichen.h does, is the call's.
use Rattle.std.specs.Prelude.{ℕ, zero, suc, ◌/◌, ◌%◌, ◌≤◌, ◌<◌, ◌^◌, ◌≡◌, refl, Bool, true, false, List, [], eqb, length, take, replicate}
use Rattle.std.proofs.Common.{sym, ap, ◌∙◌, arith, eqb-true}
use Rattle.std.proofs.lemmas.List.Edits.{sets}
use Rattle.tables.specs.Table.{pick}
use Rattle.dots.specs.Dot.{no_dot}
use Rattle.clocks.specs.VClock.{dots_of, dots_vclock}
use Rattle.replica.specs.Limits.{full}
use Rattle.layout.specs.Fields.{Bytes}
use Rattle.layout.specs.Fits.{FitMembers, FitsClock}
use Rattle.layout.proofs.Parts.{clock_laws}
use Rattle.layout.specs.Image.{encode}
use Rattle.layout.proofs.MainFacts.{good_length, empty_length}
use Rattle.std.specs.Prelude.{Result, Ok, Err}
use Rattle.dots.specs.declared.refusals.Refused.{Refused}
use Rattle.dots.specs.Answers.{answer, refusal, number_in}
use Rattle.dots.proofs.AnswersFacts.{number_in_answer, answer_ok}
use Rattle.results.specs.Call.{length_in, Call, number_of, answered, answer_of, output_of, Meets}
use Rattle.reading.specs.Calls.{empty_call}
use Rattle.replies.specs.Reply.{reply, Replies, halves}
use Rattle.replies.specs.Lent.{good_lent, unfit_clock, clock_lent, lent_dots}
use Rattle.exports.specs.Calls.{replica_reply}
use Rattle.exports.proofs.Orderly.{empty_orderly}
use Rattle.exports.proofs.Replied.{ten}
use Rattle.results.specs.Laws.{Orderly}
use Rattle.std.proofs.Math.Path.{ap₂}
use Rattle.claims.specs.Granted.{image}
use Rattle.claims.proofs.GrantedFacts.{granted_well_formed, written}
use Rattle.claims.specs.Requests.{Request, call_on, Lent}
use Rattle.claims.proofs.RequestsFacts.{in_order, does}
use Rattle.claims.specs.Histories.{Answers, History, ends as ended, goes as went}
use Rattle.claims.specs.Calls.{EmptyReplies}
use Rattle.claims.specs.InC.{Halves, apart, answer_in, Replied, adding, removing, resetting, RepliedHistory, ends, goes}

-- the length that an answer carries
kept_length : (k long : ℕ) → length_in (answer k (pick (eqb k 0) long 0)) ≡ pick (eqb k 0) long 0
unfolding answer
kept_length k long = go (eqb k 0)
  where
    go : (b : Bool) → length_in (pick b (Ok (pick b long 0)) (Err (refusal k))) ≡ pick b long 0
    go true = refl
    go false = refl

-- ---- a reply is the call's answer, as long as a granted result is shorter than 4 GiB

module _ (c : Call) (before after : List ℕ) (r : ℕ) (short : number_of full c (length before) ≡ 0 → length (encode c.result) < 4294967296) (kept : Replies (replica_reply c (length before)) before r after) where
  abbrev n : ℕ
  n = number_of full c (length before)

  low_fits : pick (eqb n 0) (length (encode c.result)) 0 < 4294967296
  low_fits = go (eqb n 0) refl
    where
      go : (b : Bool) → eqb n 0 ≡ b → pick b (length (encode c.result)) 0 < 4294967296
      go true e = short (eqb-true n 0 e)
      go false e = omega arith

  picked : (b : Bool) (bytes : List ℕ) → sets before 0 (pick b bytes []) ≡ pick b (sets before 0 bytes) before
  picked true bytes = refl
  picked false bytes = refl

  -- the length is that of a result, or 0
  same_answer : answer n (pick (eqb n 0) (length (encode c.result)) 0) ≡ answer n (length (encode c.result))
  unfolding answer
  same_answer = go (eqb n 0)
    where
      go : (b : Bool) → ◌≡◌ {A = Result ℕ Refused} (pick b (Ok (pick b (length (encode c.result)) 0)) (Err (refusal n))) (pick b (Ok (length (encode c.result))) (Err (refusal n)))
      go true = refl
      go false = refl

  reply_meets : Meets full c before (answer_in r) after
  unfolding replica_reply reply answer_of answered output_of
  reply_meets =
      let h = halves (replica_reply c (length before)) low_fits in
      record {
        answer = ap₂ answer (ap (λ (k : ℕ). k / 4294967296) kept.answer ∙ h.0) (ap (λ (k : ℕ). k % 4294967296) kept.answer ∙ h.1) ∙ same_answer;
        output = kept.output ∙ picked (eqb n 0) (encode c.result);
      }

  -- the halves themselves are the number and the length, 0 beside a number, whatever the call
  reply_apart : apart r ≡ record { number = n; length = pick (eqb n 0) (length (encode c.result)) 0 }
  unfolding replica_reply reply
  reply_apart =
      let h = halves (replica_reply c (length before)) low_fits in
      λ i. record { number = (ap (λ (k : ℕ). k / 4294967296) kept.answer ∙ h.0) i; length = (ap (λ (k : ℕ). k % 4294967296) kept.answer ∙ h.1) i }

  -- nothing of them is lost in the answer: they are its number and its length
  reply_halves : Orderly c → apart r ≡ record { number = number_in (answer_in r); length = length_in (answer_in r) }
  reply_halves orderly =
      let x : r / 4294967296 ≡ n = ap (λ (w : Halves). w.number) reply_apart in
      let y : r % 4294967296 ≡ pick (eqb n 0) (length (encode c.result)) 0 = ap (λ (w : Halves). w.length) reply_apart in
      let t = ten c before after (answer_in r) orderly reply_meets in
      let p : number_in (answer_in r) ≡ r / 4294967296 = number_in_answer (r / 4294967296) (r % 4294967296) (rw x t) in
      let q : length_in (answer_in r) ≡ r % 4294967296 = ap₂ (λ (k l : ℕ). length_in (answer k l)) x y ∙ kept_length n (length (encode c.result)) ∙ sym y in
      λ i. record { number = sym p i; length = sym q i }

pub empty_meets : {before after : List ℕ} {r : ℕ} → EmptyReplies before r after → Meets full empty_call before (answer_in r) after
empty_meets {before} {after} {r} kept = reply_meets empty_call before after r (λ z. let e = empty_length in omega arith) kept

pub empty_halves : {before after : List ℕ} {r : ℕ} → EmptyReplies before r after → apart r ≡ record { number = number_in (answer_in r); length = length_in (answer_in r) }
empty_halves {before} {after} {r} kept = reply_halves empty_call before after r (λ z. let e = empty_length in omega arith) kept empty_orderly

-- a granted result of bytes is an image, and so has at most 18,268 of them
result_short : (q : Request) (a before : List ℕ) → Bytes a → Lent q → number_of full (call_on q a) (length before) ≡ 0 → length (encode (call_on q a).result) ≤ 18268
unfolding answer_of answered
result_short q a before bytes lent z =
    let m : Answers q a before (answer_of full (call_on q a) (length before)) (output_of full (call_on q a) before) = record { answer = refl; output = refl } in
    let g : number_in (answer_of full (call_on q a) (length before)) ≡ 0 =
    ap (λ (n : ℕ). number_in (answer n (length (encode (call_on q a).result)))) z ∙ ap number_in (answer_ok (length (encode (call_on q a).result))) in
    let w = granted_well_formed (does q a lent) bytes m g in
    let e = written (does q a lent) bytes m g ∙ ap encode (sym (does q a lent).result_is) in
    rw e at (good_length (image (answer_of full (call_on q a) (length before)) (output_of full (call_on q a) before)) w.bytes w.good)

pub in_c : (q : Request) (a : List ℕ) {before after : List ℕ} {r : ℕ} → Bytes a → Lent q → Replied q a before r after → Answers q a before (answer_in r) after
in_c q a {before} {after} {r} bytes lent kept = reply_meets (call_on q a) before after r (λ z. let h = result_short q a before bytes lent z in omega arith) kept

-- and its halves are the number and the length of that answer
pub halves_in_c : (q : Request) (a : List ℕ) {before after : List ℕ} {r : ℕ} → Bytes a → Lent q → Replied q a before r after → apart r ≡ record { number = number_in (answer_in r); length = length_in (answer_in r) }
halves_in_c q a {before} {after} {r} bytes lent kept = reply_halves (call_on q a) before after r (λ z. let h = result_short q a before bytes lent z in omega arith) kept (in_order q a)

-- the two halves are the whole answer
pub one_number : {q r : ℕ} → apart q ≡ apart r → q ≡ r
one_number {q} {r} e =
    let n : q / 4294967296 ≡ r / 4294967296 = ap (λ (w : Halves). w.number) e in
    let l : q % 4294967296 ≡ r % 4294967296 = ap (λ (w : Halves). w.length) e in
    omega arith

-- ---- the requests behind the functions

-- what is lent is bytes, 32-bit actors and members, and a 64-bit counter: that is all that is known of it
pub lent_add : (actor counter : ℕ) (members : List ℕ) → actor < 2 ^ 32 → counter < 2 ^ 64 → FitMembers members → Lent (adding actor counter members)
lent_add actor counter members i k ms = (((i, k), tt), rw (dots_vclock [] (omega arith)) tt, ms)

nothing_fits : (k n : ℕ) → FitsClock (take k (replicate n no_dot))
nothing_fits zero n = tt
nothing_fits (suc k) zero = tt
nothing_fits (suc k) (suc n) = ((omega arith, omega arith), nothing_fits k n)

clock_fits : (s : List ℕ) → Bytes s → FitsClock (dots_of (clock_lent s))
unfolding clock_lent unfit_clock
clock_fits s bytes = go (good_lent s) refl
  where
    go : (b : Bool) → good_lent s ≡ b → FitsClock (dots_of (clock_lent s))
    go true e = rw (lent_dots s e) (clock_laws.fits s 0 bytes)
    go false e = rw e (nothing_fits 17 16)

pub lent_remove : (clock members : List ℕ) → Bytes clock → FitMembers members → Lent (removing clock members)
lent_remove clock members bytes ms = (tt, clock_fits clock bytes, ms)

pub lent_reset : (clock : List ℕ) → Bytes clock → Lent (resetting clock)
lent_reset = clock_fits

-- ---- histories of C calls

pub history_in_c : {a z : List ℕ} {later : List Request} → Bytes a → RepliedHistory a later z → History a later z
history_in_c bytes ends = ended
history_in_c {a} {z} bytes (goes {after = after} {q = q} {later = later} {r = r} lent kept h) =
    let m = in_c q a bytes lent kept in
    went lent m (history_in_c (go (eqb (number_in (answer_in r)) 0) refl) h)
  where
    go : (b : Bool) → eqb (number_in (answer_in r)) 0 ≡ b → Bytes (pick b (image (answer_in r) after) a)
    go true e = (granted_well_formed (does q a lent) bytes (in_c q a bytes lent kept) (eqb-true (number_in (answer_in r)) 0 e)).bytes
    go false e = bytes
