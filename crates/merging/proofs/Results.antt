-- A draft of what stays is the draft of a result, where its clock, entries and waiting removes are the result's; and what a refusal keeps to.
use Prim.Native.Nat.{ℕ, ◌+◌, ◌≤◌, max}
use mathlib.Core.Path.{◌≡◌, refl, sym, ap, ◌∙◌}
use mathlib.Core.Bool.{Bool, true, false, ◌||◌}
use mathlib.Core.List.{List, [], ◌∷◌, ◌++◌}
use native.Mathlib.Omega.{arith}
use lib.Dec.{T, ltb}
use lib.ListN.{length, take, drop, length-take, length-append}
use lib.Seq.{sets, slice, sets-eq, take_at, drop_at}
use borrow.Author.Tests.{ltb-true, ltb-false, lt-ltb, le-ltb, ne_eqb}
use Rattle.tables.specs.Table.{any}
use Rattle.tables.specs.Stores.{sets_append}
use Rattle.std.specs.Prelude.{Option, None, Result, Err, ok_or}
use Rattle.dots.specs.declared.refusals.Refused.{Refused}
use Rattle.dots.specs.Answers.{number}
use Rattle.dots.proofs.AnswersFacts.{number_positive, err_answer}
use Rattle.clocks.specs.declared.VClock.{VClock}
use Rattle.clocks.specs.VClock.{dots_of}
use Rattle.replica.specs.Replica.{Wait, Replica}
use Rattle.replica.specs.Limits.{full, broken, well_formed}
use Rattle.layout.specs.Clock.{narrow}
use Rattle.layout.specs.Rows.{encode_rows, encode_waits}
use Rattle.layout.specs.Image.{rows_from, waits_from, length_of, encode}
use Rattle.layout.proofs.KitFacts.{length_encode_clock}
use Rattle.layout.proofs.Round.{length_encode}
use Rattle.layout.proofs.MainFacts.{at_most}
use Rattle.results.specs.declared.Draft.{Draft}
use Rattle.results.specs.Call.{Call, number_of, answered, answer_of, output_of, Meets}
use Rattle.results.specs.Finish.{start_of}
use Rattle.results.proofs.FinishLaws.{Drafted}
use Rattle.merging.specs.Waiting.{most_named}
use Rattle.merging.specs.Draft.{DraftOf}

over_either : (n x y : ℕ) → ltb n (max x y) ≡ (ltb n x || ltb n y)
over_either n x y = go (ltb n x) refl (ltb n y) refl
  where
    go : (b : Bool) → ltb n x ≡ b → (c : Bool) → ltb n y ≡ c → ltb n (max x y) ≡ (b || c)
    go true e c f = let h = ltb-true n x e in lt-ltb n (max x y) (omega arith)
    go false e true f = let h = ltb-true n y f in lt-ltb n (max x y) (omega arith)
    go false e false f = let h = ltb-false n x e in let k = ltb-false n y f in le-ltb n (max x y) (omega arith)

most_over : (n : ℕ) (ws : List Wait) → ltb n (most_named ws) ≡ any (λ w. ltb n (length w.members)) ws
unfolding most_named
most_over n [] = le-ltb n 0 (omega arith)
most_over n (w ∷ ws) = over_either n (length w.members) (most_named ws) ∙ ap (λ (b : Bool). ltb n (length w.members) || b) (most_over n ws)

slice_sets : (l xs : List ℕ) (p e : ℕ) → e ≡ p + length xs → e ≤ length l → slice p e (sets l p xs) ≡ xs
slice_sets l xs p e z h =
    let lp : length (take p l) ≡ p = simp length-take (omega arith) in
    let le : length (take p l ++ xs) ≡ e = simp (length-append, length-take) (omega arith) in
    ap (slice p e) (sets-eq xs l p (omega arith))
    ∙ ap (drop p) (take_at (take p l ++ xs) (drop (p + length xs) l) e le)
    ∙ drop_at (take p l) xs p lp

-- the body has 18,268 bytes, which is enough where the result is well-formed
pub result_drafted : (R : Replica) (v : VClock) (d : Draft) (out body : List ℕ) → dots_of v ≡ R.clock → v.len ≡ length R.clock → length out ≡ 18268 → (broken full R ≡ 0 → T (well_formed full R))
    → DraftOf R.entries R.waiting (start_of v) d out body → Drafted R v d body
unfolding length_of waits_from rows_from
result_drafted R v d out body clock long room well D =
    let c = length_encode_clock R.clock in
    let rows = encode_rows R.entries in
    let ws = encode_waits R.waiting in
    let m = D.middle in
    let e = D.end in
    record {
      clock = clock;
      long = long;
      entries = D.entries;
      waits = D.waits;
      most = D.most ∙ most_over 32 R.waiting;
      middle = omega arith;
      end = omega arith;
      body_is = λ z.
          let k = at_most R (well z) in
          let n = length_encode narrow R in
          let f : d.end ≡ start_of v + length (rows ++ ws) = rw length-append (omega arith) in
          ap (slice (start_of v) d.end) (D.bytes ∙ ap (λ (i : ℕ). sets (sets out (start_of v) rows) i ws) D.middle ∙ sym (sets_append out (start_of v) rows ws))
          ∙ slice_sets out (rows ++ ws) (start_of v) d.end f (omega arith);
    }

-- a call that refuses
pub refused_meets : (c : Call) (before : List ℕ) (f : Refused) → number_of full c (length before) ≡ number f → Meets full c before (Err f) before
unfolding answer_of output_of answered
refused_meets c before f e =
    let p = number_positive f in
    let q = ne_eqb (number f) 0 (λ z. omega arith) in
    record { answer = sym (rw e (err_answer f (length (encode c.result)))); output = rw (e, q) }

-- the refusal that stands for no value
pub unread : {A : Type 0} (o : Option A) (f : Refused) {r : Refused} → o ≡ None → Err r ≡ ok_or o f → r ≡ f
unread {A} o f {r} n e = let g : ◌≡◌ {A = Result A Refused} (Err r) (Err f) = rw n at e in cc
