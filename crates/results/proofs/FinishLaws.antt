-- A draft of a replica, finished, is that replica's call.
use Rattle.std.specs.Prelude.{Result, ℕ, ◌≤◌, Bool, eqb, length}
use Rattle.std.proofs.Math.Path.{◌≡◌, refl, ap₂}
use Rattle.std.proofs.Common.{sym, ap, ◌∙◌}
use Rattle.std.proofs.Math.Bool.{true, false}
use mathlib.Core.List.{List, ◌++◌}
use native.Mathlib.Omega.{arith}
use Rattle.std.proofs.Math.Dec.{ltb}
use Rattle.std.proofs.lemmas.List.Edits.{sets}
use Rattle.std.proofs.Math.Seq.{slice}
use borrow.Author.Tests.{eqb-true, le-ltb}
use Rattle.tables.specs.Table.{pick, any}
use Rattle.tables.specs.Refusal.{first_of}
use Rattle.clocks.specs.declared.VClock.{VClock}
use Rattle.clocks.specs.VClock.{dots_of}
use Rattle.replica.specs.Replica.{Replica}
use Rattle.replica.specs.Limits.{full, limits_of, broken}
use Rattle.layout.specs.Clock.{narrow, encode_clock}
use Rattle.layout.specs.Rows.{encode_rows, encode_waits}
use Rattle.layout.specs.Image.{contents, contents_of, rows_from, waits_from, length_of, encode_in, encode}
use Rattle.layout.proofs.Round.{length_encode}
use Rattle.layout.proofs.KitFacts.{length_encode_clock}
use Rattle.dots.specs.declared.refusals.Refused.{Refused}
use Rattle.results.specs.declared.Draft.{Draft}
use Rattle.results.specs.Call.{Call, finish_of, number_of, answered, answer_of, output_of, Meets}
use Rattle.results.specs.Finish.{start_of, draft_no, draft_bytes, Finished}

-- the clock, the counts and the body of a replica; the body may be cut where the replica breaks a limit
pub record Drafted (R : Replica) (v : VClock) (d : Draft) (body : List ℕ) : Type 0 where
  pub clock : dots_of v ≡ R.clock
  pub long : v.len ≡ length R.clock
  pub entries : d.entries ≡ length R.entries
  pub waits : d.waits ≡ length R.waiting
  pub most : ltb 32 d.most ≡ any (λ w. ltb 32 (length w.members)) R.waiting
  pub middle : d.middle ≡ waits_from narrow R
  pub end : d.end ≡ length_of narrow R
  pub body_is : broken full R ≡ 0 → slice (start_of v) d.end body ≡ encode_rows R.entries ++ encode_waits R.waiting

module _ (R : Replica) (v : VClock) (d : Draft) (body : List ℕ) (D : Drafted R v d body) where
  start_is : start_of v ≡ rows_from narrow R
  unfolding rows_from
  start_is = let e = length_encode_clock R.clock in let l = D.long in omega arith

  end_after : start_of v ≤ d.end
  unfolding length_of waits_from
  end_after = let s = start_is in let e = D.end in omega arith

  number_is : (room : ℕ) → draft_no v d room ≡ first_of (finish_of full R room)
  unfolding draft_no first_of limits_of
  number_is room = rw (D.most, le-ltb d.end (start_of v) end_after, D.long, D.entries, D.waits, D.end, length_encode narrow R)

  unbroken : (room : ℕ) → first_of (finish_of full R room) ≡ 0 → broken full R ≡ 0
  unfolding first_of limits_of broken
  unbroken room e = go (ltb 16 (length R.clock)) (ltb 64 (length R.entries)) (ltb 16 (length R.waiting)) (any (λ w. ltb 32 (length w.members)) R.waiting) (ltb room (length (encode R))) e
    where
      go : (a b c x y : Bool) → ◌≡◌ {A = ℕ} (pick a 6 (pick b 7 (pick c 8 (pick x 9 (pick y 10 0))))) 0 → ◌≡◌ {A = ℕ} (pick a 6 (pick b 7 (pick c 8 (pick x 9 0)))) 0
      go true b c x y e = e
      go false true c x y e = e
      go false false true x y e = e
      go false false false true y e = e
      go false false false false y e = refl

  bytes_are : broken full R ≡ 0 → draft_bytes v d body ≡ encode R
  unfolding draft_bytes encode_in contents_of
  bytes_are z =
      ap₂ ◌++◌
      (λ i. contents (D.end i) (start_is i) (D.entries i) (D.middle i) (D.waits i))
      (ap₂ ◌++◌ (ap encode_clock D.clock) (D.body_is z))

pub finish_meets : (c : Call) (v : VClock) (d : Draft) (body before : List ℕ) (r : Result ℕ Refused) (after : List ℕ)
    → ((room : ℕ) → number_of full c room ≡ first_of (finish_of full c.result room)) → Drafted c.result v d body → Finished v d body before r after → Meets full c before r after
unfolding answer_of output_of
finish_meets c v d body before r after e D f = record {
  answer = f.answer ∙ ap₂ answered same (D.end ∙ sym (length_encode narrow c.result));
  output = f.output ∙ ap (λ (n : ℕ). pick (eqb n 0) (sets before 0 (draft_bytes v d body)) before) same ∙ go (eqb (number_of full c (length before)) 0) refl;
}
  where
    same : draft_no v d (length before) ≡ number_of full c (length before)
    same = number_is c.result v d body D (length before) ∙ sym (e (length before))

    go : (b : Bool) → eqb (number_of full c (length before)) 0 ≡ b → pick b (sets before 0 (draft_bytes v d body)) before ≡ pick b (sets before 0 (encode c.result)) before
    go true z = ap (sets before 0) (bytes_are c.result v d body D (unbroken c.result v d body D (length before) (sym (e (length before)) ∙ eqb-true (number_of full c (length before)) 0 z)))
    go false z = refl
