-- How a draft is judged and written, case by case.
use Prim.Native.Nat.{ℕ, ◌+◌, ◌-◌, ◌≤◌, ◌<◌, min}
use mathlib.Core.Path.{◌≡◌, sym, ap, ◌∙◌}
use mathlib.Core.Bool.{false}
use mathlib.Core.List.{List, [], ◌++◌}
use native.Mathlib.Omega.{arith}
use native.Mathlib.Nat.{zero-add, add-suc}
use native.Mathlib.Numerals.{add-one}
use lib.Dec.{eqb}
use lib.ListN.{length, take, set, get_or, length-take, drop_of_length-le}
use lib.Seq.{sets, slice, drop-cons, get_or-take}
use borrow.Author.Tests.{lt-ltb, le-ltb}
use Rattle.tables.specs.Refusal.{first_of}
use Rattle.tables.specs.Stores.{sets_append}
use Rattle.tables.specs.Zip.{by_lt}
use Rattle.clocks.specs.declared.VClock.{VClock}
use Rattle.clocks.specs.VClock.{dots_of}
use Rattle.layout.specs.Image.{contents}
use Rattle.layout.specs.Clock.{encode_clock}
use Rattle.layout.proofs.Round.{length_contents}
use Rattle.layout.proofs.KitFacts.{length_encode_clock}
use Rattle.fields.proofs.Steps.{sets_past}
use Rattle.std.specs.Prelude.{Result, Ok}
use Rattle.dots.specs.declared.refusals.Refused.{Refused}
use Rattle.dots.specs.Answers.{answer}
use Rattle.results.specs.declared.Draft.{Draft}
use Rattle.results.specs.Call.{answered}
use Rattle.results.specs.Finish.{start_of, draft_no, draft_bytes, Finished}

module _ (v : VClock) (d : Draft) (room : ℕ) where
  pub number_6 : 16 < v.len → ◌≡◌ {A = ℕ} (draft_no v d room) 6
  unfolding draft_no first_of
  number_6 a = rw (lt-ltb 16 v.len a)

  module _ (a : v.len ≤ 16) where
    pub number_7 : 64 < d.entries → ◌≡◌ {A = ℕ} (draft_no v d room) 7
    unfolding draft_no first_of
    number_7 b = rw (le-ltb 16 v.len a, lt-ltb 64 d.entries b)

    module _ (b : d.entries ≤ 64) where
      pub number_8 : 16 < d.waits → ◌≡◌ {A = ℕ} (draft_no v d room) 8
      unfolding draft_no first_of
      number_8 c = rw (le-ltb 16 v.len a, le-ltb 64 d.entries b, lt-ltb 16 d.waits c)

      module _ (c : d.waits ≤ 16) where
        pub number_9 : 32 < d.most → ◌≡◌ {A = ℕ} (draft_no v d room) 9
        unfolding draft_no first_of
        number_9 e = rw (le-ltb 16 v.len a, le-ltb 64 d.entries b, le-ltb 16 d.waits c, lt-ltb 32 d.most e)

        module _ (e : d.most ≤ 32) where
          pub number_short : room < d.end → ◌≡◌ {A = ℕ} (draft_no v d room) 10
          unfolding draft_no first_of
          number_short f = rw (le-ltb 16 v.len a, le-ltb 64 d.entries b, le-ltb 16 d.waits c, le-ltb 32 d.most e, lt-ltb room d.end f)

          pub number_early : d.end ≤ room → d.end < start_of v → ◌≡◌ {A = ℕ} (draft_no v d room) 10
          unfolding draft_no first_of
          number_early f g = rw (le-ltb 16 v.len a, le-ltb 64 d.entries b, le-ltb 16 d.waits c, le-ltb 32 d.most e, le-ltb room d.end f, lt-ltb d.end (start_of v) g)

          pub number_none : d.end ≤ room → start_of v ≤ d.end → ◌≡◌ {A = ℕ} (draft_no v d room) 0
          unfolding draft_no first_of
          number_none f g = rw (le-ltb 16 v.len a, le-ltb 64 d.entries b, le-ltb 16 d.waits c, le-ltb 32 d.most e, le-ltb room d.end f, le-ltb d.end (start_of v) g)

module _ (v : VClock) (d : Draft) (body before : List ℕ) where
  pub refuses : (n : ℕ) (r : Result ℕ Refused) → draft_no v d (length before) ≡ n → eqb n 0 ≡ false → r ≡ answered n 0 → Finished v d body before r before
  unfolding answered answer
  refuses n r e z h = record { answer = h ∙ rw (e, z); output = rw (e, z) }

  pub grants : (end : ℕ) (o1 o2 o3 : List ℕ) → draft_no v d (length before) ≡ 0 → end ≡ d.end → length v.dots ≡ 16 → v.len ≤ 16
      → o1 ≡ sets before 0 (contents d.end (start_of v) d.entries d.middle d.waits) → o2 ≡ sets o1 24 (encode_clock (dots_of v))
      → o3 ≡ sets o2 (start_of v) (slice (start_of v) end body) → Finished v d body before (Ok end) o3
  unfolding answered answer draft_bytes
  grants end o1 o2 o3 e f g h p q r =
      let A = contents d.end (start_of v) d.entries d.middle d.waits in
      let B = encode_clock (dots_of v) in
      let C = slice (start_of v) d.end body in
      let la = length_contents d.end (start_of v) d.entries d.middle d.waits in
      let ld : length (dots_of v) ≡ v.len = simp length-take (omega arith) in
      let lb : 24 + length B ≡ start_of v = let k = length_encode_clock (dots_of v) in omega arith in
      let s : sets before 0 (A ++ (B ++ C)) ≡ sets (sets (sets before 0 A) 24 B) (start_of v) C =
      sets_append before 0 A (B ++ C) ∙ ap (λ (i : ℕ). sets (sets before 0 A) i (B ++ C)) (zero-add (length A) ∙ la)
      ∙ sets_append (sets before 0 A) 24 B C ∙ ap (λ (i : ℕ). sets (sets (sets before 0 A) 24 B) i C) lb in
      record {
        answer = rw (e, f);
        output = rw e (r ∙ rw (f, q, p) (sym s));
      }

-- ---- the copy

pub copy_on : (s out : List ℕ) (from end at i : ℕ) → from + i < end → from + i < length s
    → sets (set out (at + i) (get_or s (from + i) 0)) (at + (i + 1)) (slice (from + (i + 1)) end s) ≡ sets out (at + i) (slice (from + i) end s)
copy_on s out from end at i h k =
    let e = drop-cons (take end s) (from + i) 0 (simp length-take (omega arith)) in
    let f = get_or-take end s (from + i) 0 h in
    rw (add-one i, add-suc from i, add-suc at i, e, f)

-- nothing is left where the end is met, that of the bytes or that of the output
pub copy_end : (s out : List ℕ) (from end at i : ℕ) {n long : ℕ} → n ≡ min (min end (length s) - from) (long - at) → length out ≡ long → n ≤ i
    → out ≡ sets out (at + i) (slice (from + i) end s)
copy_end s out from end at i e l h =
    by_lt (at + i) (length out)
    (λ k. let e : slice (from + i) end s ≡ [] = drop_of_length-le (take end s) {i = from + i} (simp length-take (omega arith)) in rw e)
    (λ k. sym (sets_past out (at + i) (slice (from + i) end s) k))
