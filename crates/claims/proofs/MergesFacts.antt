-- What is proved of specs/Merges.antt.
use Rattle.std.specs.Prelude.{ℕ, ◌<◌, ◌≡◌, refl, ◌↔◌, Bool, true, false, not, List, [], T, eqb, ltb, ◌≤◌, length}
use Rattle.std.proofs.Common.{sym, ap, ◌∙◌, arith}
use Rattle.std.proofs.lemmas.Bool.{false≢true}
use Rattle.tables.specs.Table.{pick, any}
use Rattle.tables.specs.Refusal.{NoneApplies, first_of}
use Rattle.tables.proofs.RefusalFacts.{first_right}
use Rattle.dots.specs.Rising.{true_from}
use Rattle.replica.specs.Replica.{Replica}
use Rattle.replica.specs.Rules.{merge}
use Rattle.replica.specs.WellFormed.{sound}
use Rattle.replica.specs.Limits.{full, limits_of, broken}
use Rattle.replica.proofs.LimitsFacts.{well_formed_from}
use Rattle.replica.specs.History.{Event, step}
use Rattle.layout.specs.Fields.{Bytes}
use Rattle.layout.specs.Image.{encode, image_of, good_image}
use Rattle.layout.proofs.MainFacts.{encode_good, good_formed}
use Rattle.std.specs.Prelude.{Result}
use Rattle.dots.specs.declared.refusals.Refused.{Refused}
use Rattle.dots.specs.Answers.{number_in, answer}
use Rattle.dots.proofs.AnswersFacts.{answer_ok, number_in_answer}
use Rattle.results.specs.Call.{Call, answered, Meets}
use Rattle.results.proofs.Laws.{argument_exactly}
use Rattle.merging.specs.Merge.{merge_call}
use Rattle.claims.specs.Granted.{WellFormed, Granted, Roomy, image, Does}
use Rattle.claims.proofs.GrantedFacts.{granted_well_formed, granted_says, granted_passes, in_hand}
use Rattle.claims.specs.Requests.{merge_with}
use Rattle.claims.proofs.RequestsFacts.{in_order, does, merge_judges, passed}
use Rattle.claims.specs.Merges.{Merges, Same, Outcome, Joined, side}

-- ---- one merge

pub well_formed_sound : {a : List ℕ} → WellFormed a → T (sound (image_of a))
well_formed_sound {a} w = (well_formed_from full (image_of a) (good_formed a w.good)).0

pub within_limits : {a : List ℕ} → WellFormed a → broken full (image_of a) ≡ 0
within_limits {a} w = (well_formed_from full (image_of a) (good_formed a w.good)).1

both_pass : (a b : List ℕ) → WellFormed a → WellFormed b → NoneApplies (merge_call a b).refusals
unfolding merge_call
both_pass a b v w = (ap not (true_from (good_image a) v.good), (ap not (true_from (good_image b) w.good), tt))

pub outcome : {a b before after : List ℕ} {r : Result ℕ Refused} → WellFormed a → WellFormed b → Roomy before → Merges a b before r after → Outcome (merge (image_of a) (image_of b)) r after
unfolding step
outcome {a} {b} v w room kept =
    let h = in_hand (does (merge_with b) a w.bytes) v.bytes kept (both_pass a b v w) room in
    record { answer_is = h.0; image_is = h.1 }

-- the same result is the same in hand
pub same : {M N : Replica} {r s : Result ℕ Refused} {p q : List ℕ} → M ≡ N → Outcome M r p → Outcome N s q → Same r p s q
same e m n = record {
  answers = m.answer_is ∙ ap (λ (A : Replica). answered (broken full A) (length (encode A))) e ∙ sym n.answer_is;
  bytes = m.image_is ∙ ap (λ (A : Replica). pick (eqb (broken full A) 0) (encode A) []) e ∙ sym n.image_is;
}

-- where the arguments pass and the output has room for any image: what is in hand is of the result
pub outcome_of : {c : Call} {a : List ℕ} {e : Event} (does : Does c a e) → Bytes a → {before after : List ℕ} {r : Result ℕ Refused} → Meets full c before r after → NoneApplies c.refusals → Roomy before
    → Outcome (step e (image_of a)) r after
outcome_of does bytes kept passed room = let h = in_hand does bytes kept passed room in record { answer_is = h.0; image_is = h.1 }

-- the limits are numbered 6 to 9
few_limits : (A : Replica) → broken full A ≤ 10
unfolding broken limits_of first_of
few_limits A = go (ltb 16 (length A.clock)) (ltb 64 (length A.entries)) (ltb 16 (length A.waiting)) (any (λ w. ltb 32 (length w.members)) A.waiting)
  where
    go : (a b c d : Bool) → pick a 6 (pick b 7 (pick c 8 (pick d 9 0))) ≤ 10
    go true b c d = omega arith
    go false true c d = omega arith
    go false false true d = omega arith
    go false false false true = omega arith
    go false false false false = omega arith

-- a result that breaks no limit is granted
pub unbroken : {M : Replica} {r : Result ℕ Refused} {after : List ℕ} → broken full M ≡ 0 → Outcome M r after → Granted r
unfolding answered
unbroken {M} z o = ap number_in o.answer_is ∙ ap (λ (n : ℕ). number_in (answer n (length (encode M)))) z ∙ ap number_in (answer_ok (length (encode M)))

-- the number that is given is the limit's
pub numbered : {M : Replica} {r : Result ℕ Refused} {after : List ℕ} → Outcome M r after → number_in r ≡ broken full M
unfolding answered
numbered {M} o = ap number_in o.answer_is ∙ number_in_answer (broken full M) (length (encode M)) (few_limits M)

-- a result that is a well-formed image's replica is granted, and the bytes are that image's
pub unmoved : {a : List ℕ} {M : Replica} {r : Result ℕ Refused} {after : List ℕ} → WellFormed a → M ≡ image_of a → Outcome M r after → Granted r × (image r after ≡ a)
unmoved {a} {M} w e o =
    let z : broken full M ≡ 0 = ap (broken full) e ∙ within_limits w in
    (unbroken z o, o.image_is ∙ rw (z, e) (encode_good a w.bytes w.good))

-- two images of the same replica are the same
pub same_image : {a b : List ℕ} → WellFormed a → WellFormed b → image_of a ≡ image_of b → a ≡ b
same_image {a} {b} v w e = sym (encode_good a v.bytes v.good) ∙ ap encode e ∙ encode_good b w.bytes w.good

-- a granted merge of bytes hands on a well-formed image of the merge
module _ (a b : List ℕ) {before after : List ℕ} {r : Result ℕ Refused} (v : WellFormed a) (w : WellFormed b) (kept : Merges a b before r after) (done : Granted r) where
  pub merged_formed : WellFormed (image r after)
  merged_formed = granted_well_formed (does (merge_with b) a w.bytes) v.bytes kept done

  pub merged_says : image_of (image r after) ≡ merge (image_of a) (image_of b)
  unfolding step
  merged_says = granted_says (does (merge_with b) a w.bytes) v.bytes kept done

pub joined : (a b : List ℕ) {before after : List ℕ} {r : Result ℕ Refused} → Bytes a → Bytes b → Merges a b before r after → Granted r → Joined a b (image r after)
unfolding step
joined a b p q kept done =
    let d = does (merge_with b) a q in
    let n = rw (merge_judges a b) at (granted_passes d p kept done) in
    record {
      first_formed = record { bytes = p; good = passed (good_image a) n.0 };
      second_formed = record { bytes = q; good = passed (good_image b) n.1.0 };
      is_formed = granted_well_formed d p kept done;
      says = granted_says d p kept done;
    }

side_one : (x y : Bool) → (side x y ≡ 1) ↔ (x ≡ false)
side_one false y = (λ z. refl, λ z. refl)
side_one true false = (λ z. absurd (omega arith), λ z. absurd (false≢true (sym z)))
side_one true true = (λ z. absurd (omega arith), λ z. absurd (false≢true (sym z)))

side_two : (x y : Bool) → (side x y ≡ 2) ↔ ((x ≡ true) × (y ≡ false))
side_two false y = (λ z. absurd (omega arith), λ z. absurd (false≢true z.0))
side_two true false = (λ z. (refl, refl), λ z. refl)
side_two true true = (λ z. absurd (omega arith), λ z. absurd (false≢true (sym z.1)))

module _ (a b : List ℕ) {before after : List ℕ} {r : Result ℕ Refused} (kept : Merges a b before r after) where
  by_side : (k : ℕ) → 0 < k → k < 6 → (number_in r ≡ k) ↔ (side (good_image a) (good_image b) ≡ k)
  unfolding merge_call first_of
  by_side k p q =
      let e = argument_exactly full (merge_call a b) before r after kept (in_order (merge_with b) a) k p q in
      let f = first_right (merge_call a b).refusals k p in
      (λ z. f.1 (e.0 z), λ z. e.1 (f.0 z))

  pub first_side : (number_in r ≡ 1) ↔ (good_image a ≡ false)
  first_side = let e = by_side 1 (omega arith) (omega arith) in let f = side_one (good_image a) (good_image b) in (λ z. f.0 (e.0 z), λ z. e.1 (f.1 z))

  pub second_side : (number_in r ≡ 2) ↔ ((good_image a ≡ true) × (good_image b ≡ false))
  second_side = let e = by_side 2 (omega arith) (omega arith) in let f = side_two (good_image a) (good_image b) in (λ z. f.0 (e.0 z), λ z. e.1 (f.1 z))
