-- Operations on images, made before a merge or after it, made again, and in either order: the rules on replicas decide.
use Rattle.std.specs.Prelude.{ℕ, ◌≡◌, List, T}
use Rattle.std.proofs.Common.{sym, ap, ◌∙◌}
use Rattle.std.proofs.Math.Bool.{not}
use Rattle.tables.specs.Refusal.{NoneApplies}
use Rattle.dots.specs.Clock.{normal}
use Rattle.dots.specs.Rising.{true_from}
use Rattle.clocks.specs.declared.VClock.{VClock}
use Rattle.clocks.specs.VClock.{dots_of}
use Rattle.replica.specs.Replica.{Replica}
use Rattle.replica.specs.Rules.{merge}
use Rattle.replica.specs.WellFormed.{sound}
use Rattle.replica.specs.History.{step}
use Rattle.replica.specs.HistoryLaws.{fair}
use Rattle.layout.specs.Fields.{Bytes}
use Rattle.layout.specs.Image.{image_of, good_image}
use Rattle.std.specs.Prelude.{Result}
use Rattle.dots.specs.declared.refusals.Refused.{Refused}
use Rattle.operations.specs.declared.Op.{Op}
use Rattle.operations.specs.declared.Op.TheVariants.{Remove}
use Rattle.operations.specs.Calls.{unfit_arguments, apply_call}
use Rattle.claims.specs.Granted.{WellFormed, Granted, Roomy, image}
use Rattle.claims.proofs.GrantedFacts.{granted_fit, granted_well_formed, granted_says, granted_passes}
use Rattle.claims.specs.Requests.{apply_op, call_on, event_of, Lent}
use Rattle.claims.proofs.RequestsFacts.{does}
use Rattle.claims.specs.Merges.{Merges, Same, Outcome}
use Rattle.claims.proofs.MergesFacts.{well_formed_sound, outcome, outcome_of, same, unmoved, joined}
use Rattle.claims.specs.Histories.{Answers}

module _ (op : Op) (c : VClock) (ms : List ℕ) (lent : Lent (apply_op op c ms)) where
  abbrev after_rule : Replica → Replica
  after_rule = step (event_of (apply_op op c ms))

  -- an operation that was granted on one image of bytes
  module _ (a : List ℕ) {x y : List ℕ} {r : Result ℕ Refused} (bytes : Bytes a) (kept : Answers (apply_op op c ms) a x r y) (done : Granted r) where
    pub was_formed : WellFormed a
    was_formed = record { bytes = bytes; good = (granted_fit (does (apply_op op c ms) a lent) bytes kept done).image_good }

    pub made_formed : WellFormed (image r y)
    made_formed = granted_well_formed (does (apply_op op c ms) a lent) bytes kept done

    pub made_says : image_of (image r y) ≡ after_rule (image_of a)
    made_says = granted_says (does (apply_op op c ms) a lent) bytes kept done

    -- what is judged of its arguments beside the image passes on another too
    passes_too : (b : List ℕ) → WellFormed b → NoneApplies (call_on (apply_op op c ms) b).refusals
    unfolding apply_call unfit_arguments
    passes_too b w = (ap not (true_from (good_image b) w.good), (granted_passes (does (apply_op op c ms) a lent) bytes kept done).1)

    -- so there the limits alone decide
    pub outcome_too : (b : List ℕ) {x' y' : List ℕ} {s : Result ℕ Refused} → WellFormed b → Roomy x' → Answers (apply_op op c ms) b x' s y' → Outcome (after_rule (image_of b)) s y'
    outcome_too b w room again = outcome_of (does (apply_op op c ms) b lent) w.bytes again (passes_too b w) room

    -- made again on what it made
    pub made_again : {x' y' : List ℕ} {s : Result ℕ Refused} → after_rule (after_rule (image_of a)) ≡ after_rule (image_of a) → Roomy x' → Answers (apply_op op c ms) (image r y) x' s y'
        → Granted s × (image s y' ≡ image r y)
    made_again law room again = unmoved made_formed (ap after_rule made_says ∙ law ∙ sym made_says) (outcome_too (image r y) made_formed room again)

    -- before the merge with another image, or after it
    pub made_anywhere : (b : List ℕ) {x₂ x₃ x₄ y₂ y₃ y₄ : List ℕ} {r₂ r₃ r₄ : Result ℕ Refused}
        → (T (sound (image_of b)) → after_rule (merge (image_of a) (image_of b)) ≡ merge (after_rule (image_of a)) (image_of b))
        → Bytes b → Merges a b x₂ r₂ y₂ → Granted r₂ → Roomy x₃ → Merges (image r y) b x₃ r₃ y₃ → Roomy x₄ → Answers (apply_op op c ms) (image r₂ y₂) x₄ r₄ y₄ → Same r₃ y₃ r₄ y₄
    made_anywhere b {y₂ = y₂} {r₂ = r₂} law other m g room₃ first room₄ last =
        let j = joined a b bytes other m g in
        same
        (ap (λ (A : Replica). merge A (image_of b)) made_says ∙ sym (law (well_formed_sound j.second_formed)) ∙ ap after_rule (sym j.says))
        (outcome made_formed j.second_formed room₃ first) (outcome_too (image r₂ y₂) j.is_formed room₄ last)

-- two operations, one after the other and the other way round
module _ (o : Op) (c : VClock) (ms : List ℕ) (p : Op) (d : VClock) (ns : List ℕ) (a : List ℕ) {x₁ x₂ x₃ x₄ y₁ y₂ y₃ y₄ : List ℕ} {r₁ r₂ r₃ r₄ : Result ℕ Refused} where
  pub either_order : (k : Lent (apply_op o c ms)) (l : Lent (apply_op p d ns)) → Bytes a
      → after_rule p d ns l (after_rule o c ms k (image_of a)) ≡ after_rule o c ms k (after_rule p d ns l (image_of a))
      → Answers (apply_op o c ms) a x₁ r₁ y₁ → Granted r₁ → Answers (apply_op p d ns) a x₂ r₂ y₂ → Granted r₂
      → Roomy x₃ → Answers (apply_op p d ns) (image r₁ y₁) x₃ r₃ y₃ → Roomy x₄ → Answers (apply_op o c ms) (image r₂ y₂) x₄ r₄ y₄ → Same r₃ y₃ r₄ y₄
  either_order k l bytes law one g two h room₃ then_two room₄ then_one = same
      (ap (after_rule p d ns l) (made_says o c ms k a bytes one g) ∙ law ∙ ap (after_rule o c ms k) (sym (made_says p d ns l a bytes two h)))
      (outcome_too p d ns l a bytes two h (image r₁ y₁) (made_formed o c ms k a bytes one g) room₃ then_two)
      (outcome_too o c ms k a bytes one g (image r₂ y₂) (made_formed p d ns l a bytes two h) room₄ then_one)

-- a remove that was granted has a normalised clock
pub clock_normal : (a : List ℕ) (c : VClock) (ms : List ℕ) {x y : List ℕ} {r : Result ℕ Refused} → Bytes a → Lent (apply_op Remove c ms) → Answers (apply_op Remove c ms) a x r y → Granted r → T (normal (dots_of c))
unfolding fair
clock_normal a c ms bytes lent kept done = (granted_fit (does (apply_op Remove c ms) a lent) bytes kept done).event_fair
