-- What is proved of specs/Granted.antt.
use Prim.Native.Nat.{ℕ, zero, suc}
use Rattle.std.specs.Prelude.{◌≡◌, refl, false, T, eqb, ltb, length}
use Rattle.std.proofs.Math.Path.{ap, ap₂}
use Rattle.std.proofs.Common.{sym, ◌∙◌, arith, le-ltb}
use mathlib.Core.List.{List, [], ◌∷◌, ◌++◌}
use Rattle.std.proofs.Math.Dec.{eqb-suc-zero}
use Rattle.tables.specs.Table.{pick}
use Rattle.tables.specs.Refusal.{Refusal, ◌if◌, first_of, NoneApplies}
use Rattle.tables.proofs.RefusalFacts.{first_append}
use Rattle.replica.specs.Replica.{Replica}
use Rattle.replica.specs.Limits.{Limits, full, limits_of, broken, well_formed}
use Rattle.replica.proofs.LimitsFacts.{unbroken_right}
use Rattle.replica.specs.History.{Event, step}
use Rattle.replica.proofs.LimitLaws.{step_well_formed}
use Rattle.layout.specs.Fields.{Bytes}
use Rattle.layout.specs.Clock.{narrow}
use Rattle.layout.specs.Image.{encode, image_of}
use Rattle.layout.specs.Fits.{Fits}
use Rattle.layout.proofs.Parts.{sound_narrow}
use Rattle.layout.proofs.Round.{bytes_encode}
use Rattle.layout.proofs.MainFacts.{at_most, good_encode, image_encode, good_formed, good_fits}
use Rattle.std.specs.Prelude.{Result}
use Rattle.dots.specs.declared.refusals.Refused.{Refused}
use Rattle.dots.specs.Answers.{number_in, answer}
use Rattle.dots.proofs.AnswersFacts.{answer_ok, answer_done}
use Rattle.results.specs.Call.{Call, finish_of, number_of, answered, answer_of, Meets}
use Rattle.results.proofs.Laws.{done_exactly, refused_keeps, granted_writes}
use Rattle.claims.proofs.FittingFacts.{step_fits}
use Rattle.claims.specs.Granted.{WellFormed, Granted, Roomy, image, Fit, Does}

-- refusals that don't apply are passed over; and of a result with room, where the limits grant it, the limits decide
skip : (xs ys : List Refusal) → NoneApplies xs → first_of (xs ++ ys) ≡ first_of ys
unfolding first_of
skip [] ys h = refl
skip (x ∷ xs) ys h = rw h.0 (skip xs ys h.1)

finish : (l : Limits) (A : Replica) (room : ℕ) → (broken l A ≡ 0 → ltb room (length (encode A)) ≡ false) → first_of (finish_of l A room) ≡ broken l A
unfolding broken limits_of first_of
finish l A room h = first_append (limits_of l A) (10 if ltb room (length (encode A)) ∷ []) (omega arith, (omega arith, (omega arith, (omega arith, tt)))) ∙ go (broken l A) refl
  where
    go : (n : ℕ) → broken l A ≡ n → pick (eqb n 0) (pick (ltb room (length (encode A))) 10 0) n ≡ n
    go zero e = rw (h e)
    go (suc n) e = rw (eqb-suc-zero n)

-- the image of a well-formed replica whose numbers fit
well_formed_encode : (A : Replica) → T (well_formed full A) → Fits A → WellFormed (encode A)
well_formed_encode A w f = record { bytes = bytes_encode narrow sound_narrow A; good = good_encode A w f }

module _ {c : Call} {a : List ℕ} {e : Event} (does : Does c a e) (bytes : Bytes a) where
  abbrev M : Replica
  M = step e (image_of a)

  -- where the arguments pass and no limit is broken, the result is well-formed and its numbers fit
  result_formed : NoneApplies c.refusals → broken full M ≡ 0 → T (well_formed full M) × Fits M
  result_formed n b =
      let p = does.passes n in
      (step_well_formed full e (image_of a) p.event_fits (good_formed a p.image_good) b, step_fits e (image_of a) p.numbers_fit (good_fits a bytes p.image_good))

  module _ {before after : List ℕ} {r : Result ℕ Refused} (kept : Meets full c before r after) where
    unrefused : Granted r → NoneApplies c.refusals × (broken full M ≡ 0)
    unrefused g =
        let d = (done_exactly full c before r after kept does.orderly).0 g in
        (d.0, (unbroken_right full M).1 (rw does.result_is at d.1))

    pub granted_fit : Granted r → Fit a e
    granted_fit g = does.passes (unrefused g).0

    pub written : Granted r → image r after ≡ encode M
    written g = (granted_writes full c before r after kept does.orderly g).image_is ∙ ap encode does.result_is

    pub granted_well_formed : Granted r → WellFormed (image r after)
    granted_well_formed g =
        let u = unrefused g in
        let f = result_formed u.0 u.1 in
        rw (written g) (well_formed_encode M f.0 f.1)

    pub granted_says : Granted r → image_of (image r after) ≡ M
    granted_says g =
        let u = unrefused g in
        let f = result_formed u.0 u.1 in
        ap image_of (written g) ∙ image_encode M f.0 f.1

    -- what isn't refused of the arguments
    pub granted_passes : Granted r → NoneApplies c.refusals
    granted_passes g = (unrefused g).0

    -- where the arguments pass and the output has room for any image, the limits alone decide: in hand is the image of the result, or one of 6 to 9
    module _ (passed : NoneApplies c.refusals) (roomy : Roomy before) where
      room : broken full M ≡ 0 → ltb (length before) (length (encode M)) ≡ false
      room b = le-ltb (length before) (length (encode M)) (let h = at_most M (result_formed passed b).0 in omega arith)

      number : number_of full c (length before) ≡ broken full M
      unfolding number_of
      number = skip c.refusals (finish_of full c.result (length before)) passed ∙ ap (λ (A : Replica). first_of (finish_of full A (length before))) does.result_is ∙ finish full M (length before) room

      answer_known : r ≡ answer (broken full M) (length (encode M))
      unfolding answer_of answered
      answer_known = kept.answer ∙ ap₂ (λ (n : ℕ) (A : Replica). answer n (length (encode A))) number does.result_is

      pub in_hand : (r ≡ answered (broken full M) (length (encode M))) × (image r after ≡ pick (eqb (broken full M) 0) (encode M) [])
      unfolding answered
      in_hand = (answer_known, go (broken full M) refl)
        where
          go : (n : ℕ) → broken full M ≡ n → image r after ≡ pick (eqb n 0) (encode M) []
          go zero e = written (ap number_in answer_known ∙ ap (λ (n : ℕ). number_in (answer n (length (encode M)))) e ∙ ap number_in (answer_ok (length (encode M))))
          go (suc n) e = rw (eqb-suc-zero n, (refused_keeps full c before r after kept (λ z. let k = answer_done (broken full M) (length (encode M)) (sym (ap number_in answer_known) ∙ z) in omega arith)).1)
