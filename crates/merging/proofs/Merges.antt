-- What the merge of two images answers, step by step.
use Prim.Native.Nat.{ℕ, ◌≤◌}
use mathlib.Core.Path.{◌≡◌, refl, sym, ap, ap₂, ◌∙◌}
use mathlib.Core.Bool.{Bool, true, false}
use mathlib.Core.List.{List, map}
use native.Mathlib.Omega.{arith}
use Rattle.std.specs.Prelude.{Some, None, Result, Ok, Err}
use Rattle.dots.specs.declared.refusals.Refused.{Refused}
use Rattle.dots.specs.declared.refusals.Refused.TheVariants.{BadImage, BadSecond}
use Rattle.dots.specs.Answers.{answer, number}
use Rattle.dots.proofs.AnswersFacts.{number_positive, answered_ok, answered_err}
use lib.Dec.{T, ltb}
use lib.ListN.{length}
use borrow.Author.Tests.{ltb-false}
use Rattle.tables.specs.Table.{Normal, pick}
use Rattle.tables.specs.Refusal.{first_of}
use Rattle.tables.specs.Zip.{Rise}
use Rattle.dots.specs.Dot.{dots, clocks, actor_of}
use Rattle.dots.specs.Clock.{Clock, merged}
use Rattle.dots.specs.ClockLaws.{merged_normal, merged_count}
use Rattle.clocks.specs.declared.VClock.{VClock}
use Rattle.clocks.specs.VClock.{dots_of, vclock, len_vclock, dots_vclock, vclock_normalised}
use Rattle.clocks.specs.Calls.{clock_answer, merge_call as clockMerge}
use Rattle.replica.specs.Rules.{settle, merge}
use Rattle.replica.specs.Limits.{full, limits_of, broken, well_formed}
use Rattle.replica.specs.History.{MergeWith, step}
use Rattle.replica.specs.LimitLaws.{fits}
use Rattle.replica.proofs.LimitLaws.{step_well_formed}
use Rattle.layout.specs.Rows.{waits_at}
use Rattle.layout.specs.Image.{image_in, image_of, good_image, waits_start_at, waits_count}
use Rattle.layout.proofs.Checks.{passed}
use Rattle.layout.proofs.MainFacts.{good_formed}
use Rattle.changing.specs.Kept.{kept_entries, entries_kept}
use Rattle.changing.specs.KeptWaits.{kept_waits, waits_kept}
use Rattle.results.specs.declared.Draft.{Draft}
use Rattle.results.specs.Call.{finish_of, number_of, Meets}
use Rattle.results.specs.Finish.{start_of, Finished}
use Rattle.results.proofs.FinishLaws.{Drafted, finish_meets}
use Rattle.image.specs.declared.Image.{Image}
use Rattle.image.specs.Image.{image_of_bytes, check_image}
use Rattle.image.proofs.Link.{image_good, image_bad}
use Rattle.merging.specs.Waiting.{WaitsReady}
use Rattle.merging.specs.Rowing.{Goes}
use Rattle.merging.specs.Draft.{Held, DraftOf}
use Rattle.merging.specs.Merge.{merge_call}
use Rattle.merging.proofs.Link.{held_image, held_waits, waits_ready}
use Rattle.merging.proofs.AlongSteps.{goes_image}
use Rattle.merging.proofs.Results.{result_drafted, refused_meets}

-- the clock of the merge, as the code has it
pub record MergedClock (a b : List ℕ) (v : VClock) : Type 0 where
  pub few : v.len ≤ 16
  pub dots_are : dots_of v ≡ merged (image_of a).clock (image_of b).clock
  pub long : v.len ≡ length (merged (image_of a).clock (image_of b).clock)
  pub normal : Normal clocks (dots_of v)

module _ (a b before : List ℕ) where
  pub first_bad : None ≡ check_image a → Meets full (merge_call a b) before (Err BadImage) before
  unfolding number_of merge_call first_of
  first_bad g = refused_meets (merge_call a b) before BadImage (rw (image_bad a g))

  pub second_bad : (x : Image) → Some x ≡ check_image a → None ≡ check_image b → Meets full (merge_call a b) before (Err BadSecond) before
  unfolding number_of merge_call first_of
  second_bad x g h = refused_meets (merge_call a b) before BadSecond (rw ((image_good a x g).0, image_bad b h))

-- two images that passed the check, and their clocks merged
module _ (a : List ℕ) (x : Image) (cx : Some x ≡ check_image a) (b : List ℕ) (y : Image) (cy : Some y ≡ check_image b) where
  ga : good_image a ≡ true
  ga = (image_good a x cx).0

  gb : good_image b ≡ true
  gb = (image_good b y cy).0

  ex : x ≡ image_of_bytes a
  ex = (image_good a x cx).1

  ey : y ≡ image_of_bytes b
  ey = (image_good b y cy).1

  abbrev both : Clock
  both = merged (image_of a).clock (image_of b).clock

  by_result : (room : ℕ) → number_of full (merge_call a b) room ≡ first_of (finish_of full (merge_call a b).result room)
  unfolding number_of merge_call first_of
  by_result room = rw (ga, gb)

  answer_is : clockMerge x.clock y.clock ≡ answer (pick (ltb 16 (length both)) 6 0) (vclock both)
  unfolding image_of_bytes clockMerge clock_answer first_of
  answer_is =
      let P = (passed a ga).formed in
      let Q = (passed b gb).formed in
      ap₂ clockMerge (ap (λ (z : Image). z.clock) ex) (ap (λ (z : Image). z.clock) ey)
      ∙ rw (vclock_normalised (image_of a).clock P.actors_ok P.clock_ok, vclock_normalised (image_of b).clock Q.actors_ok Q.clock_ok, dots_vclock (image_of a).clock P.actors_ok, dots_vclock (image_of b).clock Q.actors_ok)

  -- "6: the result's clock would have over 16 actors"
  pub clock_crowded : (f : Refused) → Err f ≡ clockMerge x.clock y.clock → (before : List ℕ) → Meets full (merge_call a b) before (Err f) before
  unfolding first_of limits_of merge_call merge settle
  clock_crowded f z before =
      refused_meets (merge_call a b) before f (by_result (length before) ∙ go (ltb 16 (length both)) refl (sym (z ∙ answer_is)))
    where
      go : (c : Bool) → ltb 16 (length both) ≡ c → answer (pick c 6 0) (vclock both) ≡ Err f → first_of (finish_of full (merge_call a b).result (length before)) ≡ number f
      go true e g = rw e (answered_err 6 (vclock both) f (omega arith) g)
      go false e g = let p = number_positive f in let q = answered_err 0 (vclock both) f (omega arith) g in absurd (omega arith)

  module _ (v : VClock) (z : Ok v ≡ clockMerge x.clock y.clock) where
    pub clock_merged : MergedClock a b v
    clock_merged = go (ltb 16 (length both)) refl (sym (z ∙ answer_is))
      where
        go : (c : Bool) → ltb 16 (length both) ≡ c → answer (pick c 6 0) (vclock both) ≡ Ok v → MergedClock a b v
        go true e g = let q = (answered_ok 6 (vclock both) v g).0 in absurd (omega arith)
        go false e g =
            let l = ltb-false 16 (length both) e in
            let n = len_vclock both in
            let d = dots_vclock both l in
            rw (sym (answered_ok 0 (vclock both) v g).1) (record { few = omega arith; dots_are = d; long = n; normal = rw d (merged_normal (image_of a).clock (image_of b).clock (passed b gb).formed.clock_ok) })

    -- what the draft is asked with
    pub merge_ready : Held a x × Held b y × WaitsReady (dots_of v) a (waits_start_at a) x.waits b (waits_start_at b) y.waits × (v.len ≤ 16) × (v.len ≤ 16) × Rise dots (dots_of v)
        × Goes (map (λ d. actor_of d) (dots_of v)) (image_of a).entries × Goes (map (λ d. actor_of d) (dots_of v)) (image_of b).entries × (good_image a ≡ true) × (x.waits ≡ waits_count a)
    unfolding image_of_bytes
    merge_ready =
        let c = clock_merged in
        let f = c.few in (
          held_image a x ga ex,
          held_image b y gb ey,
          waits_ready (dots_of v) a (waits_start_at a) x.waits b (waits_start_at b) y.waits (held_waits a x ga ex) (held_waits b y gb ey) c.normal,
          f,
          f,
          c.normal.asc,
          goes_image (dots_of v) c.normal a ga (rw c.dots_are (λ i z. let k = merged_count (image_of a).clock (image_of b).clock i in omega arith)),
          goes_image (dots_of v) c.normal b gb (rw c.dots_are (λ i z. let k = merged_count (image_of a).clock (image_of b).clock i in omega arith)),
          ga,
          ap (λ (z : Image). z.waits) ex,
        )

    granted_formed : broken full (merge (image_of a) (image_of b)) ≡ 0 → T (well_formed full (merge (image_of a) (image_of b)))
    unfolding step fits
    granted_formed e = step_well_formed full (MergeWith (image_of b)) (image_of a) (good_formed b (rw gb tt)) (good_formed a (rw ga tt)) e

    merge_drafted : (d : Draft) (out body : List ℕ) → length out ≡ 18268
        → DraftOf (kept_entries (map (λ d. actor_of d) (dots_of v)) (image_of a) (image_of b)) (kept_waits (dots_of v) (waits_at a (waits_start_at a) x.waits) (waits_at b (waits_start_at b) y.waits)) (start_of v) d out body
        → Drafted (merge_call a b).result v d body
    unfolding merge_call merge settle image_of_bytes image_in
    merge_drafted d out body room D =
        let A = image_of a in
        let B = image_of b in
        let c = clock_merged in
        let na : x.waits ≡ waits_count a = ap (λ (z : Image). z.waits) ex in
        let nb : y.waits ≡ waits_count b = ap (λ (z : Image). z.waits) ey in
        let p = (passed a ga).fine in
        let q = (passed b gb).fine in
        result_drafted (merge A B) v d out body c.dots_are c.long room granted_formed
        (rw (entries_kept A B p q, waits_kept A B p q) (rw (c.dots_are, na, nb) at D))

    pub merge_meets : (d : Draft) (out body before : List ℕ) (r : Result ℕ Refused) (after : List ℕ) → length out ≡ 18268
        → DraftOf (kept_entries (map (λ d. actor_of d) (dots_of v)) (image_of a) (image_of b)) (kept_waits (dots_of v) (waits_at a (waits_start_at a) x.waits) (waits_at b (waits_start_at b) y.waits)) (start_of v) d out body
        → Finished v d body before r after → Meets full (merge_call a b) before r after
    merge_meets d out body before r after room D f = finish_meets (merge_call a b) v d body before r after by_result (merge_drafted d out body room D) f
