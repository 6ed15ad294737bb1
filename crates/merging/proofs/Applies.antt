-- What a call that applies an operation answers, step by step.
use Prim.Native.Nat.{ℕ, ◌+◌, ◌*◌, ◌≤◌, ◌<◌, compare}
use mathlib.Core.Path.{◌≡◌, refl, sym, ap, ◌∙◌, subst}
use mathlib.Core.Bool.{Bool, true, false, false≢true}
use mathlib.Core.Option as math
use mathlib.Core.List.{List, [], ◌∷◌, map}
use native.Mathlib.Omega.{arith}
use Rattle.std.specs.Prelude.{Option, Some, None, Result, Ok, Err}
use Rattle.std.specs.declared.cmp.Ordering.{Ordering}
use Rattle.dots.specs.declared.refusals.Refused.{Refused}
use Rattle.dots.specs.declared.refusals.Refused.TheVariants.{BadImage, BadClock, LongList}
use Rattle.dots.specs.Answers.{answer, number}
use Rattle.dots.proofs.AnswersFacts.{number_positive, answered_ok, answered_err}
use Rattle.clocks.proofs.Answers.{is_fit, is_unfit, alone_fit}
use lib.Dec.{T, ltb, leb, le→leb, lt→ltb}
use lib.ListN.{length, take, replicate, length-take, length-replicate}
use lib.Seq.{sets}
use borrow.Author.Tests.{ltb-false, lt-ltb, le-ltb, le-leb, lt-leb}
use Rattle.tables.specs.Table.{Normal, Proper, Asc, pick, every, cons?, all_any, map_id}
use Rattle.tables.specs.Truth.{and_i}
use Rattle.tables.specs.Refusal.{first_of}
use Rattle.tables.specs.Zip.{Rise, by_lt}
use Rattle.dots.specs.declared.Dot.{Dot}
use Rattle.dots.specs.Dot.{dots, clocks, actor_of}
use Rattle.dots.specs.Calls.{Standing, means, means_named}
use Rattle.dots.specs.Clock.{Clock, normal, count, covers, applied}
use Rattle.dots.specs.ClockLaws.{proper_dot, normal_to, normal_empty}
use Rattle.dots.specs.Ruled.{applied_normal, applied_count, applied_empty}
use Rattle.clocks.specs.declared.VClock.{VClock}
use Rattle.clocks.specs.VClock.{dots_of, vclock, normalised, few, dots_normal, len_vclock, dots_vclock, vclock_normalised}
use Rattle.clocks.specs.Calls.{compare_call, clock_answer, get_call, apply_call as clockApply}
use Rattle.replica.specs.Replica.{Entry, Wait, Replica, member_sets}
use Rattle.replica.specs.Rules.{set_of, settle, add, remove}
use Rattle.replica.specs.Limits.{full, limits_of, broken, well_formed}
use Rattle.replica.specs.WellFormed.{sound}
use Rattle.replica.proofs.WellFormedFacts.{fine_sound}
use Rattle.replica.proofs.ListedFacts.{set_normal}
use Rattle.replica.proofs.AddLaws.{add_seen}
use Rattle.replica.proofs.RemoveLaws.{removed, remove_empty}
use Rattle.replica.specs.History.{Add, Remove, Apply, apply, step}
use Rattle.replica.specs.LimitLaws.{fits}
use Rattle.replica.proofs.LimitLaws.{step_well_formed}
use Rattle.layout.specs.Lists.{list_at}
use Rattle.layout.proofs.Form.{length_list_at}
use Rattle.layout.specs.Rows.{waits_at, wait_at_place, wait_end}
use Rattle.layout.specs.Image.{image_in, image_of, good_image, encode, waits_start_at, waits_count}
use Rattle.layout.proofs.Checks.{passed}
use Rattle.layout.proofs.MainFacts.{good_formed}
use Rattle.changing.specs.Kept.{Along, kept_entries}
use Rattle.changing.specs.KeptWaits.{kept_waits}
use Rattle.changing.specs.Brought.{remove_kept, add_kept}
use Rattle.changing.specs.Waits.{add_waits, remove_waits}
use Rattle.results.specs.declared.Draft.{Draft}
use Rattle.results.specs.Call.{finish_of, number_of, answer_of, output_of, Meets}
use Rattle.results.specs.Finish.{start_of, Finished}
use Rattle.results.proofs.FinishLaws.{finish_meets}
use Rattle.image.specs.declared.Image.{Image}
use Rattle.image.specs.Image.{image_of_bytes, check_image}
use Rattle.image.proofs.Link.{image_good, image_bad}
use Rattle.lists.specs.declared.Members.{Members}
use Rattle.lists.specs.Members.{members_of, list_of}
use Rattle.lists.specs.Gather.{listed_is, listed_few}
use Rattle.operations.specs.Calls.{operated, unfit_arguments, apply_call}
use Rattle.operations.specs.declared.Op.{Op as Operation}
use Rattle.operations.specs.declared.Op.TheVariants.{Add as AnAdd, Remove as ARemove}
use Rattle.merging.specs.Waiting.{Sound, WaitsReady}
use Rattle.merging.specs.Rowing.{Goes}
use Rattle.merging.specs.Draft.{Held, DraftOf}
use Rattle.merging.specs.Side.{side_of, SideReady, Brings}
use Rattle.merging.specs.Apply.{FinishedOf, granted}
use Rattle.merging.proofs.Link.{held_image, WaitsHeld, held_waits, none_waiting, waits_ready}
use Rattle.merging.proofs.AlongSteps.{goes_image, goes_brought}
use Rattle.merging.proofs.Results.{result_drafted, refused_meets}
use Rattle.merging.proofs.SideImage.{part_fits, part_is, part_counted}
use Rattle.merging.proofs.WaitSteps.{end_ge}

-- ---- the arguments

module _ (s : List ℕ) (op : Operation) (c : VClock) (ms before : List ℕ) where
  pub bad_image : None ≡ check_image s → Meets full (apply_call s op c ms) before (Err BadImage) before
  unfolding number_of apply_call unfit_arguments first_of
  bad_image g = refused_meets (apply_call s op c ms) before BadImage (rw (image_bad s g))

  module _ (x : Image) (cx : Some x ≡ check_image s) where
    pub bad_clock : normalised c ≡ false → Meets full (apply_call s op c ms) before (Err BadClock) before
    unfolding number_of apply_call unfit_arguments first_of
    bad_clock n = refused_meets (apply_call s op c ms) before BadClock (rw ((image_good s x cx).0, n))

    pub long_list : normalised c ≡ true → 64 < length ms → Meets full (apply_call s op c ms) before (Err LongList) before
    unfolding number_of apply_call unfit_arguments first_of
    long_list n l = refused_meets (apply_call s op c ms) before LongList (rw ((image_good s x cx).0, n, lt-ltb 64 (length ms) l))

    module _ (n : normalised c ≡ true) (l : length ms ≤ 64) (r : Result ℕ Refused) (after : List ℕ) where
      arguments_pass : Meets full (granted (operated op (dots_of c) ms (image_of s))) before r after → Meets full (apply_call s op c ms) before r after
      unfolding number_of answer_of output_of apply_call unfit_arguments first_of
      arguments_pass k = record {
        answer = k.answer ∙ rw ((image_good s x cx).0, n, le-ltb 64 (length ms) l);
        output = k.output ∙ rw ((image_good s x cx).0, n, le-ltb 64 (length ms) l);
      }

      pub add_passes : (d : Dot) → op ≡ AnAdd d → Meets full (granted (add d ms (image_of s))) before r after → Meets full (apply_call s op c ms) before r after
      unfolding operated
      add_passes d e k = arguments_pass (subst (λ (o : Operation). Meets full (granted (operated o (dots_of c) ms (image_of s))) before r after) (sym e) k)

      pub remove_passes : op ≡ ARemove → Meets full (granted (remove (dots_of c) ms (image_of s))) before r after → Meets full (apply_call s op c ms) before r after
      unfolding operated
      remove_passes e k = arguments_pass (subst (λ (o : Operation). Meets full (granted (operated o (dots_of c) ms (image_of s))) before r after) (sym e) k)

-- ---- "If V doesn't cover c, the remove waits"

module _ (v c : VClock) (nv : normalised v ≡ true) (nc : normalised c ≡ true) where
  both_normal : every normalised (v ∷ c ∷ []) ≡ true
  both_normal = rw (nv, nc)

  pub compare_granted : (f : Refused) → Err f ≡ compare_call v c → ⊥
  unfolding compare_call
  compare_granted f e = let p = (is_unfit _ _ e).0 in absurd (false≢true (sym p ∙ both_normal))

  pub waits_told : (o : Option Ordering) → Ok o ≡ compare_call v c → (l : ℕ) → l ≡ pick (means o).first_at_least 0 1 → l ≡ pick (covers (dots_of v) (dots_of c)) 0 1
  unfolding compare_call
  waits_told o e l h =
      h ∙ ap (λ (z : Standing). pick {A = ℕ} z.first_at_least 0 1) (ap means (is_fit _ _ e).1 ∙ means_named (covers (dots_of v) (dots_of c)) (covers (dots_of c) (dots_of v)))

pub waits_one : (b : Bool) (l : ℕ) → l ≡ pick b 0 1 → l ≤ 1
waits_one true l e = rw e (omega arith)
waits_one false l e = rw e (omega arith)

pub empty_clock : (v : VClock) → v ≡ vclock [] → (v.len ≤ 16) × Normal clocks (dots_of v) × (normalised v ≡ true)
empty_clock v e = rw e (omega (arith, len_vclock []), rw (dots_vclock [] (omega arith)) normal_empty, vclock_normalised [] (omega arith) normal_empty)

-- ---- a finished draft of a result

pub granted_meets : (R : Replica) (v : VClock) (es : List Entry) (ws : List Wait) (before : List ℕ) (r : Result ℕ Refused) (after : List ℕ) → dots_of v ≡ R.clock → v.len ≡ length R.clock
    → (broken full R ≡ 0 → T (well_formed full R)) → R.entries ≡ es → R.waiting ≡ ws → FinishedOf es ws v before r after → Meets full (granted R) before r after
unfolding number_of
granted_meets R v es ws before r after dots_are long well ee ew F =
    finish_meets (granted R) v F.draft F.body before r after (λ room. refl)
    (result_drafted R v F.draft F.clear F.body dots_are long F.room well (rw (ee, ew) F.drafted)) F.finished

-- ---- a replica that passed the check

-- its clock, as the check hands it out
pub record OwnClock (A : Replica) (v : VClock) : Type 0 where
  pub few_ok : v.len ≤ 16
  pub dots_are : dots_of v ≡ A.clock
  pub long : v.len ≡ length A.clock
  pub normal_ok : Normal clocks (dots_of v)
  pub right : normalised v ≡ true

own_clock : (A : Replica) (v : VClock) → length A.clock ≤ 16 → Normal clocks A.clock → v ≡ vclock A.clock → OwnClock A v
own_clock A v few normal e =
    let d = dots_vclock A.clock few in
    rw e (record { few_ok = omega (arith, len_vclock A.clock); dots_are = d; long = len_vclock A.clock; normal_ok = rw d normal; right = vclock_normalised A.clock few normal })

module _ (s : List ℕ) (x : Image) (cx : Some x ≡ check_image s) where
  abbrev A : Replica
  A = image_of s

  good : good_image s ≡ true
  good = (image_good s x cx).0

  told : x ≡ image_of_bytes s
  told = (image_good s x cx).1

  formed : T (well_formed full A)
  formed = good_formed s (rw good tt)

  well : T (sound A)
  well = fine_sound A (passed s good).fine

  pub clock_told : OwnClock A x.clock
  unfolding image_of_bytes
  clock_told = let P = (passed s good).formed in own_clock A x.clock P.actors_ok P.clock_ok (ap (λ (y : Image). y.clock) told)

  -- ---- beside what an operation brings

  module _ (c : VClock) (m : Members) (n : ℕ) (S : SideReady c m n) (side_len : length (encode (side_of c m n)) ≡ 36 + 20 * n + 12 * c.len + 4 * m.len) where
    abbrev B : Replica
    B = side_of c m n

    -- it fits a buffer of 1,584 bytes: 64 entries of 20, or a clock of 16 dots, and 64 members
    side_room : 36 + 20 * n + 12 * c.len + 4 * m.len ≤ 1584
    side_room = let a = S.within in let b = S.many in let d = S.few in by_lt 0 n (λ h. let o = S.one h in omega arith) (λ h. omega arith)

    module _ (out : List ℕ) (wrote : out ≡ sets (replicate 1584 0) 0 (encode B)) where
      room : 36 + 20 * n + 12 * c.len + 4 * m.len ≤ length {A = ℕ} (replicate 1584 0)
      room = rw (length-replicate {A = ℕ} 1584 0) side_room

      pub side_fits : 36 + 20 * n + 12 * c.len + 4 * m.len ≤ length out
      side_fits = part_fits _ (encode B) (replicate 1584 0) out side_len room wrote

      pub side_taken : take (36 + 20 * n + 12 * c.len + 4 * m.len) out ≡ encode B
      side_taken = part_is _ (encode B) (replicate 1584 0) out side_len room wrote

      pub side_counted : 36 + 20 * n + 12 * c.len + 4 * m.len ≡ length (take (36 + 20 * n + 12 * c.len + 4 * m.len) out)
      side_counted = part_counted _ (encode B) (replicate 1584 0) out side_len room wrote

    side_sound : Sound (record { clock = dots_of c; members = list_of m })
    side_sound = record {
      clock_ok = S.normal;
      members_ok = record { asc = rw map_id S.asc; proper = all_any (Proper member_sets) (list_of m) (λ k. refl) };
      few = let f = S.few in simp length-take (omega arith);
      named = let k = S.many in simp length-take (omega arith);
    }

    module _ (y : Image) (Y : Brings B (encode B) y) (l : ℕ) (one : l ≤ 1) where
      one_waits : waits_at (encode B) (waits_start_at (encode B)) (waits_count (encode B)) ≡ B.waiting
      unfolding image_in
      one_waits = ap (λ (R : Replica). R.waiting) Y.image

      one_there : waits_count (encode B) ≡ 1
      one_there = sym (length_list_at wait_at_place wait_end (encode B) (waits_start_at (encode B)) (waits_count (encode B))) ∙ ap length one_waits

      side_waits : WaitsHeld (encode B) (waits_start_at (encode B)) l
      side_waits = by_lt 0 l
          (λ h. let e : l ≡ waits_count (encode B) = let k = one_there in omega arith in
          rw e (record { few = let k = one_there in omega arith; rise = rw one_waits (tt, tt); all_sound = rw one_waits (side_sound, tt); edge = Y.edge; inside = Y.inside }))
          (λ h. let e : l ≡ 0 = omega arith in
          let k = end_ge (encode B) (waits_start_at (encode B)) (waits_count (encode B)) in let f = Y.edge in let g = Y.inside in
          rw e (none_waiting (encode B) (waits_start_at (encode B)) (omega arith) (omega arith)))

      waits_taken : waits_at (encode B) (waits_start_at (encode B)) l ≡ take l B.waiting
      unfolding list_at
      waits_taken = by_lt 0 l
          (λ h. let e : l ≡ 1 = omega arith in ap (waits_at (encode B) (waits_start_at (encode B))) (e ∙ sym one_there) ∙ one_waits ∙ sym (ap (λ (i : ℕ). take i B.waiting) e))
          (λ h. let e : l ≡ 0 = omega arith in rw e)

      module _ (b : List ℕ) (eb : b ≡ encode B) (v settled : VClock) (few_v : v.len ≤ 16) (normal_v : Normal clocks (dots_of v)) (few_settled : settled.len ≤ 16) (normal_settled : Normal clocks (dots_of settled)) where
        pub draft_ready : Along (dots_of v) A.clock → (0 < n → Along (dots_of v) (dots_of c)) → Held s x × Held b y × WaitsReady (dots_of settled) s (waits_start_at s) x.waits b (waits_start_at b) l × (v.len ≤ 16) × (settled.len ≤ 16) × Rise dots (dots_of v)
            × Goes (map (λ d. actor_of d) (dots_of v)) A.entries × Goes (map (λ d. actor_of d) (dots_of v)) (image_of b).entries × (good_image s ≡ true) × (x.waits ≡ waits_count s)
        unfolding image_of_bytes
        draft_ready av ac = rw (eb, Y.image) (
          held_image s x good told,
          Y.held,
          waits_ready (dots_of settled) s (waits_start_at s) x.waits (encode B) (waits_start_at (encode B)) l (held_waits s x good told) side_waits normal_settled,
          few_v,
          few_settled,
          normal_v.asc,
          goes_image (dots_of v) normal_v s good av,
          goes_brought (dots_of v) normal_v (dots_of c) (take n m.at) S.normal (λ h. ac (let k = length-take n m.at in omega arith)),
          good,
          ap (λ (z : Image). z.waits) told,
        )

        pub side_finished : (d : Draft) (out body before : List ℕ) (r : Result ℕ Refused) (after : List ℕ) → length out ≡ 18268
            → DraftOf (kept_entries (map (λ d. actor_of d) (dots_of v)) A (image_of b)) (kept_waits (dots_of settled) (waits_at s (waits_start_at s) x.waits) (waits_at b (waits_start_at b) l)) (start_of v) d out body
            → Finished v d body before r after → FinishedOf (kept_entries (map (λ d. actor_of d) (dots_of v)) A B) (kept_waits (dots_of settled) A.waiting (take l B.waiting)) v before r after
        unfolding image_in image_of_bytes
        side_finished d out body before r after room D f =
            let n : x.waits ≡ waits_count s = ap (λ (z : Image). z.waits) told in
            record { draft = d; clear = out; body = body; room = room; drafted = rw (eb, Y.image, waits_taken, n) at D; finished = f }

  -- ---- the listed members

  module _ (ms : List ℕ) (few_ms : length ms ≤ 64) (m : Members) (em : m ≡ members_of ms) where
    list_is : list_of m ≡ set_of ms
    list_is = ap list_of em ∙ listed_is ms few_ms

    list_few : m.len ≤ 64
    list_few = rw em (listed_few ms few_ms)

    list_asc : Asc compare (list_of m)
    list_asc = rw list_is (rw map_id at (set_normal ms).asc)

    -- ---- remove

    module _ (c : VClock) (nc : normalised c ≡ true) where
      pub remove_ready : SideReady c m 0
      remove_ready = record { within = omega arith; many = list_few; few = few c nc; one = λ h. absurd (omega arith); asc = list_asc; normal = dots_normal c nc }

      remove_formed : broken full (remove (dots_of c) ms A) ≡ 0 → T (well_formed full (remove (dots_of c) ms A))
      unfolding step fits apply
      remove_formed e = step_well_formed full (Apply (Remove (dots_of c) ms)) A
          (and_i (normal (dots_of c)) (leb (length (dots_of c)) 16) (normal_to (dots_of c) (dots_normal c nc)) (le→leb (length (dots_of c)) 16 (let f = few c nc in simp length-take (omega arith)))) formed e

      pub remove_meets : (v settled : VClock) (l : ℕ) (before : List ℕ) (r : Result ℕ Refused) (after : List ℕ) → v ≡ x.clock → settled ≡ vclock [] → l ≡ pick (covers (dots_of v) (dots_of c)) 0 1
          → FinishedOf (kept_entries (map (λ d. actor_of d) (dots_of v)) A (side_of c m 0)) (kept_waits (dots_of settled) A.waiting (take l (side_of c m 0).waiting)) v before r after
          → Meets full (granted (remove (dots_of c) ms A)) before r after
      remove_meets v settled l before r after ev es el F =
          let o = clock_told in
          let d : dots_of v ≡ A.clock = ap dots_of ev ∙ o.dots_are in
          granted_meets (remove (dots_of c) ms A) v (kept_entries (map (λ d. actor_of d) (dots_of v)) A (side_of c m 0)) (kept_waits (dots_of settled) A.waiting (take l (side_of c m 0).waiting)) before r after
          (d ∙ sym (removed_clock)) (ap (λ (w : VClock). w.len) ev ∙ o.long ∙ ap length (sym removed_clock)) remove_formed
          (rw (d, list_is) (remove_kept (dots_of c) ms A normal_c well))
          (rw (no_clock, el, d, list_is) (go (covers A.clock (dots_of c)) refl)) F
        where
          normal_c : T (normal (dots_of c))
          normal_c = normal_to (dots_of c) (dots_normal c nc)

          no_clock : dots_of settled ≡ []
          no_clock = ap dots_of es ∙ dots_vclock [] (omega arith)

          go : (b : Bool) → covers A.clock (dots_of c) ≡ b → (remove (dots_of c) ms A).waiting ≡ kept_waits [] A.waiting (take (pick b 0 1) (record { clock = dots_of c; members = set_of ms } ∷ []))
          go true e = remove_waits (dots_of c) ms A normal_c well true e
          go false e = remove_waits (dots_of c) ms A normal_c well false e

          removed_clock : (remove (dots_of c) ms A).clock ≡ A.clock
          removed_clock = (removed (dots_of c) ms A normal_c well).clock_is

    -- ---- add

    add_formed : (d : Dot) → broken full (add d ms A) ≡ 0 → T (well_formed full (add d ms A))
    unfolding step fits apply
    add_formed d e = step_well_formed full (Apply (Add d ms)) A tt formed e

    pub counter_granted : (d : Dot) (f : Refused) → Err f ≡ get_call x.clock (actor_of d) → ⊥
    unfolding get_call
    counter_granted d f e = let p = alone_fit x.clock false (is_unfit _ _ e).0 in let o = clock_told in false≢true (sym p ∙ o.right)

    module _ (d : Dot) (n : ℕ) (en : Ok n ≡ get_call x.clock (actor_of d)) where
      counter_is : n ≡ count A.clock (actor_of d)
      unfolding get_call
      counter_is = let o = clock_told in rw (sym o.dots_are) (is_fit _ _ en).1

      -- V covers the dot: nothing changes, as by a remove without a clock
      pub add_covered : d.counter ≤ n → (none : VClock) → none ≡ vclock [] → (before : List ℕ) (r : Result ℕ Refused) (after : List ℕ)
          → Meets full (granted (remove (dots_of none) ms A)) before r after → Meets full (granted (add d ms A)) before r after
      unfolding covers
      add_covered h none en before r after k =
          let l = counter_is in
          let seen : covers A.clock (d ∷ []) ≡ true = rw (le-leb d.counter (count A.clock (actor_of d)) (omega arith)) in
          subst (λ (R : Replica). Meets full (granted R) before r after)
          (ap (λ (c : VClock). remove (dots_of c) ms A) en ∙ ap (λ (c : Clock). remove c ms A) (dots_vclock [] (omega arith)) ∙ remove_empty ms A well ∙ sym (add_seen d ms A seen)) k

      module _ (above : n < d.counter) where
        new : covers A.clock (d ∷ []) ≡ false
        unfolding covers
        new = let l = counter_is in rw (lt-leb d.counter (count A.clock (actor_of d)) (omega arith))

        answer_is : clockApply x.clock d ≡ answer (pick (ltb 16 (length (applied A.clock d))) 6 0) (vclock (applied A.clock d))
        unfolding clockApply clock_answer first_of
        answer_is = let o = clock_told in rw (o.right, o.dots_are)

        added_clock : (add d ms A).clock ≡ applied A.clock d
        unfolding add settle
        added_clock = rw new

        -- "6: the result's clock would have over 16 actors"
        pub add_crowded : (f : Refused) → Err f ≡ clockApply x.clock d → (before : List ℕ) → Meets full (granted (add d ms A)) before (Err f) before
        unfolding first_of limits_of number_of
        add_crowded f z before = refused_meets (granted (add d ms A)) before f (go (ltb 16 (length (applied A.clock d))) refl (sym (z ∙ answer_is)))
          where
            go : (c : Bool) → ltb 16 (length (applied A.clock d)) ≡ c → answer (pick c 6 0) (vclock (applied A.clock d)) ≡ Err f → first_of (finish_of full (add d ms A) (length before)) ≡ number f
            go true e g = rw (added_clock, e) (answered_err 6 (vclock (applied A.clock d)) f (omega arith) g)
            go false e g = let p = number_positive f in let q = answered_err 0 (vclock (applied A.clock d)) f (omega arith) g in absurd (omega arith)

        dot_alone : applied [] d ≡ d ∷ []
        dot_alone = applied_empty d ∙ ap (λ (o : math.Option Dot). cons? o []) (proper_dot d (lt→ltb 0 d.counter (omega arith)))

        module _ (c : VClock) (ec : c ≡ vclock (applied [] d)) where
          one_dot : dots_of c ≡ d ∷ []
          one_dot = ap dots_of ec ∙ dots_vclock (applied [] d) (rw dot_alone (omega arith)) ∙ dot_alone

          one_long : c.len ≡ 1
          one_long = ap (λ (c : VClock). c.len) ec ∙ len_vclock (applied [] d) ∙ ap length dot_alone

          pub add_ready : SideReady c m m.len
          add_ready = record { within = omega arith; many = list_few; few = let l = one_long in omega arith; one = λ h. one_long; asc = list_asc; normal = rw one_dot (rw dot_alone at (applied_normal [] d)) }

          module _ (w : VClock) (ew : Ok w ≡ clockApply x.clock d) where
            -- the clock with the dot
            pub clock_added : OwnClock (add d ms A) w
            clock_added = go (ltb 16 (length (applied A.clock d))) refl (sym (ew ∙ answer_is))
              where
                go : (b : Bool) → ltb 16 (length (applied A.clock d)) ≡ b → answer (pick b 6 0) (vclock (applied A.clock d)) ≡ Ok w → OwnClock (add d ms A) w
                go true e g = let q = (answered_ok 6 (vclock (applied A.clock d)) w g).0 in absurd (omega arith)
                go false e g = own_clock (add d ms A) w (rw added_clock (ltb-false 16 (length (applied A.clock d)) e)) (rw added_clock (applied_normal A.clock d)) (sym (answered_ok 0 (vclock (applied A.clock d)) w g).1 ∙ ap vclock (sym added_clock))

            -- it counts all that the old one and the dot do
            pub added_along : Along (dots_of w) A.clock × Along (dots_of w) (dots_of c)
            added_along =
                let o = clock_added in
                rw (o.dots_are, added_clock, one_dot) (λ i z. let k = applied_count A.clock d i in omega arith, λ i z. let k = applied_count A.clock d i in omega arith)

            pub add_meets : (before : List ℕ) (r : Result ℕ Refused) (after : List ℕ)
                → FinishedOf (kept_entries (map (λ d. actor_of d) (dots_of w)) A (side_of c m m.len)) (kept_waits (dots_of w) A.waiting (take 0 (side_of c m m.len).waiting)) w before r after
                → Meets full (granted (add d ms A)) before r after
            add_meets before r after F =
                let o = clock_added in
                granted_meets (add d ms A) w (kept_entries (map (λ d. actor_of d) (dots_of w)) A (side_of c m m.len)) (kept_waits (dots_of w) A.waiting []) before r after
                o.dots_are o.long (add_formed d)
                (rw (o.dots_are, added_clock, one_dot, list_is) (add_kept d ms A well new)) (rw (o.dots_are, added_clock) (add_waits d ms A well new)) F
