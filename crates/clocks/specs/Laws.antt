-- What the promises of the calls on clocks give: one answer each, normalised results, the counters of each result, the laws of merging,
-- what a comparison says, and the marked cases 1 to 4.
use Rattle.std.specs.Prelude.{ℕ, zero, suc, ◌≤◌, max, min, ◌≡◌, refl, Bool, true, false, not, length, Option, Some, None, Result, Ok, Err, ⊤}
use Rattle.std.specs.declared.cmp.Ordering.{Ordering}
use Rattle.std.specs.declared.cmp.Ordering.TheVariants.{Greater}
use Rattle.std.proofs.Common.{sym, ◌∙◌, length-take, ltb-false, le-ltb}
use Rattle.std.proofs.Math.Path.{ap}
use Rattle.std.proofs.lemmas.Bool.{false≢true}
use mathlib.Core.List.{[], ◌∷◌}
use native.Mathlib.Omega.{arith}
use Rattle.tables.specs.Table.{Normal, every}
use Rattle.tables.specs.Ascending.{ascending, before}
use Rattle.tables.specs.Zip.{zip}
use Rattle.tables.specs.Refusal.{first_of}
use Rattle.tables.proofs.RefusalFacts.{done_right}
use Rattle.dots.specs.declared.Dot.{Dot}
use Rattle.dots.specs.declared.refusals.Refused.{Refused}
use Rattle.dots.specs.declared.refusals.Refused.TheVariants.{ManyActors}
use Rattle.dots.specs.declared.refusals.OpRefused.{OpRefused}
use Rattle.dots.specs.Answers.{answer, refusal}
use Rattle.dots.proofs.AnswersFacts.{answer_ok, answer_err, answered_ok}
use Rattle.dots.specs.Dot.{actor_of, clocks, dot}
use Rattle.dots.specs.Calls.{standing, named, means_named}
use Rattle.dots.specs.Clock.{Clock, count, normal, covers, merged, applied, reset_by, intersection, glb}
use Rattle.dots.specs.ClockLaws.{clock_ext, merged_count, merged_normal, reset_count, reset_normal}
use Rattle.dots.specs.ClockOrder.{merged_comm, merged_assoc, merged_self, SaysOf, compared_says}
use Rattle.dots.specs.Ruled.{same, beyond, applied_normal, applied_count, applied_covered, glb_normal, glb_count, glb_length, intersection_normal, intersection_count, intersection_length, reset_length}
use Rattle.places.specs.Places.{unused}
use Rattle.clocks.specs.declared.VClock.{VClock}
use Rattle.clocks.specs.VClock.{same_dots, dots_of, vclock, normalised, each, swapped, few, dots_normal, dots_vclock, vclock_dots, vclock_normalised}
use Rattle.clocks.specs.Calls.{unfit, crowded, judged, clock_answer, apply_call, merge_call, reset_call, intersection_call, glb_call, compare_call}

-- ---- one answer: any two answers that a promise allows are equal

-- the promise `r ≡ call`
pub one : {A : Type 0} (r s call : A) → r ≡ call → s ≡ call → r ≡ s
one r s call p q = p ∙ sym q

pub one_comparison : (r s call : Result (Option Ordering) Refused) → r ≡ call → s ≡ call → r ≡ s
one_comparison = one

pub one_validation : (r s call : Result ⊤ OpRefused) → r ≡ call → s ≡ call → r ≡ s
one_validation = one

pub one_nth : (r s call : Result (Option Dot) Refused) → r ≡ call → s ≡ call → r ≡ s
one_nth = one

-- ---- a granted answer has the dots of the operation, and is normalised

pub record Granted (k : VClock) (c : Clock) : Type 0 where
  pub dots_are : dots_of k ≡ c
  pub is_normalised : normalised k ≡ true

granted_as : (n : ℕ) (c : Clock) {k : VClock} → clock_answer n c ≡ Ok k → Normal clocks c → length c ≤ 16 → Granted k c
unfolding clock_answer
granted_as n c {k} e nc l = let is = (answered_ok n (vclock c) k e).1 in rw (← is) (record { dots_are = dots_vclock c l; is_normalised = vclock_normalised c l nc })

-- the number of a granted answer
none_of : (n : ℕ) (c : Clock) {k : VClock} → clock_answer n c ≡ Ok k → n ≡ 0
unfolding clock_answer
none_of n c {k} e = (answered_ok n (vclock c) k e).0

not_false : (b : Bool) → not b ≡ false → b ≡ true
not_false true e = refl
not_false false e = sym e

fits : (c : VClock) → normalised c ≡ true → length (dots_of c) ≤ 16
fits c n = let f = few c n in simp length-take (omega arith)

-- what the number 0 says of two clocks, and of a result that is judged
module _ (a b : VClock) where
  fit : first_of (unfit (a ∷ b ∷ []) ∷ []) ≡ 0 → (normalised a ≡ true) × (normalised b ≡ true)
  fit e = each a b (not_false (every normalised (a ∷ b ∷ [])) ((done_right (unfit (a ∷ b ∷ []) ∷ []) (omega arith, tt)).0 e).0)

  pub merge_fit : {k : VClock} → merge_call a b ≡ Ok k → (normalised a ≡ true) × (normalised b ≡ true)
  unfolding merge_call
  merge_fit e =
      let rs = unfit (a ∷ b ∷ []) ∷ crowded (merged (dots_of a) (dots_of b)) ∷ [] in
      let g = (done_right rs (omega arith, (omega arith, tt))).0 (none_of _ _ e) in
      each a b (not_false (every normalised (a ∷ b ∷ [])) g.0)

  pub merge_granted : {k : VClock} → merge_call a b ≡ Ok k → Granted k (merged (dots_of a) (dots_of b))
  unfolding merge_call
  merge_granted e =
      let m = merged (dots_of a) (dots_of b) in
      let rs = unfit (a ∷ b ∷ []) ∷ crowded m ∷ [] in
      let g = (done_right rs (omega arith, (omega arith, tt))).0 (none_of _ _ e) in
      granted_as (first_of rs) m e (merged_normal (dots_of a) (dots_of b) (dots_normal b (merge_fit e).1)) (ltb-false 16 (length m) g.1.0)

  -- what only drops dots of the first always fits
  dropping : (op : Clock → Clock → Clock) → (Normal clocks (dots_of a) → Normal clocks (dots_of b) → Normal clocks (op (dots_of a) (dots_of b)) × (length (op (dots_of a) (dots_of b)) ≤ length (dots_of a)))
      → {k : VClock} → clock_answer (first_of (unfit (a ∷ b ∷ []) ∷ [])) (op (dots_of a) (dots_of b)) ≡ Ok k → Granted k (op (dots_of a) (dots_of b))
  dropping op h e =
      let n = fit (none_of _ _ e) in
      let k = h (dots_normal a n.0) (dots_normal b n.1) in
      let l = fits a n.0 in
      granted_as (first_of (unfit (a ∷ b ∷ []) ∷ [])) (op (dots_of a) (dots_of b)) e k.0 (omega arith)

  pub reset_granted : {k : VClock} → reset_call a b ≡ Ok k → Granted k (reset_by (dots_of b) (dots_of a))
  unfolding reset_call
  reset_granted = dropping (λ x c. reset_by c x) (λ na nb. (reset_normal (dots_of b) (dots_of a) na, reset_length (dots_of a) (dots_of b) na nb))

  pub intersection_granted : {k : VClock} → intersection_call a b ≡ Ok k → Granted k (intersection (dots_of a) (dots_of b))
  unfolding intersection_call
  intersection_granted = dropping intersection (λ na nb. (intersection_normal (dots_of a) (dots_of b) na nb, intersection_length (dots_of a) (dots_of b) na nb))

  pub glb_granted : {k : VClock} → glb_call a b ≡ Ok k → Granted k (glb (dots_of a) (dots_of b))
  unfolding glb_call
  glb_granted = dropping glb (λ na nb. (glb_normal (dots_of a) (dots_of b) na nb, glb_length (dots_of a) (dots_of b) na nb))

  -- ---- the counter of each actor in a result

  pub merge_counts : {k : VClock} → merge_call a b ≡ Ok k → (x : ℕ) → count (dots_of k) x ≡ max (count (dots_of a) x) (count (dots_of b) x)
  merge_counts e x = ap (λ (c : Clock). count c x) (merge_granted e).dots_are ∙ merged_count (dots_of a) (dots_of b) x

  pub reset_counts : {k : VClock} → reset_call a b ≡ Ok k → (x : ℕ) → count (dots_of k) x ≡ beyond (count (dots_of a) x) (count (dots_of b) x)
  unfolding reset_call
  reset_counts e x = ap (λ (c : Clock). count c x) (reset_granted e).dots_are ∙ reset_count (dots_of b) (dots_of a) (dots_normal a (fit (none_of _ _ e)).0) x

  pub intersection_counts : {k : VClock} → intersection_call a b ≡ Ok k → (x : ℕ) → count (dots_of k) x ≡ same (count (dots_of a) x) (count (dots_of b) x)
  unfolding intersection_call
  intersection_counts e x =
      let n = fit (none_of _ _ e) in
      ap (λ (c : Clock). count c x) (intersection_granted e).dots_are ∙ intersection_count (dots_of a) (dots_of b) (dots_normal a n.0) (dots_normal b n.1) x

  pub glb_counts : {k : VClock} → glb_call a b ≡ Ok k → (x : ℕ) → count (dots_of k) x ≡ min (count (dots_of a) x) (count (dots_of b) x)
  unfolding glb_call
  glb_counts e x =
      let n = fit (none_of _ _ e) in
      ap (λ (c : Clock). count c x) (glb_granted e).dots_are ∙ glb_count (dots_of a) (dots_of b) (dots_normal a n.0) (dots_normal b n.1) x

pub apply_granted : (c : VClock) (d : Dot) {k : VClock} → apply_call c d ≡ Ok k → Granted k (applied (dots_of c) d)
unfolding apply_call
apply_granted c d e =
    let m = applied (dots_of c) d in
    let rs = unfit (c ∷ []) ∷ crowded m ∷ [] in
    let g = (done_right rs (omega arith, (omega arith, tt))).0 (none_of _ _ e) in
    granted_as (first_of rs) m e (applied_normal (dots_of c) d) (ltb-false 16 (length m) g.1.0)

pub apply_counts : (c : VClock) (d : Dot) {k : VClock} → apply_call c d ≡ Ok k → (x : ℕ) → count (dots_of k) x ≡ max (count (dots_of c) x) (count (d ∷ []) x)
apply_counts c d e x = ap (λ (k : Clock). count k x) (apply_granted c d e).dots_are ∙ applied_count (dots_of c) d x

-- a dot that is covered is granted and changes nothing, one with counter 0 and a 17th actor among them
pub apply_covered : (c : VClock) (d : Dot) → length c.dots ≡ 16 → normalised c ≡ true → d.counter ≤ count (dots_of c) (actor_of d)
    → apply_call c d ≡ Ok c
unfolding apply_call clock_answer first_of
apply_covered c d long n h =
    let l = fits c n in
    simp (n, applied_covered (dots_of c) d (dots_normal c n) h, le-ltb 16 (length (dots_of c)) l) (answer_ok _ ∙ ap Ok (sym (vclock_dots c long n)))

-- ---- merging

pub merge_swaps : (a b : VClock) → merge_call a b ≡ merge_call b a
unfolding merge_call clock_answer first_of answer
merge_swaps a b = go (every normalised (a ∷ b ∷ [])) refl (every normalised (b ∷ a ∷ [])) refl
  where
    go : (s : Bool) → every normalised (a ∷ b ∷ []) ≡ s → (t : Bool) → every normalised (b ∷ a ∷ []) ≡ t → merge_call a b ≡ merge_call b a
    go true e t f =
        let n = each a b e in
        simp (e, swapped a b e, merged_comm (dots_of a) (dots_of b) (dots_normal a n.0) (dots_normal b n.1))
    go false e true f = absurd (false≢true (sym e ∙ swapped b a f))
    go false e false f = simp (e, f)

pub merge_self : (a : VClock) → length a.dots ≡ 16 → normalised a ≡ true → merge_call a a ≡ Ok a
unfolding merge_call clock_answer first_of
merge_self a long n =
    let l = fits a n in
    simp (n, merged_self (dots_of a) (dots_normal a n), le-ltb 16 (length (dots_of a)) l) (answer_ok _ ∙ ap Ok (sym (vclock_dots a long n)))

-- the merge of two normalised clocks, by their dots
merge_as : (a b : VClock) (x y : Clock) → normalised a ≡ true → normalised b ≡ true → dots_of a ≡ x → dots_of b ≡ y → merge_call a b ≡ clock_answer (first_of (crowded (merged x y) ∷ [])) (merged x y)
unfolding merge_call first_of
merge_as a b x y na nb ea eb = simp (na, nb, ea, eb)

-- if the inner two are granted, the outer two give the same clock or the same number
pub merge_groups : (a b c : VClock) {x y : VClock} → merge_call a b ≡ Ok x → merge_call b c ≡ Ok y → merge_call x c ≡ merge_call a y
merge_groups a b c {x} {y} p q =
    let g = merge_granted a b p in
    let h = merge_granted b c q in
    let nc = (merge_fit b c q).1 in
    merge_as x c (merged (dots_of a) (dots_of b)) (dots_of c) g.is_normalised nc g.dots_are refl
    ∙ ap (λ (m : Clock). clock_answer (first_of (crowded m ∷ [])) m) (merged_assoc (dots_of a) (dots_of b) (dots_of c) (dots_normal c nc))
    ∙ sym (merge_as a y (dots_of a) (merged (dots_of b) (dots_of c)) (merge_fit a b p).0 h.is_normalised refl h.dots_are)

-- ---- what a comparison says

pub compare_says : (a b : VClock) (r : Result (Option Ordering) Refused) → r ≡ compare_call a b → every normalised (a ∷ b ∷ []) ≡ true
    → (o : Option Ordering) × (r ≡ Ok o) × SaysOf o (dots_of a) (dots_of b)
unfolding compare_call judged first_of
compare_says a b r p e =
    let n = each a b e in
    let s = covers (dots_of a) (dots_of b) in
    let t = covers (dots_of b) (dots_of a) in
    let o = named (standing s t) in
    (o, (simp e at p) ∙ answer_ok o, compared_says o (dots_of a) (dots_of b) (dots_normal a n.0) (dots_normal b n.1) (means_named s t))

-- ---- two normalised clocks with the same counters are the same; a refusal carries its number and no clock

pub same_counters : (a b : VClock) → length a.dots ≡ 16 → length b.dots ≡ 16 → normalised a ≡ true → normalised b ≡ true
    → ((x : ℕ) → count (dots_of a) x ≡ count (dots_of b) x) → a ≡ b
same_counters a b la lb na nb e = same_dots a b la lb na nb (clock_ext (dots_of a) (dots_of b) (dots_normal a na) (dots_normal b nb) e)

pub refused_empty : (n : ℕ) (c : Clock) → (n ≡ 0 → ⊥) → clock_answer n c ≡ Err (refusal n)
unfolding clock_answer
refused_empty n c h = answer_err n (vclock c) h

-- ---- the marked cases 1 to 4

-- 1. {1:1} against {}: Greater. 2. {1:1} against {2:1}: none.
pub case_1 : Ok (Some Greater) ≡ compare_call (vclock (dot 1 1 ∷ [])) (vclock [])
unfolding compare_call judged answer first_of normalised normal unused vclock covers ascending before
case_1 = refl

pub case_2 : Ok None ≡ compare_call (vclock (dot 1 1 ∷ [])) (vclock (dot 2 1 ∷ []))
unfolding compare_call judged answer first_of normalised normal unused vclock covers ascending before
case_2 = refl

-- 3. {1:1,2:1} reset by {1:1,3:9}: {2:1}; {1:2} reset by {1:1}: unchanged.
pub case_3 : reset_call (vclock (dot 1 1 ∷ dot 2 1 ∷ [])) (vclock (dot 1 1 ∷ dot 3 9 ∷ [])) ≡ Ok (vclock (dot 2 1 ∷ []))
unfolding reset_call clock_answer answer first_of normalised normal unused vclock reset_by ascending before
case_3 = refl

pub case_3_kept : reset_call (vclock (dot 1 2 ∷ [])) (vclock (dot 1 1 ∷ [])) ≡ Ok (vclock (dot 1 2 ∷ []))
unfolding reset_call clock_answer answer first_of normalised normal unused vclock reset_by ascending before
case_3_kept = refl

-- 4. `intersection` of {1:2,2:3} and {1:2,2:4}: {1:2}.
pub case_4 : intersection_call (vclock (dot 1 2 ∷ dot 2 3 ∷ [])) (vclock (dot 1 2 ∷ dot 2 4 ∷ [])) ≡ Ok (vclock (dot 1 2 ∷ []))
unfolding intersection_call clock_answer answer first_of normalised normal unused vclock intersection ascending before
case_4 = refl

-- "16 actors granted, a 17th refused with 6"; a dot with counter 0 is granted even there
abbrev up_to : ℕ → ℕ → Clock
up_to a zero = []
up_to a (suc n) = dot a 1 ∷ up_to (suc a) n

pub limit_granted : apply_call (vclock (up_to 1 15)) (dot 16 1) ≡ Ok (vclock (up_to 1 16))
unfolding apply_call clock_answer answer first_of normalised normal unused vclock applied merged zip ascending before
limit_granted = refl

pub limit_refused : apply_call (vclock (up_to 1 16)) (dot 17 1) ≡ Err ManyActors
unfolding apply_call clock_answer answer refusal first_of normalised normal unused vclock applied merged zip ascending before
limit_refused = refl

pub limit_nothing : apply_call (vclock (up_to 1 16)) (dot 17 0) ≡ Ok (vclock (up_to 1 16))
unfolding apply_call clock_answer answer first_of normalised normal unused vclock applied merged zip ascending before
limit_nothing = refl
