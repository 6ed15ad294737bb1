-- The claims of the library on a page: each under the words that ask for it, each proved by citing.
--
-- Nothing is known of a call here but its promise. `Answers q a before r after` is the promise of a call that writes a replica: q is what is asked of the
-- bytes a (an operation, a merge, a reset), `before` the output that was lent, r the answer, `after` the output's bytes then. `Merges a b before r after` is the
-- promise of a merge. So a call that refuses everything, writes a constant, copies a side, or answers 0 and writes nothing, falls to these theorems.
use Rattle.std.specs.Prelude.{ℕ, ◌/◌, ◌%◌, ◌≤◌, ◌<◌, ◌^◌, ◌≡◌, ◌↔◌, ◌⊎◌, true, false, List, [], ◌∷◌, T, length, drop}
use Rattle.std.proofs.Common.{sym, ap, ap₂, subst, ◌∙◌, arith}
use Rattle.std.proofs.Math.Logic.{inl, inr, ⊎_elim}
use Rattle.tables.specs.Ascending.{ascending, before}
use Rattle.tables.specs.Table.{All, all_both}
use Rattle.tables.specs.Refusal.{Refusal, NoneApplies, First}
use Rattle.dots.specs.declared.Dot.{Dot}
use Rattle.dots.specs.Dot.{actor_of}
use Rattle.dots.specs.Clock.{count, covers}
use Rattle.clocks.specs.declared.VClock.{VClock}
use Rattle.clocks.specs.VClock.{dots_of}
use Rattle.replica.specs.Replica.{Replica, entry, is_in, holds}
use Rattle.replica.specs.Rules.{merge, settled}
use Rattle.replica.specs.Listed.{listed}
use Rattle.replica.specs.Limits.{full, limits_of, broken, Within, well_formed}
use Rattle.replica.proofs.LimitsFacts.{broken_right, well_formed_from}
use Rattle.replica.specs.History.{apply, step}
use Rattle.replica.specs.HistoryLaws.{fair}
use Rattle.replica.proofs.LimitLaws.{reset_number, remove_number, add_number}
use Rattle.replica.specs.Membership.{Kept}
use Rattle.replica.specs.Merged.{Merged}
use Rattle.replica.proofs.MergeLaws.{merge_says, merge_members, merge_commutes, merge_associates, merge_itself, merge_settled}
use Rattle.replica.specs.AddLaws.{Added}
use Rattle.replica.proofs.AddLaws.{add_seen, added}
use Rattle.replica.specs.RemoveLaws.{Removed}
use Rattle.replica.proofs.RemoveLaws.{removed}
use Rattle.replica.specs.ResetLaws.{WasReset}
use Rattle.replica.proofs.ResetLaws.{was_reset}
use Rattle.replica.specs.StaysDown.{forgets}
use Rattle.offices.proofs.Network.{interchange as interchanged, merge_again}
use Rattle.offices.proofs.Anywhere.{remove_anywhere as removed_anywhere, add_not_behind}
use Rattle.offices.proofs.Again.{remove_twice, removes_commute, add_twice}
use Rattle.offices.proofs.Settled.{add_settled, remove_settled}
use Rattle.offices.proofs.Limits.{covered_remove}
use Rattle.layout.specs.Fields.{Bytes}
use Rattle.layout.specs.Fits.{Fits, FitMembers}
use Rattle.layout.specs.Image.{encode, image_of, good_image}
use Rattle.layout.specs.Main.{empty_replica}
use Rattle.layout.proofs.MainFacts.{accepted, empty_length, encode_good, good_formed, good_length}
use Rattle.std.specs.Prelude.{Result}
use Rattle.dots.specs.declared.refusals.Refused.{Refused}
use Rattle.dots.specs.Answers.{number_in}
use Rattle.results.specs.Call.{length_in, table_of, answered, Meets}
use Rattle.results.proofs.CallFacts.{meets_once}
use Rattle.results.proofs.Laws.{number_right, number_lowest, argument_exactly, limit_exactly, room_exactly, done_exactly, refused_keeps, granted_writes}
use Rattle.operations.specs.declared.Op.{Op}
use Rattle.operations.specs.declared.Op.TheVariants.{Add, Remove}
use Rattle.reading.specs.Calls.{empty_call}
use Rattle.replies.specs.Lent.{clock_lent}
use Rattle.claims.specs.Granted.{WellFormed, Granted, Roomy, image}
use Rattle.claims.proofs.GrantedFacts.{granted_fit, granted_well_formed, granted_says}
use Rattle.claims.specs.Requests.{Request, apply_op, merge_with, merge_into, reset_by, call_on, event_of, Lent}
use Rattle.claims.proofs.RequestsFacts.{in_order, not_done, does}
use Rattle.claims.specs.Merges.{Merges, Same}
use Rattle.claims.proofs.MergesFacts.{numbered, well_formed_sound, within_limits, outcome, same, merged_formed, merged_says, unmoved, joined, first_side, second_side}
use Rattle.claims.specs.Histories.{Answers, History, Unforgotten}
use Rattle.claims.proofs.HistoriesFacts.{granted_goes, stays_down, comes_back_new}
use Rattle.claims.specs.Shown.{shown}
use Rattle.claims.proofs.Shown.{shown_taken_out, newer}
use Rattle.claims.specs.Network.{SameOnes, Gathers}
use Rattle.claims.proofs.Network.{same_gathered}
use Rattle.claims.specs.Calls.{EmptyReplies, MergeReplies, AddReplies, RemoveReplies, ResetReplies}
use Rattle.claims.specs.InC.{Halves, answer_in, Replied, adding, removing, resetting, RepliedHistory}
use Rattle.claims.proofs.InC.{one_number, in_c, halves_in_c, empty_meets, empty_halves, lent_add, lent_remove, lent_reset, history_in_c}
use Rattle.claims.specs.Anywhere.{NotBehind}
use Rattle.claims.proofs.Anywhere.{was_formed, made_again, made_anywhere, either_order, clock_normal}

-- ---- 1. Any bytes are taken, and the work is done or the lowest number that applies is returned

-- "any two answers it allows are equal"
pub one_answer : (q : Request) (a before : List ℕ) {r s : Result ℕ Refused} {x y : List ℕ} → Answers q a before r x → Answers q a before s y → (r ≡ s) × (x ≡ y)
one_answer q a before {r} {s} {x} {y} m n = meets_once full (call_on q a) before r s x y m n

-- what a call refuses of its arguments, 1 to 5, and the finished result that its limits are judged on
abbrev arguments : Request → List ℕ → List Refusal
arguments q a = (call_on q a).refusals

abbrev finished : Request → List ℕ → Replica
finished q a = (call_on q a).result

-- "1 / 2: the first / second replica isn't a well-formed image"
pub first_refused : (a b : List ℕ) {before after : List ℕ} {r : Result ℕ Refused} → Merges a b before r after → (number_in r ≡ 1) ↔ (good_image a ≡ false)
first_refused = first_side

pub second_refused : (a b : List ℕ) {before after : List ℕ} {r : Result ℕ Refused} → Merges a b before r after → (number_in r ≡ 2) ↔ ((good_image a ≡ true) × (good_image b ≡ false))
second_refused = second_side

module _ (q : Request) (a : List ℕ) {before after : List ℕ} {r : Result ℕ Refused} (kept : Answers q a before r after) where
  -- "The lowest number that applies is given."
  pub lowest : All (λ p. p.applies ≡ true → number_in r ≤ p.number) (table_of full (call_on q a) (length before))
  lowest = number_lowest full (call_on q a) before r after kept (in_order q a)

  -- and where one applies the answer isn't 0
  pub lowest_given : All (λ p. p.applies ≡ true → (0 < number_in r) × (number_in r ≤ p.number)) (table_of full (call_on q a) (length before))
  lowest_given = all_both (λ p. p.applies ≡ true → 0 < number_in r) (λ p. p.applies ≡ true → number_in r ≤ p.number) (λ p. p.applies ≡ true → (0 < number_in r) × (number_in r ≤ p.number)) (table_of full (call_on q a) (length before))
      (λ p u v t. (u t, v t)) (not_done q a kept) lowest

  -- each "given exactly when" its condition holds and none before it does
  pub refused_with : (k : ℕ) → 0 < k → (number_in r ≡ k) ↔ First (table_of full (call_on q a) (length before)) k
  refused_with = number_right full (call_on q a) before r after kept (in_order q a)

  -- 1 to 5: exactly when the arguments are refused so
  pub refused_by_argument : (k : ℕ) → 0 < k → k < 6 → (number_in r ≡ k) ↔ First (arguments q a) k
  refused_by_argument = argument_exactly full (call_on q a) before r after kept (in_order q a)

  -- 6 to 9: a limit refusal exactly when the arguments pass and the finished result breaks that limit, and none before it
  pub refused_by_limit : (k : ℕ) → 5 < k → k < 10 → (number_in r ≡ k) ↔ (NoneApplies (arguments q a) × First (limits_of full (finished q a)) k)
  refused_by_limit = limit_exactly full (call_on q a) before r after kept (in_order q a)

  -- 10: exactly when they pass, the finished result is within the limits, and "the output is shorter than the result"
  pub refused_for_room : (number_in r ≡ 10) ↔ (NoneApplies (arguments q a) × Within full (finished q a) × (length before < length (encode (finished q a))))
  refused_for_room = room_exactly full (call_on q a) before r after kept (in_order q a)

  -- granted exactly when the arguments pass, the finished result is within the limits, and the output has room for it
  pub granted_exactly : Granted r ↔ (NoneApplies (arguments q a) × Within full (finished q a) × (length (encode (finished q a)) ≤ length before))
  granted_exactly = done_exactly full (call_on q a) before r after kept (in_order q a)

  -- "A refusal changes no lent memory"
  pub unchanged : (Granted r → ⊥) → (after ≡ before) × (length_in r ≡ 0)
  unchanged = refused_keeps full (call_on q a) before r after kept

  -- ---- 2. A granted call writes the image of what the rule of docs/RULES.md, 4, gives

  -- ".. and leaves later bytes unchanged"
  pub later_bytes : Granted r → (drop (length_in r) after ≡ drop (length_in r) before) × (length after ≡ length before)
  later_bytes g = let w = granted_writes full (call_on q a) before r after kept (in_order q a) g in (w.later_kept, w.length_kept)

  module _ (bytes : Bytes a) (lent : Lent q) (done : Granted r) where
    -- bytes 0 to the length are a well-formed image
    pub is_well_formed : WellFormed (image r after)
    is_well_formed = granted_well_formed (does q a lent) bytes kept done

    -- of the replica that the rule makes of the image's
    pub by_rule : image_of (image r after) ≡ step (event_of q) (image_of a)
    by_rule = granted_says (does q a lent) bytes kept done

    -- which was itself well-formed
    pub was_well_formed : WellFormed a
    was_well_formed = record { bytes = bytes; good = (granted_fit (does q a lent) bytes kept done).image_good }

-- the four rules, sentence by sentence: `Merged`, `Added`, `Removed` and `WasReset` have the rules', and each fixes its result
module _ (a : List ℕ) {before after : List ℕ} {r : Result ℕ Refused} (bytes : Bytes a) (done : Granted r) where
  pub merges : (b : List ℕ) → Bytes b → Merges a b before r after → Merged (image_of a) (image_of b) (image_of (image r after))
  unfolding step fair
  merges b l m =
      rw (by_rule (merge_with b) a m bytes l done)
      (merge_says (image_of a) (image_of b) (well_formed_sound (was_well_formed (merge_with b) a m bytes l done)) (granted_fit (does (merge_with b) a l) bytes m done).event_fair)

  pub adds : (d : Dot) (c : VClock) (ms : List ℕ) → Lent (apply_op (Add d) c ms) → Answers (apply_op (Add d) c ms) a before r after
      → covers (image_of a).clock (d ∷ []) ≡ false → Added d ms (image_of a) (image_of (image r after))
  unfolding step apply
  adds d c ms l m new = rw (by_rule (apply_op (Add d) c ms) a m bytes l done) (added d ms (image_of a) (well_formed_sound (was_well_formed (apply_op (Add d) c ms) a m bytes l done)) new)

  pub adds_nothing : (d : Dot) (c : VClock) (ms : List ℕ) → Lent (apply_op (Add d) c ms) → Answers (apply_op (Add d) c ms) a before r after
      → covers (image_of a).clock (d ∷ []) ≡ true → image_of (image r after) ≡ image_of a
  unfolding step apply
  adds_nothing d c ms l m seen = by_rule (apply_op (Add d) c ms) a m bytes l done ∙ add_seen d ms (image_of a) seen

  pub removes : (c : VClock) (ms : List ℕ) → Lent (apply_op Remove c ms) → Answers (apply_op Remove c ms) a before r after → Removed (dots_of c) ms (image_of a) (image_of (image r after))
  unfolding step apply fair
  removes c ms l m =
      rw (by_rule (apply_op Remove c ms) a m bytes l done)
      (removed (dots_of c) ms (image_of a) (granted_fit (does (apply_op Remove c ms) a l) bytes m done).event_fair (well_formed_sound (was_well_formed (apply_op Remove c ms) a m bytes l done)))

  pub resets : (c : VClock) → Lent (reset_by c) → Answers (reset_by c) a before r after → WasReset (dots_of c) (image_of a) (image_of (image r after))
  unfolding step
  resets c l m = rw (by_rule (reset_by c) a m bytes l done) (was_reset (dots_of c) (image_of a) (well_formed_sound (was_well_formed (reset_by c) a m bytes l done)))

-- "the empty replica is 28 bytes": a call that writes it is granted exactly if the output has room for them
pub empties : {before after : List ℕ} {r : Result ℕ Refused} → Meets full empty_call before r after → (Granted r ↔ (28 ≤ length before)) × (Granted r → image r after ≡ encode empty_replica)
unfolding ascending before
empties {before} {after} {r} kept =
    let d = done_exactly full empty_call before r after kept tt in
    let e = empty_length in (
      (λ g. let k = (d.0 g).2 in omega arith, λ k. d.1 (tt, record { actors_fit = omega arith; members_fit = omega arith; waiting_fit = omega arith; named_fit = tt }, omega arith)),
      λ g. (granted_writes full empty_call before r after kept tt g).image_is,
    )

-- ---- which limits a call can break

-- the number of a refusal by a limit is the one that the rule's result breaks, and the image was within them
module _ (q : Request) (a : List ℕ) {before after : List ℕ} {r : Result ℕ Refused} (lent : Lent q) (kept : Answers q a before r after) (k : ℕ) (above : 5 < k) (below : k < 10) (number : number_in r ≡ k) where
  by_limit : (broken full (image_of a) ≡ 0) × (broken full (step (event_of q) (image_of a)) ≡ k)
  by_limit =
      let f = (refused_by_limit q a kept k above below).0 number in
      let p = (does q a lent).passes f.0 in (
        (well_formed_from full (image_of a) (good_formed a p.image_good)).1,
        ap (broken full) (sym (does q a lent).result_is) ∙ (broken_right full (finished q a) k (omega arith)).1 f.1,
      )

module _ (a : List ℕ) {before after : List ℕ} {r : Result ℕ Refused} (k : ℕ) (above : 5 < k) (below : k < 10) (number : number_in r ≡ k) where
  -- an add only 6 and 7
  pub add_limits : (d : Dot) (c : VClock) (ms : List ℕ) → Lent (apply_op (Add d) c ms) → Answers (apply_op (Add d) c ms) a before r after → (k ≡ 6) ⊎ (k ≡ 7)
  unfolding step apply
  add_limits d c ms l m =
      let b = by_limit (apply_op (Add d) c ms) a l m k above below number in
      ⊎_elim (λ z. absurd (omega arith)) (⊎_elim (λ z. inl (omega arith)) (λ z. inr (omega arith))) (add_number full (image_of a) b.0 d ms)

  -- a remove only 8 and 9
  pub remove_limits : (c : VClock) (ms : List ℕ) → Lent (apply_op Remove c ms) → Answers (apply_op Remove c ms) a before r after → (k ≡ 8) ⊎ (k ≡ 9)
  unfolding step apply
  remove_limits c ms l m =
      let b = by_limit (apply_op Remove c ms) a l m k above below number in
      ⊎_elim (λ z. absurd (omega arith)) (⊎_elim (λ z. inl (omega arith)) (λ z. inr (omega arith))) (remove_number full (image_of a) b.0 (dots_of c) ms)

  -- a reset only 9
  pub reset_limits : (c : VClock) → Lent (reset_by c) → Answers (reset_by c) a before r after → k ≡ 9
  unfolding step
  reset_limits c l m =
      let b = by_limit (reset_by c) a l m k above below number in
      ⊎_elim (λ z. absurd (omega arith)) (λ z. omega arith) (reset_number full (image_of a) b.0 (dots_of c))

-- and a remove whose clock the replica's own covers, so that it doesn't wait, none
pub covered_remove_limits : (a : List ℕ) (c : VClock) (ms : List ℕ) {before after : List ℕ} {r : Result ℕ Refused} → Lent (apply_op Remove c ms) → Answers (apply_op Remove c ms) a before r after
    → covers (image_of a).clock (dots_of c) ≡ true → (k : ℕ) → 5 < k → k < 10 → number_in r ≡ k → ⊥
unfolding step apply
covered_remove_limits a c ms l m e k above below number =
    let b = by_limit (apply_op Remove c ms) a l m k above below number in
    let z = covered_remove full (image_of a) b.0 (dots_of c) ms e in
    omega arith

-- ---- images

-- exactly the images of well-formed replicas are taken for such, and none is longer than 18,268 bytes
pub well_formed_images : (a : List ℕ) → (Bytes a × T (good_image a)) ↔ ((A : Replica) × T (well_formed full A) × Fits A × (a ≡ encode A))
well_formed_images = accepted

pub at_most_18268 : (a : List ℕ) → WellFormed a → length a ≤ 18268
at_most_18268 a w = good_length a w.bytes w.good

-- ---- 3. For well-formed replicas, and outputs with room for any image (18,268 bytes or more)

-- a merge is refused by a limit or not at all: its number is that of the first limit that the finished merge breaks
pub only_limits : {a b x y : List ℕ} {r : Result ℕ Refused} → WellFormed a → WellFormed b → Roomy x → Merges a b x r y → number_in r ≡ broken full (merge (image_of a) (image_of b))
unfolding answered
only_limits v w room m = numbered (outcome v w room m)

-- swapping the two sides of a merge gives the same bytes or the same limit refusal
pub swap : {a b x₁ x₂ y₁ y₂ : List ℕ} {r₁ r₂ : Result ℕ Refused} → WellFormed a → WellFormed b → Roomy x₁ → Roomy x₂ → Merges a b x₁ r₁ y₁ → Merges b a x₂ r₂ y₂ → Same r₁ y₁ r₂ y₂
swap {a} {b} v w room₁ room₂ m n = same (merge_commutes (image_of a) (image_of b) (well_formed_sound v) (well_formed_sound w)) (outcome v w room₁ m) (outcome w v room₂ n)

-- both groupings of three replicas: where the two inner merges are granted, the two outer ones give the same number, length and bytes
module _ (a b c : List ℕ) {x₁ x₂ x₃ x₄ y₁ y₂ y₃ y₄ : List ℕ} {r₁ r₂ r₃ r₄ : Result ℕ Refused} (u : WellFormed a) (v : WellFormed b) (w : WellFormed c) (room₃ : Roomy x₃) (room₄ : Roomy x₄)
    (ab : Merges a b x₁ r₁ y₁) (ab_granted : Granted r₁) (bc : Merges b c x₂ r₂ y₂) (bc_granted : Granted r₂) where
  pub grouping : Merges (image r₁ y₁) c x₃ r₃ y₃ → Merges a (image r₂ y₂) x₄ r₄ y₄ → Same r₃ y₃ r₄ y₄
  grouping m n = same
      (ap (λ (A : Replica). merge A (image_of c)) (merged_says a b u v ab ab_granted)
      ∙ merge_associates (image_of a) (image_of b) (image_of c) (well_formed_sound u) (well_formed_sound v) (well_formed_sound w)
      ∙ ap (merge (image_of a)) (sym (merged_says b c v w bc bc_granted)))
      (outcome (merged_formed a b u v ab ab_granted) w room₃ m) (outcome u (merged_formed b c v w bc bc_granted) room₄ n)

-- a replica with no waiting remove that its own clock covers merges with itself to itself
pub with_itself : {a x y : List ℕ} {r : Result ℕ Refused} → WellFormed a → T (settled (image_of a)) → Roomy x → Merges a a x r y → Granted r × (image r y ≡ a)
unfolding answered
with_itself {a} w t room m =
    let o = outcome w w room m in
    let e = merge_itself (image_of a) (well_formed_sound w) t in
    let g : broken full (merge (image_of a) (image_of a)) ≡ 0 = ap (broken full) e ∙ within_limits w in
    (numbered o ∙ g, o.image_is ∙ rw (g, e) (encode_good a w.bytes w.good))

-- A member is in a granted merge exactly if one replica holds a dot for it that the other also holds for it or hasn't seen, and no waiting remove of
-- either that names it covers that dot: `Kept` says so.
pub members : (a b : List ℕ) {x y : List ℕ} {r : Result ℕ Refused} → WellFormed a → WellFormed b → Merges a b x r y → Granted r
    → (m : ℕ) → T (is_in (image_of (image r y)) m) ↔ Kept (image_of a) (image_of b) m
members a b v w k g m = rw (merged_says a b v w k g) (merge_members (image_of a) (image_of b) (well_formed_sound v) (well_formed_sound w) m)

-- ---- 4. What is taken down stays down

-- After a granted remove (c, ms), through any later calls (adds, removes, merges on either side with any bytes, resets), granted or refused, each on the
-- image that the one before left: no m of ms holds a dot that c covers, unless a reset forgot that dot.
module _ (a : List ℕ) (c : VClock) (ms : List ℕ) {before after z : List ℕ} {later : List Request} {r : Result ℕ Refused} (bytes : Bytes a) (lent : Lent (apply_op Remove c ms))
    (taken_down : Answers (apply_op Remove c ms) a before r after) (done : Granted r) (history : History (image r after) later z) where
  pub stays : (m x n : ℕ) → T (listed ms m) → 0 < n → n ≤ count (dots_of c) x → Unforgotten later x n → holds (image_of z) m x n ≡ false
  stays = stays_down a c ms bytes lent taken_down done history

  -- so a member that is there again came back by a dot that c doesn't cover
  pub back_by_new : (m : ℕ) → T (listed ms m) → ((x n : ℕ) → 0 < n → n ≤ count (dots_of c) x → Unforgotten later x n)
      → T (is_in (image_of z) m) → (x : ℕ) × (n : ℕ) × T (holds (image_of z) m x n) × (count (dots_of c) x < n)
  back_by_new = comes_back_new a c ms bytes lent taken_down done history

  -- and whatever `contains` shows of a member that was taken down is newer, actor by actor
  pub shown_newer : (m x : ℕ) → T (listed ms m) → ((n : ℕ) → 0 < n → n ≤ count (dots_of c) x → Unforgotten later x n)
      → (count (entry (image_of z) m) x ≡ 0) ⊎ (count (dots_of c) x < count (entry (image_of z) m) x)
  shown_newer = newer a c ms bytes lent taken_down done history

-- What is shown can be taken down: by the clock that `contains` shows of a member, a remove of it is granted, whatever is full, and the member is out.
pub shown_goes : (a : List ℕ) (m : ℕ) {x y : List ℕ} {r : Result ℕ Refused} (w : WellFormed a) → m < 2 ^ 32 → Roomy x → Answers (apply_op Remove (shown a m) (m ∷ [])) a x r y
    → Granted r × (is_in (image_of (image r y)) m ≡ false)
shown_goes a m w = shown_taken_out a m w

-- ---- 5. A network of offices: each has bytes, and merges those that come to it

-- What was merged may come again, any number of times: the merge is granted, and changes no byte.
pub again : (a b : List ℕ) {x₁ x₂ y₁ y₂ : List ℕ} {r₁ r₂ : Result ℕ Refused} → Bytes a → Bytes b → Merges a b x₁ r₁ y₁ → Granted r₁ → Roomy x₂ → Merges (image r₁ y₁) b x₂ r₂ y₂
    → Granted r₂ × (image r₂ y₂ ≡ image r₁ y₁)
again a b p q m g room n =
    let j = joined a b p q m g in
    unmoved j.is_formed
    (ap (λ (A : Replica). merge A (image_of b)) j.says ∙ merge_again (image_of a) (image_of b) (well_formed_sound j.first_formed) (well_formed_sound j.second_formed) ∙ sym j.says)
    (outcome j.is_formed j.second_formed room n)

-- Two merges of two, merged, in the other pairing: where the four inner ones are granted, the two outer ones give the same number, length and bytes.
module _ (a b c d : List ℕ) {x₁ x₂ x₃ x₄ x₅ x₆ y₁ y₂ y₃ y₄ y₅ y₆ : List ℕ} {r₁ r₂ r₃ r₄ r₅ r₆ : Result ℕ Refused} (a_bytes : Bytes a) (b_bytes : Bytes b) (c_bytes : Bytes c) (d_bytes : Bytes d)
    (ab : Merges a b x₁ r₁ y₁) (ab_granted : Granted r₁) (cd : Merges c d x₂ r₂ y₂) (cd_granted : Granted r₂)
    (ac : Merges a c x₃ r₃ y₃) (ac_granted : Granted r₃) (bd : Merges b d x₄ r₄ y₄) (bd_granted : Granted r₄) (room₅ : Roomy x₅) (room₆ : Roomy x₆) where
  pub interchange : Merges (image r₁ y₁) (image r₂ y₂) x₅ r₅ y₅ → Merges (image r₃ y₃) (image r₄ y₄) x₆ r₆ y₆ → Same r₅ y₅ r₆ y₆
  interchange m n =
      let e = joined a b a_bytes b_bytes ab ab_granted in
      let f = joined c d c_bytes d_bytes cd cd_granted in
      let g = joined a c a_bytes c_bytes ac ac_granted in
      let h = joined b d b_bytes d_bytes bd bd_granted in
      same
      (ap₂ merge e.says f.says
      ∙ interchanged (image_of a) (image_of b) (image_of c) (image_of d) (well_formed_sound e.first_formed) (well_formed_sound e.second_formed) (well_formed_sound f.first_formed) (well_formed_sound f.second_formed)
      ∙ sym (ap₂ merge g.says h.says))
      (outcome e.is_formed f.is_formed room₅ m) (outcome g.is_formed h.is_formed room₆ n)

-- Offices converge: two that gathered the same images, at least two, by granted merges in any order and pairing, with any repeats, have the same bytes.
pub converges : {a b c d y z : List ℕ} {bs ds : List (List ℕ)} → Gathers a (b ∷ bs) y → Gathers c (d ∷ ds) z → SameOnes (a ∷ b ∷ bs) (c ∷ d ∷ ds) → y ≡ z
converges = same_gathered

-- Where an operation was made doesn't matter. Let it be granted at one office, and that office's merge with another too: then the merge with the other after
-- the operation, and the operation after the merge, give the same number, length and bytes.
module _ (a b : List ℕ) {x₁ x₂ x₃ x₄ y₁ y₂ y₃ y₄ : List ℕ} {r₁ r₂ r₃ r₄ : Result ℕ Refused} (a_bytes : Bytes a) (b_bytes : Bytes b) (merged : Merges a b x₂ r₂ y₂) (merged_granted : Granted r₂)
    (room₃ : Roomy x₃) (room₄ : Roomy x₄) where
  -- so every remove
  pub remove_anywhere : (c : VClock) (ms : List ℕ) → Lent (apply_op Remove c ms) → Answers (apply_op Remove c ms) a x₁ r₁ y₁ → Granted r₁
      → Merges (image r₁ y₁) b x₃ r₃ y₃ → Answers (apply_op Remove c ms) (image r₂ y₂) x₄ r₄ y₄ → Same r₃ y₃ r₄ y₄
  unfolding step apply
  remove_anywhere c ms l kept done before_it after_it = made_anywhere Remove c ms l a a_bytes kept done b
      (removed_anywhere (dots_of c) ms (image_of a) (image_of b) (clock_normal a c ms a_bytes l kept done) (well_formed_sound (was_formed Remove c ms l a a_bytes kept done)))
      b_bytes merged merged_granted room₃ before_it room₄ after_it

  -- and an add at the office that has seen of the dot's actor all that the other has, as the actor's own has. (With a gap an add can make another's vanish.)
  pub add_anywhere : (d : Dot) (c : VClock) (ms : List ℕ) → Lent (apply_op (Add d) c ms) → NotBehind a b (actor_of d)
      → Answers (apply_op (Add d) c ms) a x₁ r₁ y₁ → Granted r₁ → Merges (image r₁ y₁) b x₃ r₃ y₃ → Answers (apply_op (Add d) c ms) (image r₂ y₂) x₄ r₄ y₄ → Same r₃ y₃ r₄ y₄
  unfolding step apply
  add_anywhere d c ms l ahead kept done before_it after_it = made_anywhere (Add d) c ms l a a_bytes kept done b
      (λ t. add_not_behind d ms (image_of a) (image_of b) (well_formed_sound (was_formed (Add d) c ms l a a_bytes kept done)) t ahead)
      b_bytes merged merged_granted room₃ before_it room₄ after_it

-- An operation may come twice: the second time it is granted, and changes no byte.
module _ (a : List ℕ) {x₁ x₂ y₁ y₂ : List ℕ} {r₁ r₂ : Result ℕ Refused} (bytes : Bytes a) (room : Roomy x₂) where
  pub remove_again : (c : VClock) (ms : List ℕ) → Lent (apply_op Remove c ms) → Answers (apply_op Remove c ms) a x₁ r₁ y₁ → Granted r₁ → Answers (apply_op Remove c ms) (image r₁ y₁) x₂ r₂ y₂
      → Granted r₂ × (image r₂ y₂ ≡ image r₁ y₁)
  unfolding step apply
  remove_again c ms l kept done = made_again Remove c ms l a bytes kept done
      (remove_twice (dots_of c) ms (image_of a) (clock_normal a c ms bytes l kept done) (well_formed_sound (was_formed Remove c ms l a bytes kept done))) room

  pub add_again : (d : Dot) (c : VClock) (ms : List ℕ) → Lent (apply_op (Add d) c ms) → Answers (apply_op (Add d) c ms) a x₁ r₁ y₁ → Granted r₁ → Answers (apply_op (Add d) c ms) (image r₁ y₁) x₂ r₂ y₂
      → Granted r₂ × (image r₂ y₂ ≡ image r₁ y₁)
  unfolding step apply
  add_again d c ms l kept done = made_again (Add d) c ms l a bytes kept done (add_twice d ms (image_of a) (well_formed_sound (was_formed (Add d) c ms l a bytes kept done))) room

-- Two removes that are both granted on an image, each then made after the other: the same number, length and bytes.
pub removes_in_either_order : (a : List ℕ) (c : VClock) (ms : List ℕ) (d : VClock) (ns : List ℕ) {x₁ x₂ x₃ x₄ y₁ y₂ y₃ y₄ : List ℕ} {r₁ r₂ r₃ r₄ : Result ℕ Refused}
    → Bytes a → Lent (apply_op Remove c ms) → Lent (apply_op Remove d ns) → Answers (apply_op Remove c ms) a x₁ r₁ y₁ → Granted r₁ → Answers (apply_op Remove d ns) a x₂ r₂ y₂ → Granted r₂
    → Roomy x₃ → Answers (apply_op Remove d ns) (image r₁ y₁) x₃ r₃ y₃ → Roomy x₄ → Answers (apply_op Remove c ms) (image r₂ y₂) x₄ r₄ y₄ → Same r₃ y₃ r₄ y₄
unfolding step apply
removes_in_either_order a c ms d ns bytes k l one g two h = either_order Remove c ms Remove d ns a k l bytes
    (removes_commute (dots_of c) ms (dots_of d) ns (image_of a) (clock_normal a c ms bytes k one g) (clock_normal a d ns bytes l two h) (well_formed_sound (was_formed Remove c ms k a bytes one g))) one g two h

-- No waiting remove that the replica's own clock covers (as `with_itself` asks): so it is after every granted merge, and a granted operation leaves it so.
pub merge_settles : (a b : List ℕ) {x y : List ℕ} {r : Result ℕ Refused} → Bytes a → Bytes b → Merges a b x r y → Granted r → T (settled (image_of (image r y)))
merge_settles a b p q m g =
    let j = joined a b p q m g in
    rw (j.says, merge_settled (image_of a) (image_of b) (well_formed_sound j.first_formed) (well_formed_sound j.second_formed)) tt

pub stays_settled : (a : List ℕ) (op : Op) (c : VClock) (ms : List ℕ) {x y : List ℕ} {r : Result ℕ Refused} → Bytes a → Lent (apply_op op c ms) → Answers (apply_op op c ms) a x r y → Granted r
    → T (settled (image_of a)) → T (settled (image_of (image r y)))
unfolding step apply
stays_settled a (Add d) c ms bytes l kept done t = rw (by_rule (apply_op (Add d) c ms) a kept bytes l done) (add_settled d ms (image_of a) t)
stays_settled a Remove c ms bytes l kept done t = rw (by_rule (apply_op Remove c ms) a kept bytes l done) (remove_settled (dots_of c) ms (image_of a) t)

-- What one office has taken down, another that has merged its image, as either side, doesn't show again, whatever it does afterwards.
module _ (a : List ℕ) (c : VClock) (ms : List ℕ) {before after : List ℕ} {r : Result ℕ Refused} (bytes : Bytes a) (lent : Lent (apply_op Remove c ms))
    (taken_down : Answers (apply_op Remove c ms) a before r after) (done : Granted r) where
  pub stays_elsewhere : (b : List ℕ) {x y z : List ℕ} {s : Result ℕ Refused} {later : List Request} → Bytes b → Merges b (image r after) x s y ⊎ Merges (image r after) b x s y → Granted s → History (image s y) later z
      → (m i n : ℕ) → T (listed ms m) → 0 < n → n ≤ count (dots_of c) i → Unforgotten later i n → holds (image_of z) m i n ≡ false
  unfolding forgets
  stays_elsewhere b p m g h = ⊎_elim
      (λ k. stays_down a c ms bytes lent taken_down done (granted_goes (merge_into b) p k g h))
      (λ k. stays_down a c ms bytes lent taken_down done (granted_goes (merge_with b) p k g h)) m

-- ---- 6. In C

-- GATELICHEN_NUMBER and GATELICHEN_LENGTH take an answer r apart: `apart r`, and `answer_in r` is the answer that these two are. `MergeReplies a b out r after`, and so on, is the contract of that function
-- in crates/exports/src/writes.rt, which crates/exports_c/src/lib.rt repeats. Each keeps the promise of a request, its answer taken apart: so every claim
-- above is one of C, by these in the place of its promise. They ask only for what the C types say: bytes, 32-bit actors and members, 64-bit counters.
module _ {out after : List ℕ} {r : ℕ} where
  pub empty_in_c : EmptyReplies out r after → Meets full empty_call out (answer_in r) after
  empty_in_c = empty_meets

  pub merge_in_c : (a b : List ℕ) → Bytes a → Bytes b → MergeReplies a b out r after → Merges a b out (answer_in r) after
  merge_in_c a b p q = in_c (merge_with b) a p q

  pub add_in_c : (a : List ℕ) (actor counter : ℕ) (members : List ℕ) → Bytes a → actor < 2 ^ 32 → counter < 2 ^ 64 → FitMembers members → AddReplies a actor counter members out r after
      → Lent (adding actor counter members) × Answers (adding actor counter members) a out (answer_in r) after
  add_in_c a actor counter members p i n ms kept = let l = lent_add actor counter members i n ms in (l, in_c (adding actor counter members) a p l kept)

  pub remove_in_c : (a clock members : List ℕ) → Bytes a → Bytes clock → FitMembers members → RemoveReplies a clock members out r after
      → Lent (removing clock members) × Answers (removing clock members) a out (answer_in r) after
  remove_in_c a clock members p q ms kept = let l = lent_remove clock members q ms in (l, in_c (removing clock members) a p l kept)

  pub reset_in_c : (a clock : List ℕ) → Bytes a → Bytes clock → ResetReplies a clock out r after → Lent (resetting clock) × Answers (resetting clock) a out (answer_in r) after
  reset_in_c a clock p q kept = let l = lent_reset clock q in (l, in_c (resetting clock) a p l kept)

-- so "The lowest number that applies is given", in the upper half of the answer
pub lowest_in_c : (q : Request) (a : List ℕ) {before after : List ℕ} {r : ℕ} → Bytes a → Lent q → Replied q a before r after
    → All (λ p. p.applies ≡ true → (0 < r / 4294967296) × (r / 4294967296 ≤ p.number)) (table_of full (call_on q a) (length before))
lowest_in_c q a {before} {r = r} bytes lent kept =
    let e : r / 4294967296 ≡ number_in (answer_in r) = ap (λ (x : Halves). x.number) (halves_in_c q a bytes lent kept) in
    subst (λ (k : ℕ). All (λ p. p.applies ≡ true → (0 < k) × (k ≤ p.number)) (table_of full (call_on q a) (length before))) (sym e) (lowest_given q a (in_c q a bytes lent kept))

-- and nothing of r is lost in `answer_in r`: the upper half is the number of that answer, the lower its length, 0 where it is refused
pub halves_said : (q : Request) (a : List ℕ) {before after : List ℕ} {r : ℕ} → Bytes a → Lent q → Replied q a before r after → (r / 4294967296 ≡ number_in (answer_in r)) × (r % 4294967296 ≡ length_in (answer_in r))
halves_said q a bytes lent kept =
    let e = halves_in_c q a bytes lent kept in
    (ap (λ (x : Halves). x.number) e, ap (λ (x : Halves). x.length) e)

pub empty_halves_said : {out after : List ℕ} {r : ℕ} → EmptyReplies out r after → (r / 4294967296 ≡ number_in (answer_in r)) × (r % 4294967296 ≡ length_in (answer_in r))
empty_halves_said kept = let e = empty_halves kept in (ap (λ (x : Halves). x.number) e, ap (λ (x : Halves). x.length) e)

-- swapping the two sides of a merge gives the same answer and the same bytes
pub swap_in_c : {a b x₁ x₂ y₁ y₂ : List ℕ} {r₁ r₂ : ℕ} → WellFormed a → WellFormed b → Roomy x₁ → Roomy x₂ → MergeReplies a b x₁ r₁ y₁ → MergeReplies b a x₂ r₂ y₂
    → (r₁ ≡ r₂) × (image (answer_in r₁) y₁ ≡ image (answer_in r₂) y₂)
swap_in_c {a} {b} v w room₁ room₂ m n =
    let s = swap v w room₁ room₂ (merge_in_c a b v.bytes w.bytes m) (merge_in_c b a w.bytes v.bytes n) in
    let told : Result ℕ Refused → Halves = λ x. record { number = number_in x; length = length_in x } in
    (one_number (halves_in_c (merge_with b) a v.bytes w.bytes m ∙ ap told s.answers ∙ sym (halves_in_c (merge_with a) b w.bytes v.bytes n)), s.bytes)

-- and what gatelichen_remove has taken down stays down, through any later calls
pub stays_in_c : (a clock members : List ℕ) {before after z : List ℕ} {later : List Request} {r : ℕ} → Bytes a → Bytes clock → FitMembers members → RemoveReplies a clock members before r after → Granted (answer_in r)
    → RepliedHistory (image (answer_in r) after) later z → (m x n : ℕ) → T (listed members m) → 0 < n → n ≤ count (dots_of (clock_lent clock)) x → Unforgotten later x n → holds (image_of z) m x n ≡ false
stays_in_c a clock members p q ms kept done h =
    let k = remove_in_c a clock members p q ms kept in
    stays a (clock_lent clock) members p k.0 k.1 done (history_in_c (is_well_formed (removing clock members) a k.1 p k.0 done).bytes h)
