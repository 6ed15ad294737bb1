-- The clock that `contains` shows of a member: a remove by it is granted and takes the member out, and of a member that was taken down it is newer.
use Prim.Native.Nat.{ℕ, zero, suc, ◌≤◌, ◌<◌, ◌^◌, compare}
use Rattle.std.specs.Prelude.{◌≡◌, ◌⊎◌, Bool, true, false, ◌&&◌, List, [], ◌∷◌, T, length}
use Rattle.std.proofs.Math.Path.{refl, ap}
use Rattle.std.proofs.Common.{sym, ◌∙◌, arith, inl, inr, eq-eqb}
use Rattle.std.proofs.Math.Bool.{not}
use Rattle.std.proofs.lemmas.Bool.{false≢true}
use Rattle.std.proofs.Math.Option.{Option, none, some}
use Rattle.tables.specs.Zip.{by_lt}
use Rattle.tables.specs.Order.{nat_order}
use Rattle.tables.specs.Table.{All, all_map, find, find_all}
use Rattle.tables.specs.Refusal.{NoneApplies}
use Rattle.dots.specs.Clock.{Clock, count, covers}
use Rattle.dots.specs.ClockLaws.{le_covers}
use Rattle.dots.specs.Rising.{true_from}
use Rattle.clocks.specs.declared.VClock.{VClock}
use Rattle.clocks.specs.VClock.{dots_of, dots_vclock, vclock_normalised}
use Rattle.replica.specs.Replica.{Entry, Replica, clock_of, entry, is_in, holds}
use Rattle.replica.specs.Rules.{remove}
use Rattle.replica.specs.WellFormed.{Fine}
use Rattle.replica.proofs.WellFormedFacts.{sound_fine}
use Rattle.replica.specs.Limits.{full, broken}
use Rattle.offices.proofs.Limits.{covered_remove}
use Rattle.replica.specs.History.{apply, step}
use Rattle.replica.specs.Reads.{contains}
use Rattle.replica.proofs.ReadLaws.{taken_out}
use Rattle.replica.specs.Listed.{listed}
use Rattle.layout.specs.Fields.{Bytes}
use Rattle.layout.specs.Image.{image_of, good_image}
use Rattle.layout.specs.Fits.{FitsClock, FitsRow}
use Rattle.layout.specs.Formed.{EntryFine}
use Rattle.layout.proofs.FormedFacts.{formed_from}
use Rattle.layout.proofs.MainFacts.{good_formed, good_fits}
use Rattle.std.specs.Prelude.{Result}
use Rattle.dots.specs.declared.refusals.Refused.{Refused}
use Rattle.operations.specs.declared.Op.TheVariants.{Remove}
use Rattle.operations.specs.Calls.{unfit_arguments, apply_call}
use Rattle.claims.specs.Granted.{WellFormed, Granted, Roomy, image}
use Rattle.claims.proofs.GrantedFacts.{granted_says}
use Rattle.claims.specs.Requests.{Request, apply_op, call_on, Lent}
use Rattle.claims.proofs.RequestsFacts.{does}
use Rattle.claims.proofs.MergesFacts.{well_formed_sound, within_limits, outcome_of, unbroken}
use Rattle.claims.specs.Histories.{Answers, History, Unforgotten}
use Rattle.claims.proofs.HistoriesFacts.{stays_down}
use Rattle.claims.specs.Shown.{shown}

module _ (a : List ℕ) (m : ℕ) (w : WellFormed a) where
  abbrev A : Replica
  A = image_of a

  fine : Fine A
  fine = sound_fine A (well_formed_sound w)

  -- what is so of every entry's clock and of the empty one is so of a member's
  of_entry : (P : Clock → Type 0) → P [] → All (λ e. P e.clock) A.entries → P (entry A m)
  of_entry P z h = go (find compare (λ e. e.member) m A.entries) refl
    where
      go : (o : Option Entry) → find compare (λ e. e.member) m A.entries ≡ o → P (clock_of o)
      go none q = z
      go (some e) q = find_all compare nat_order (λ e. e.member) (λ e. P e.clock) m A.entries e h q

  few_dots : length (entry A m) ≤ 16
  few_dots = of_entry (λ c. length c ≤ 16) (omega arith) (all_map (EntryFine full A) (λ e. length e.clock ≤ 16) A.entries (λ e f. f.few_ok) (formed_from full A (good_formed a w.good)).entries_ok)

  fits_clock : FitsClock (entry A m)
  fits_clock = of_entry FitsClock tt (all_map FitsRow (λ e. FitsClock e.clock) A.entries (λ e f. f.1) (good_fits a w.bytes w.good).entries_fit)

  dots_are : dots_of (shown a m) ≡ entry A m
  dots_are = dots_vclock (entry A m) few_dots

  lent : m < 2 ^ 32 → Lent (apply_op Remove (shown a m) (m ∷ []))
  lent small = (tt, rw dots_are fits_clock, (small, tt))

  passes : NoneApplies (call_on (apply_op Remove (shown a m) (m ∷ [])) a).refusals
  unfolding apply_call unfit_arguments
  passes = (ap not (true_from (good_image a) w.good), (ap (λ (b : Bool). not (b && true)) (vclock_normalised (entry A m) few_dots (fine.each m)), (refl, tt)))

  -- V covers it, so that a remove by it breaks no limit
  no_limit : broken full (remove (dots_of (shown a m)) (m ∷ []) A) ≡ 0
  no_limit = rw dots_are (covered_remove full A (within_limits w) (entry A m) (m ∷ []) (true_from (covers A.clock (entry A m)) (le_covers A.clock (entry A m) (fine.each m) (fine.within m))))

  pub shown_taken_out : {x y : List ℕ} {r : Result ℕ Refused} → m < 2 ^ 32 → Roomy x → Answers (apply_op Remove (shown a m) (m ∷ [])) a x r y → Granted r × (is_in (image_of (image r y)) m ≡ false)
  unfolding step apply contains
  shown_taken_out small room kept =
      let d = does (apply_op Remove (shown a m) (m ∷ [])) a (lent small) in
      let g = unbroken no_limit (outcome_of d w.bytes kept passes room) in
      (g, ap (λ (B : Replica). is_in B m) (granted_says d w.bytes kept g ∙ ap (λ (c : Clock). remove c (m ∷ []) A) dots_are) ∙ taken_out A (well_formed_sound w) m)

-- whatever is shown of a member that was taken down by c is newer than c, actor by actor
module _ (a : List ℕ) (c : VClock) (ms : List ℕ) {before after z : List ℕ} {later : List Request} {r : Result ℕ Refused} (bytes : Bytes a) (lent : Lent (apply_op Remove c ms))
    (taken_down : Answers (apply_op Remove c ms) a before r after) (done : Granted r) (history : History (image r after) later z) where
  pub newer : (m x : ℕ) → T (listed ms m) → ((n : ℕ) → 0 < n → n ≤ count (dots_of c) x → Unforgotten later x n)
      → (count (entry (image_of z) m) x ≡ 0) ⊎ (count (dots_of c) x < count (entry (image_of z) m) x)
  unfolding holds
  newer m x i u = by_lt (count (dots_of c) x) (count (entry (image_of z) m) x) inr (λ l. go (count (entry (image_of z) m) x) refl l)
    where
      go : (n : ℕ) → count (entry (image_of z) m) x ≡ n → n ≤ count (dots_of c) x → (n ≡ 0) ⊎ (count (dots_of c) x < n)
      go zero e l = inl refl
      go (suc n) e l = absurd (false≢true (sym (stays_down a c ms bytes lent taken_down done history m x (suc n) i (omega arith) l (u (suc n) (omega arith) l)) ∙ eq-eqb (count (entry (image_of z) m) x) (suc n) e))
