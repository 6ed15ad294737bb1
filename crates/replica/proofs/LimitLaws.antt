-- What is proved of specs/LimitLaws.antt.
use Rattle.std.specs.Prelude.{ℕ, suc, ◌+◌, ◌≤◌, ◌≡◌, refl, ◌⊎◌, Bool, List, [], ◌∷◌, T, leb, ltb, eqb, length}
use Rattle.std.proofs.Common.{ap, subst, inl, inr, le_trans, arith, leb→le, le-ltb, eqb-true}
use Rattle.std.proofs.Math.Bool.{true, false}
use Rattle.std.proofs.lemmas.Bool.{false≢true}
use Rattle.std.proofs.Math.Option.{none, some}
use Rattle.tables.specs.Table.{All, every, any, none_any, all_map, get, is_some, all_sift, pick}
use Rattle.tables.specs.Truth.{and_l, and_r}
use Rattle.tables.specs.Walk.{length_collect}
use Rattle.tables.specs.Refusal.{first_of}
use Rattle.dots.specs.declared.Dot.{Dot}
use Rattle.dots.specs.Clock.{normal, merged, Clock, covers_dot, covers, applied, reset_by}
use Rattle.replica.proofs.Lists.{length_zip, all_zip}
use Rattle.replica.specs.Replica.{Entry, Wait, Replica, entry?, member_sets, waits}
use Rattle.replica.specs.Rules.{unite, uncovered, join_waits, set_of, remove_from, settle, takes, add, remove, merge, rewait, reset_waits, reset}
use Rattle.replica.specs.Limits.{Limits, limits_of, broken, well_formed, Within}
use Rattle.replica.proofs.LimitsFacts.{unbroken_right, well_formed_from, well_formed_to}
use Rattle.replica.specs.Judge.{granted, merge_by}
use Rattle.replica.proofs.JudgeFacts.{granted_is}
use Rattle.replica.specs.History.{Add, Remove, apply, Event, Apply, MergeWith, MergeInto, Reset, step, judged}
use Rattle.replica.specs.HistoryLaws.{fair}
use Rattle.replica.proofs.HistoryLaws.{step_sound}
use Rattle.replica.specs.LimitLaws.{Short, given, fits, within_limits}

-- ---- how long tables get

length_joined : (xs ys : List Wait) → length (join_waits xs ys) ≤ length xs + length ys
unfolding join_waits
length_joined xs ys = length_zip waits (λ c. unite) xs ys

length_reset : (c x : Clock) → length (reset_by c x) ≤ length x
unfolding reset_by
length_reset c x = length_collect (λ d. pick (covers_dot c d) none (some d)) x

length_removed : (w : Wait) (es : List Entry) → length (remove_from w es) ≤ length es
unfolding remove_from
length_removed w es = length_collect (λ e. pick (get member_sets w.members e.member) (entry? e.member (reset_by w.clock e.clock)) (some e)) es

length_resets : (c : Clock) (ws : List Wait) → length (reset_waits c ws) ≤ length ws
unfolding reset_waits rewait
length_resets c [] = omega arith
length_resets c (w ∷ ws) = go (reset_by c w.clock) (length_resets c ws)
  where
    go : (x : Clock) → length (reset_waits c ws) ≤ length ws → length (rewait x w.members (reset_waits c ws)) ≤ suc (length ws)
    go [] l = omega arith
    go (d ∷ x) l = let j = length_joined (record { clock = d ∷ x; members = w.members } ∷ []) (reset_waits c ws) in omega arith

joined_short : (l : Limits) (xs ys : List Wait) → All (Short l) xs → All (Short l) ys → All (Short l) (join_waits xs ys)
unfolding join_waits
joined_short l xs ys p q = all_zip waits (λ c. length c ≤ l.actors) (λ c. unite) xs ys p q

resets_short : (l : Limits) (c : Clock) (ws : List Wait) → All (Short l) ws → All (Short l) (reset_waits c ws)
unfolding reset_waits rewait
resets_short l c [] h = tt
resets_short l c (w ∷ ws) h = go (reset_by c w.clock) (le_trans (length_reset c w.clock) h.0) (resets_short l c ws h.1)
  where
    go : (x : Clock) → length x ≤ l.actors → All (Short l) (reset_waits c ws) → All (Short l) (rewait x w.members (reset_waits c ws))
    go [] k r = r
    go (d ∷ x) k r = joined_short l (record { clock = d ∷ x; members = w.members } ∷ []) (reset_waits c ws) (k, tt) r

-- what all waiting removes have, those that V doesn't cover have
all_uncovered : (P : Wait → Type 0) (v : Clock) (ws : List Wait) → All P ws → All P (uncovered v ws)
all_uncovered P v ws h = all_sift P P (λ w. pick (covers v w.clock) none (some w)) ws (λ w x p e. subst P (go (covers v w.clock) w x e) p) h
  where
    go : (b : Bool) (w x : Wait) → pick b none (some w) ≡ some x → w ≡ x
    go true w x e = absurd (false≢true (ap is_some e))
    go false w x e = cc

only_nine : (six seven eight nine : Bool) → six ≡ false → seven ≡ false → eight ≡ false → (given six seven eight nine ≡ 0) ⊎ (given six seven eight nine ≡ 9)
only_nine six seven eight true p q r = inr (rw (p, q, r))
only_nine six seven eight false p q r = inl (rw (p, q, r))

eight_nine : (six seven eight nine : Bool) → six ≡ false → seven ≡ false → (given six seven eight nine ≡ 0) ⊎ ((given six seven eight nine ≡ 8) ⊎ (given six seven eight nine ≡ 9))
eight_nine six seven true nine p q = inr (inl (rw (p, q)))
eight_nine six seven false true p q = inr (inr (rw (p, q)))
eight_nine six seven false false p q = inl (rw (p, q))

six_seven : (six seven eight nine : Bool) → eight ≡ false → nine ≡ false → (given six seven eight nine ≡ 0) ⊎ ((given six seven eight nine ≡ 6) ⊎ (given six seven eight nine ≡ 7))
six_seven true seven eight nine p q = inr (inl refl)
six_seven false true eight nine p q = inr (inr refl)
six_seven false false eight nine p q = inl (rw (p, q))

module _ (l : Limits) (A : Replica) (fits : broken l A ≡ 0) where
  abbrev crowded : Wait → Bool
  crowded w = ltb l.named (length w.members)

  within : Within l A
  within = (unbroken_right l A).0 fits

  -- the tests of another replica
  abbrev six : Replica → Bool
  six R = ltb l.actors (length R.clock)

  abbrev seven : Replica → Bool
  seven R = ltb l.members (length R.entries)

  abbrev eight : Replica → Bool
  eight R = ltb l.waiting (length R.waiting)

  abbrev nine : Replica → Bool
  nine R = any crowded R.waiting

  -- a reset gives no 6, 7 or 8
  pub reset_number : (c : Clock) → (broken l (reset c A) ≡ 0) ⊎ (broken l (reset c A) ≡ 9)
  unfolding broken limits_of first_of reset
  reset_number c = let R = reset c A in
      only_nine (six R) (seven R) (eight R) (nine R)
      (le-ltb l.actors (length R.clock) (le_trans (length_reset c A.clock) within.actors_fit))
      (le-ltb l.members (length R.entries) (le_trans (length_collect (λ e. entry? e.member (reset_by c e.clock)) A.entries) within.members_fit))
      (le-ltb l.waiting (length R.waiting) (le_trans (length_resets c A.waiting) within.waiting_fit))

  -- a remove gives no 6 or 7
  pub remove_number : (c : Clock) (ms : List ℕ) → (broken l (remove c ms A) ≡ 0) ⊎ ((broken l (remove c ms A) ≡ 8) ⊎ (broken l (remove c ms A) ≡ 9))
  unfolding broken limits_of first_of remove
  remove_number c ms = let R = remove c ms A in
      eight_nine (six R) (seven R) (eight R) (nine R)
      (le-ltb l.actors (length A.clock) within.actors_fit)
      (le-ltb l.members (length R.entries) (le_trans (length_removed (record { clock = c; members = set_of ms }) A.entries) within.members_fit))

  -- an add gives no 8 or 9
  pub add_number : (d : Dot) (ms : List ℕ) → (broken l (add d ms A) ≡ 0) ⊎ ((broken l (add d ms A) ≡ 6) ⊎ (broken l (add d ms A) ≡ 7))
  unfolding broken limits_of first_of add settle
  add_number d ms = go (covers A.clock (d ∷ []))
    where
      R : Replica
      R = settle (record { clock = applied A.clock d; entries = takes d ms A.entries; waiting = A.waiting })

      uncrowded : All (λ w. crowded w ≡ false) R.waiting
      uncrowded = all_uncovered (λ w. crowded w ≡ false) R.clock A.waiting (all_map (λ w. length w.members ≤ l.named) (λ w. crowded w ≡ false) A.waiting (λ w k. le-ltb l.named (length w.members) k) within.named_fit)

      go : (b : Bool) → (first_of (limits_of l (pick b A R)) ≡ 0) ⊎ ((first_of (limits_of l (pick b A R)) ≡ 6) ⊎ (first_of (limits_of l (pick b A R)) ≡ 7))
      go true = inl fits
      go false = six_seven (six R) (seven R) (eight R) (nine R)
          (le-ltb l.waiting (length R.waiting) (le_trans (length_collect (λ w. pick (covers R.clock w.clock) none (some w)) A.waiting) within.waiting_fit))
          (none_any crowded R.waiting uncrowded)

fits_fair : (l : Limits) (e : Event) → T (fits l e) → T (fair e)
unfolding fits fair
fits_fair l (Apply (Add d ms)) f = tt
fits_fair l (Apply (Remove c ms)) f = and_l (normal c) (leb (length c) l.actors) f
fits_fair l (MergeWith B) f = (well_formed_from l B f).0
fits_fair l (MergeInto B) f = (well_formed_from l B f).0
fits_fair l (Reset c) f = tt

-- the actors of waiting clocks stay within the limit
module _ (l : Limits) (A : Replica) (short : All (Short l) A.waiting) where
  add_short : (d : Dot) (ms : List ℕ) → All (Short l) (add d ms A).waiting
  unfolding add settle
  add_short d ms = go (covers A.clock (d ∷ []))
    where
      go : (b : Bool) → All (Short l) (pick b A (settle (record { clock = applied A.clock d; entries = takes d ms A.entries; waiting = A.waiting }))).waiting
      go true = short
      go false = all_uncovered (Short l) (applied A.clock d) A.waiting short

  remove_short : (c : Clock) (ms : List ℕ) → length c ≤ l.actors → All (Short l) (remove c ms A).waiting
  unfolding remove
  remove_short c ms k = go (covers A.clock c)
    where
      go : (b : Bool) → All (Short l) (pick b A.waiting (join_waits A.waiting (record { clock = c; members = set_of ms } ∷ [])))
      go true = short
      go false = joined_short l A.waiting (record { clock = c; members = set_of ms } ∷ []) short (k, tt)

  merge_short : (B : Replica) → All (Short l) B.waiting → All (Short l) (merge A B).waiting
  unfolding merge settle
  merge_short B s = all_uncovered (Short l) (merged A.clock B.clock) (join_waits A.waiting B.waiting) (joined_short l A.waiting B.waiting short s)

  reset_short : (c : Clock) → All (Short l) (reset c A).waiting
  unfolding reset
  reset_short c = resets_short l c A.waiting short

pub step_short : (l : Limits) (e : Event) (A : Replica) → T (fits l e) → All (Short l) A.waiting → All (Short l) (step e A).waiting
unfolding fits step apply
step_short l (Apply (Add d ms)) A f s = add_short l A s d ms
step_short l (Apply (Remove c ms)) A f s = remove_short l A s c ms (leb→le (length c) l.actors (and_r (normal c) (leb (length c) l.actors) f))
step_short l (MergeWith B) A f s = merge_short l A s B (well_formed_from l B f).2
step_short l (MergeInto B) A f s = merge_short l B (well_formed_from l B f).2 A s
step_short l (Reset c) A f s = reset_short l A s c

-- an event with well-formed arguments that breaks no limit leaves a well-formed replica well-formed
pub step_well_formed : (l : Limits) (e : Event) (A : Replica) → T (fits l e) → T (well_formed l A) → broken l (step e A) ≡ 0 → T (well_formed l (step e A))
step_well_formed l e A f w g =
    let a = well_formed_from l A w in
    well_formed_to l (step e A) (step_sound e A (fits_fair l e f) a.0) g (step_short l e A f a.2)

-- so a granted merge of well-formed replicas is well-formed
pub merge_well_formed : (l : Limits) (A B M : Replica) → T (well_formed l A) → T (well_formed l B) → merge_by (broken l) A B ≡ granted M → T (well_formed l M)
unfolding merge_by step fits
merge_well_formed l A B M a b e = let g = granted_is (broken l) (merge A B) M e in rw g.0 (step_well_formed l (MergeWith B) A b a g.1)

pub judged_well_formed : (l : Limits) (later : List Event) (A : Replica) → T (every (fits l) later) → T (well_formed l A) → T (well_formed l (judged (within_limits l) later A))
unfolding judged within_limits
judged_well_formed l [] A f w = w
judged_well_formed l (e ∷ later) A f w =
    judged_well_formed l later (pick (eqb (broken l (step e A)) 0) (step e A) A) (and_r (fits l e) (every (fits l) later) f) (go (eqb (broken l (step e A)) 0) refl)
  where
    go : (b : Bool) → eqb (broken l (step e A)) 0 ≡ b → T (well_formed l (pick b (step e A) A))
    go true u = step_well_formed l e A (and_l (fits l e) (every (fits l) later) f) w (eqb-true (broken l (step e A)) 0 u)
    go false u = w
