-- Entries whose keys differ along the actors of our clock hold no dot in common, so they have no sight to report.
use Prim.Native.Nat.{ℕ, zero, suc, ◌+◌, ◌*◌, ◌≤◌, ◌<◌}
use mathlib.Core.Path.{◌≡◌, refl, sym, ap, ◌∙◌}
use mathlib.Core.Bool.{Bool, true, false, not, ◌&&◌, false≢true}
use mathlib.Core.Option.{Option, none, some}
use mathlib.Core.List.{List, [], ◌∷◌, map}
use native.Mathlib.Omega.{arith}
use native.Mathlib.Nat.{zero-add, add-zero}
use lib.Dec.{T, eqb, leb→le, ltb→lt}
use lib.ListN.{length, take, get_or, set, replicate, length-set}
use lib.Seq.{sets, length-sets, get_or-set_same, get_or-set_other}
use borrow.Author.Tests.{eq-eqb, ne_eqb}
use Rattle.tables.specs.Table.{All, Normal, row_at, key_at, all_at, at_all, all_both, every_all}
use Rattle.tables.specs.Zip.{Rise, by_lt}
use Rattle.dots.specs.declared.Dot.{Dot}
use Rattle.dots.specs.Dot.{actor_of, counter_of, dots, clocks}
use Rattle.dots.specs.Clock.{Clock, count, covers_dot, covers}
use Rattle.dots.specs.ClockLaws.{dot_proper}
use Rattle.dots.specs.Rising.{rising}
use Rattle.replica.specs.Replica.{Entry}
use Rattle.replica.specs.Validate.{Triple}
use Rattle.replica.specs.Limits.{full}
use Rattle.layout.specs.Fields.{u32_at}
use Rattle.layout.specs.Clock.{dot_in, dot_end_in, dots_at, clock_in, clock_at, narrow}
use Rattle.layout.specs.Rows.{row_in, row_at as entry_at}
use Rattle.layout.specs.Image.{image_in, image_of}
use Rattle.layout.proofs.Form.{length_list_at}
use Rattle.layout.specs.Kit.{Stands}
use Rattle.layout.proofs.KitFacts.{stands}
use Rattle.layout.specs.Formed.{EntryFine}
use Rattle.layout.proofs.Checks.{passed}
use Rattle.kills.specs.Lines.{reach}
use Rattle.kills.specs.Laws.{along_is}
use Rattle.validating.specs.Search.{reportable, spotted, sights, key_of, keys_of, Listed, Keyed, Apart}
use Rattle.validating.proofs.Steps.{Unspotted}
use Rattle.validating.proofs.Found.{sight_of, sights_are}

-- ---- the tests of a line

pub apart_turn : (keys lines : List ℕ) (j k : ℕ) (before r : Bool) → r ≡ (not (eqb (get_or keys k 0) (get_or lines (16 * j + k) 0)) && before) → (before ≡ true → Apart keys lines j k) → r ≡ true → Apart keys lines j (k + 1)
apart_turn keys lines j k before r e h t = go (eqb (get_or keys k 0) (get_or lines (16 * j + k) 0)) refl (sym e ∙ t)
  where
    go : (b : Bool) → eqb (get_or keys k 0) (get_or lines (16 * j + k) 0) ≡ b → (not b && before) ≡ true → Apart keys lines j (k + 1)
    go true q f = absurd (false≢true f)
    go false q f = record {
      differ = λ i l s. by_lt i k (λ m. (h f).differ i m s) (λ m. let x : i ≡ k = omega arith in false≢true (sym q ∙ eq-eqb (get_or keys k 0) (get_or lines (16 * j + k) 0) (rw x at s)));
    }

-- ---- the lines that are put one after the other

sets_low : (l : List ℕ) (p : ℕ) (xs : List ℕ) (q : ℕ) → q < p → get_or (sets l p xs) q 0 ≡ get_or l q 0
sets_low l p [] q h = refl
sets_low l p (x ∷ xs) q h = sets_low (set l p x) (suc p) xs q (omega arith) ∙ get_or-set_other l p q x 0 (λ e. omega arith)

sets_here : (l : List ℕ) (p : ℕ) (xs : List ℕ) (k : ℕ) → k < length xs → p + k < length l → get_or (sets l p xs) (p + k) 0 ≡ get_or xs k 0
sets_here l p [] k h g = absurd (omega arith)
sets_here l p (x ∷ xs) zero h g = rw add-zero (sets_low (set l p x) (suc p) xs p (omega arith) ∙ get_or-set_same l p x 0 (omega arith))
sets_here l p (x ∷ xs) (suc k) h g =
    let e : p + suc k ≡ suc p + k = omega arith in
    let f : suc p + k < length (set l p x) = rw length-set (omega arith) in
    rw e (sets_here (set l p x) (suc p) xs k (omega arith) f)

length_along : (missing : ℕ) (v c : Clock) → length (keys_of missing v c) ≡ length v
unfolding keys_of
length_along missing [] c = refl
length_along missing (d ∷ v) c = ap suc (length_along missing v (reach dots (actor_of d) c))

pub lines_turn : (v : Clock) (s places lines lines' : List ℕ) (j m p : ℕ) → j < 64 → m ≤ 16 → length v ≡ m → p ≡ get_or places j 0 → lines' ≡ sets lines (16 * j) (keys_of 0 v (clock_at s (p + 4)))
    → Keyed v s places lines j m → Keyed v s places lines' (j + 1) m
lines_turn v s places lines lines' j m p h few n e w r = let l = r.long in record {
  long = rw w (length-sets lines (16 * j) (keys_of 0 v (clock_at s (p + 4))) ∙ l);
  line = λ i k l g. by_lt i j
      (λ x. rw w (sets_low lines (16 * j) (keys_of 0 v (clock_at s (p + 4))) (16 * i + k) (omega arith) ∙ r.line i k x g))
      (λ x. let y : i ≡ j = omega arith in rw (y, w, ← e) (sets_here lines (16 * j) (keys_of 0 v (clock_at s (p + 4))) k (omega (arith, length_along 0 v (clock_at s (p + 4)))) (omega arith)));
}

-- ---- dots that are held

same_key : (x y n : ℕ) → 0 < n → key_of x n ≡ key_of y n
unfolding key_of
same_key x y n h = rw (ne_eqb n 0 (λ e. omega arith))

abbrev Differ : Clock → Clock → Dot → Type 0
Differ os ts d = key_of 65535 (count os (actor_of d)) ≡ key_of 0 (count ts (actor_of d)) → ⊥

module _ (vs os ts : Clock) (h : All (Differ os ts) vs) where
  held_differs : (d : Dot) → row_at clocks os (actor_of d) ≡ some d → 0 < d.counter → d.counter ≤ count vs (actor_of d) → count ts (actor_of d) ≡ d.counter → ⊥
  held_differs d e pos le q = go (row_at clocks vs (actor_of d)) refl
    where
      go : (o : Option Dot) → row_at clocks vs (actor_of d) ≡ o → ⊥
      go none f = let z : count vs (actor_of d) ≡ 0 = ap counter_of f in omega arith
      go (some r) f =
          let k = key_at clocks vs (actor_of d) r f in
          all_at clocks (Differ os ts) vs h (actor_of d) r f
          (ap (λ (a : ℕ). key_of 65535 (count os a)) (sym k) ∙ ap (λ (o : Option Dot). key_of 65535 (counter_of o)) e ∙ same_key 65535 0 d.counter pos
          ∙ ap (key_of 0) (sym q) ∙ ap (λ (a : ℕ). key_of 0 (count ts a)) k)

all_of_map : {X Y : Type 0} (P : Y → Type 0) (f : X → Y) (xs : List X) → All (λ x. P (f x)) xs → All P (map f xs)
all_of_map P f [] h = tt
all_of_map P f (x ∷ xs) h = (h.0, all_of_map P f xs h.1)

unspotted_dot : (o t : Entry) (d : Dot) → (count t.clock (actor_of d) ≡ d.counter → ⊥) → spotted (sight_of (record { our = o; their = t; dot = d })) ≡ false
unfolding spotted reportable
unspotted_dot o t d h = rw (ne_eqb (count t.clock (actor_of d)) d.counter h) (go (eqb o.member t.member))
  where
    go : (b : Bool) → (not b && false) ≡ false
    go true = refl
    go false = refl

entries_apart : (v : Clock) (o t : Entry) → Normal clocks o.clock → T (covers v o.clock) → Rise dots t.clock → All (Differ o.clock t.clock) v
    → Unspotted (sights o.member t.member o.clock t.clock)
unfolding covers
entries_apart v o t n c r h =
    rw (sights_are o t n.asc r) (all_of_map (λ s. spotted s ≡ false) sight_of (map three o.clock) (all_of_map (λ x. spotted (sight_of x) ≡ false) three o.clock
    (all_both Held (λ d. T (covers_dot v d)) (λ d. spotted (sight_of (three d)) ≡ false) o.clock
    (λ d x y. unspotted_dot o t d (held_differs v o.clock t.clock h d x.0 x.1 (leb→le d.counter (count v (actor_of d)) y)))
    (at_all clocks Held o.clock n (λ d e p. (e, ltb→lt 0 d.counter (dot_proper d p)))) (every_all (covers_dot v) o.clock c))))
  where
    three : Dot → Triple
    three d = record { our = o; their = t; dot = d }

    Held : Dot → Type 0
    Held d = (row_at clocks o.clock (actor_of d) ≡ some d) × (0 < d.counter)

-- ---- entries whose keys differ

all_differ : (os ts vs : Clock)
    → ((k : ℕ) → k < length vs → get_or (map (key_of 65535) (map (λ a. count os a) (map (λ d. actor_of d) vs))) k 0 ≡ get_or (map (key_of 0) (map (λ a. count ts a) (map (λ d. actor_of d) vs))) k 0 → ⊥)
    → All (Differ os ts) vs
all_differ os ts [] h = tt
all_differ os ts (d ∷ vs) h = (h 0 (omega arith), all_differ os ts vs (λ k l. h (suc k) (omega arith)))

keys_are : (missing : ℕ) (v c : Clock) → Rise dots v → Rise dots c → keys_of missing v c ≡ map (key_of missing) (map (λ a. count c a) (map (λ d. actor_of d) v))
unfolding keys_of
keys_are missing v c rv rc = ap (map (key_of missing)) (along_is dots (map (λ d. actor_of d) v) c rv rc)

all_place : {R : Type 0} (P : R → Type 0) (f : ℕ → R) (l : List ℕ) (n i : ℕ) → i < n → n ≤ length l → All P (map f (take n l)) → P (f (get_or l i 0))
all_place P f [] n i h g a = absurd (omega arith)
all_place P f (x ∷ l) zero i h g a = absurd (omega arith)
all_place P f (x ∷ l) (suc n) zero h g a = a.0
all_place P f (x ∷ l) (suc n) (suc i) h g a = all_place P f l n i (omega arith) (omega arith) a.1

entry_fine : (s places : List ℕ) (n i p : ℕ) → Listed s places n → i < n → n ≤ length places → p ≡ get_or places i 0 → EntryFine full (image_of s) (entry_at s p)
entry_fine s places n i p h l g e = rw e (all_place (EntryFine full (image_of s)) (entry_at s) places n i l g (rw h.rows (passed s h.good).formed.entries_ok))

-- what is known before the search: both lists of entries, and the keys of theirs along our m actors
pub record Ready (a ours b theirs lines : List ℕ) (m : ℕ) : Type 0 where
  pub ours_ok : Listed a ours (length ours)
  pub theirs_ok : Listed b theirs (length theirs)
  pub actors_are : m ≡ u32_at a 24
  pub actors_few : m ≤ 16
  pub lines_are : Keyed (dots_at a 28 m) b theirs lines (length theirs) m

-- what is known of our i-th entry, at p
pub record OurRow (a ours keys : List ℕ) (i p our n m : ℕ) : Type 0 where
  pub place_is : p ≡ get_or ours i 0
  pub member_is : our ≡ u32_at a p
  pub count_is : n ≡ u32_at a (p + 4)
  pub stands_ok : Stands a (p + 4)
  pub keys_ok : keys ≡ sets (replicate 16 65535) 0 (keys_of 65535 (dots_at a 28 m) (clock_at a (p + 4)))

pub row_apart : (a ours b theirs keys lines : List ℕ) (m i p our n j q : ℕ) → Ready a ours b theirs lines m → OurRow a ours keys i p our n m → i < length ours → j < length theirs → q ≡ get_or theirs j 0
    → Apart keys lines j 16 → Unspotted (sights (entry_at a p).member (entry_at b q).member (entry_at a p).clock (entry_at b q).clock)
unfolding image_in clock_in row_in
row_apart a ours b theirs keys lines m i p our n j q g o li lj eq x =
    let v = dots_at a 28 m in
    let os = clock_at a (p + 4) in
    let ts = clock_at b (q + 4) in
    let few = g.actors_few in
    let fa = entry_fine a ours (length ours) i p g.ours_ok li (omega arith) o.place_is in
    let fb = entry_fine b theirs (length theirs) j q g.theirs_ok lj (omega arith) eq in
    let cv : (image_of a).clock ≡ v = rw g.actors_are in
    let rv : Rise dots v = rw (← cv) (passed a g.ours_ok.good).formed.clock_ok.asc in
    let l : length v ≡ m = length_list_at (dot_in narrow) (dot_end_in narrow) a 28 m in
    let d = all_differ os ts v (λ k h e. x.differ k (omega arith)
    (ap (λ (y : List ℕ). get_or y k 0) o.keys_ok ∙ (rw (zero-add k) at (sets_here (replicate 16 65535) 0 (keys_of 65535 v os) k (omega (arith, length_along 65535 v os)) (omega arith)))
    ∙ ap (λ (y : List ℕ). get_or y k 0) (keys_are 65535 v os rv fa.normal_ok.asc)
    ∙ e ∙ sym (g.lines_are.line j k lj (omega arith) ∙ rw (← eq) (ap (λ (y : List ℕ). get_or y k 0) (keys_are 0 v ts rv fb.normal_ok.asc))))) in
    entries_apart v (entry_at a p) (entry_at b q) fa.normal_ok (rw (← cv) fa.covers_ok) fb.normal_ok.asc d

-- the clock of an image stands at 24
pub clock_stands : (s places : List ℕ) (n : ℕ) → Listed s places n → Stands s 24
clock_stands s places n h = stands s 24 (passed s h.good).clock_good

pub clock_rises : (s : List ℕ) (m : ℕ) → Stands s 24 → m ≡ u32_at s 24 → rising 0 (dots_at s 28 m) ≡ true
unfolding clock_in
clock_rises s m h e = rw e h.rises
