-- One turn of the walk of an entry's clock along v, and of the loop over entries; the tests of the contents.
use Prim.Native.Nat.{ℕ, zero, suc, ◌+◌, ◌-◌, ◌*◌, ◌≤◌, ◌<◌}
use mathlib.Core.Path.{◌≡◌, refl, sym, ◌∙◌}
use mathlib.Core.Bool.{Bool, true, false, ◌&&◌, and-false}
use mathlib.Core.List.{List, [], ◌∷◌}
use native.Mathlib.Omega.{arith}
use native.Mathlib.Numerals.{add-one}
use lib.Dec.{leb, eqb}
use lib.ListN.{length, get_or, drop, drop_of_length-le}
use lib.Seq.{drop-cons}
use borrow.Author.Tests.{le-leb, lt-leb, lt-ltb, le-ltb, eq-eqb, ne_eqb, leb-true}
use Rattle.tables.specs.Table.{pick}
use Rattle.dots.specs.declared.Dot.{Dot}
use Rattle.dots.specs.Dot.{actor_of}
use Rattle.dots.specs.Clock.{Clock}
use Rattle.dots.specs.Rising.{both_left, both_right}
use Rattle.layout.specs.Fields.{u16_at, u32_at, u64_at}
use Rattle.layout.specs.Clock.{dot_in, dot_at, dots_at, clock_at}
use Rattle.layout.proofs.Form.{length_list_at}
use Rattle.layout.specs.Good.{good_contents_in, good_contents}
use Rattle.fields.proofs.Steps.{list_step, list_end}
use Rattle.image.specs.declared.Meeting.{Meeting}
use Rattle.image.specs.declared.Meeting.TheVariants.{Another, Within, Outside}
use Rattle.image.specs.Fits.{within, met_of, fits, line_for, fit_all}

-- ---- the contents

module _ (s : List ℕ) where
  pub contents_short : length s < 24 → false ≡ good_contents s
  unfolding good_contents_in
  contents_short h = rw (lt-leb 24 (length s) h)

  pub contents_version : (u16_at s 0 ≡ 1 → ⊥) → false ≡ good_contents s
  unfolding good_contents_in
  contents_version h = simp (ne_eqb (u16_at s 0) 1 h, and-false)

  pub contents_zero : (u16_at s 2 ≡ 0 → ⊥) → false ≡ good_contents s
  unfolding good_contents_in
  contents_zero h = simp (ne_eqb (u16_at s 2) 0 h, and-false)

  pub contents_total : (u32_at s 4 ≡ length s → ⊥) → false ≡ good_contents s
  unfolding good_contents_in
  contents_total h = simp (ne_eqb (u32_at s 4) (length s) h, and-false)

  pub contents_many : 64 < u32_at s 12 → false ≡ good_contents s
  unfolding good_contents_in
  contents_many h = simp (lt-leb (u32_at s 12) 64 h, and-false)

  pub contents_waits : 24 ≤ length s → u16_at s 0 ≡ 1 → u16_at s 2 ≡ 0 → u32_at s 4 ≡ length s → u32_at s 12 ≤ 64 → (x : ℕ) → x ≡ u32_at s 20 → leb x 16 ≡ good_contents s
  unfolding good_contents_in
  contents_waits a b c d e x f = rw (f, le-leb 24 (length s) a, eq-eqb (u16_at s 0) 1 b, eq-eqb (u16_at s 2) 0 c, eq-eqb (u32_at s 4) (length s) d, le-leb (u32_at s 12) 64 e)

  pub contents_few : good_contents s ≡ true → (u32_at s 12 ≤ 64) × (u32_at s 20 ≤ 16)
  unfolding good_contents_in
  contents_few h =
      let w = leb (u32_at s 20) 16 in
      let n = leb (u32_at s 12) 64 in
      let t = eqb (u32_at s 4) (length s) in
      let z = eqb (u16_at s 2) 0 in
      let v = eqb (u16_at s 0) 1 in
      let h1 = both_right (leb 24 (length s)) (v && (z && (t && (n && w)))) h in
      let h2 = both_right v (z && (t && (n && w))) h1 in
      let h3 = both_right z (t && (n && w)) h2 in
      let h4 = both_right t (n && w) h3 in
      (leb-true (u32_at s 12) 64 (both_left n w h4), leb-true (u32_at s 20) 16 (both_right n w h4))

-- ---- one dot

module _ (s : List ℕ) (p q line : ℕ) where
  pub met_other : (u32_at s p ≡ u32_at s q → ⊥) → Another ≡ met_of (dot_at s p) (dot_at s q) line
  unfolding met_of dot_in
  met_other n = rw (ne_eqb (u32_at s p) (u32_at s q) n)

  module _ (e : u32_at s p ≡ u32_at s q) where
    pub met_above : u64_at s (q + 4) < u64_at s (p + 4) → Outside ≡ met_of (dot_at s p) (dot_at s q) line
    unfolding met_of dot_in
    met_above h = rw (eq-eqb (u32_at s p) (u32_at s q) e, lt-leb (u64_at s (p + 4)) (u64_at s (q + 4)) h)

    module _ (h : u64_at s (p + 4) ≤ u64_at s (q + 4)) where
      pub met_under : u64_at s (p + 4) ≤ line → Outside ≡ met_of (dot_at s p) (dot_at s q) line
      unfolding met_of dot_in
      met_under l = rw (eq-eqb (u32_at s p) (u32_at s q) e, le-leb (u64_at s (p + 4)) (u64_at s (q + 4)) h, le-ltb line (u64_at s (p + 4)) l)

      pub met_within : line < u64_at s (p + 4) → Within ≡ met_of (dot_at s p) (dot_at s q) line
      unfolding met_of dot_in
      met_within l = rw (eq-eqb (u32_at s p) (u32_at s q) e, le-leb (u64_at s (p + 4)) (u64_at s (q + 4)) h, lt-ltb line (u64_at s (p + 4)) l)

-- ---- a turn along v

module _ (t : List ℕ) (q : ℕ) (x : Dot) (v : Clock) (d : Dot) (ds : Clock) (one : Meeting) where
  -- what each answer says
  record Turn : Type 0 where
    other : one ≡ Another → fits t (suc q) v (d ∷ ds) ≡ fits t q (x ∷ v) (d ∷ ds)
    taken : one ≡ Within → fits t (suc q) v ds ≡ fits t q (x ∷ v) (d ∷ ds)
    refused : one ≡ Outside → false ≡ fits t q (x ∷ v) (d ∷ ds)

  turn : one ≡ met_of d x (get_or t q 0) → Turn
  unfolding fits met_of
  turn e = go (eqb (actor_of d) (actor_of x)) refl (within d.counter x (get_or t q 0)) refl
    where
      go : (a : Bool) → eqb (actor_of d) (actor_of x) ≡ a → (w : Bool) → within d.counter x (get_or t q 0) ≡ w → Turn
      go true f true g = let k : one ≡ Within = e ∙ rw (f, g) in record { other = λ z. absurd (cc); taken = λ z. rw (f, g); refused = λ z. absurd (cc) }
      go true f false g = let k : one ≡ Outside = e ∙ rw (f, g) in record { other = λ z. absurd (cc); taken = λ z. absurd (cc); refused = λ z. rw (f, g) }
      go false f w g = let k : one ≡ Another = e ∙ rw f in record { other = λ z. rw f; taken = λ z. absurd (cc); refused = λ z. absurd (cc) }

-- more dots than v has do not fit
too_many : (t : List ℕ) (q : ℕ) (v ds : Clock) → length v < length ds → fits t q v ds ≡ false
unfolding fits
too_many t q [] [] h = absurd (omega arith)
too_many t q [] (d ∷ ds) h = refl
too_many t q (x ∷ v) [] h = absurd (omega arith)
too_many t q (x ∷ v) (d ∷ ds) h = simp (too_many t (suc q) v ds (omega arith), too_many t (suc q) v (d ∷ ds) (omega arith), and-false) (go (eqb (actor_of d) (actor_of x)))
  where
    go : (b : Bool) → pick b false false ≡ false
    go true = refl
    go false = refl

module _ (t s : List ℕ) (line k : ℕ) where
  -- v from its dot j on, against the dots left at p
  abbrev pub row_ahead : ℕ → ℕ → ℕ → Bool
  row_ahead j p left = fits t (line + j) (dots_at s (28 + 12 * j) (k - j)) (dots_at s p left)

  pub row_end_is : (j p left : ℕ) → left ≤ 0 → true ≡ row_ahead j p left
  unfolding fits
  row_end_is j p left h = rw (list_end dot_at (λ s p. p + 12) s p left h) (go (dots_at s (28 + 12 * j) (k - j)))
    where
      go : (v : Clock) → true ≡ fits t (line + j) v []
      go [] = refl
      go (x ∷ v) = refl

  pub row_done : (j p left : ℕ) → k ≤ j → eqb left 0 ≡ row_ahead j p left
  row_done j p zero h = row_end_is j p 0 (omega arith)
  row_done j p (suc left) h = ne_eqb (suc left) 0 (λ z. omega arith) ∙ sym (too_many t (line + j) (dots_at s (28 + 12 * j) (k - j)) (dots_at s p (suc left)) (simp length_list_at (omega arith)))

  module _ (j p left : ℕ) (one : Meeting) (h : j < k) (l : 0 < left) (e : one ≡ met_of (dot_at s p) (dot_at s (28 + 12 * j)) (get_or t (line + j) 0)) where
    abbrev x : Dot
    x = dot_at s (28 + 12 * j)

    abbrev v : Clock
    v = dots_at s (28 + 12 * (j + 1)) (k - (j + 1))

    abbrev d : Dot
    d = dot_at s p

    abbrev ds : Clock
    ds = dots_at s (p + 12) (left - 1)

    clock_first : dots_at s (28 + 12 * j) (k - j) ≡ x ∷ v
    clock_first = let f : 28 + 12 * j + 12 ≡ 28 + 12 * (j + 1) = omega arith in rw f at (list_step dot_at (λ s p. p + 12) s (28 + 12 * j) (k - j) (k - (j + 1)) (omega arith))

    row_first : dots_at s p left ≡ d ∷ ds
    row_first = list_step dot_at (λ s p. p + 12) s p left (left - 1) (omega arith)

    here : row_ahead j p left ≡ fits t (line + j) (x ∷ v) (d ∷ ds)
    here = rw (clock_first, row_first)

    next_line : line + (j + 1) ≡ suc (line + j)
    next_line = omega arith

    turned : Turn t (line + j) x v d ds one
    turned = turn t (line + j) x v d ds one e

    pub row_refused : one ≡ Outside → false ≡ row_ahead j p left
    row_refused y = turned.refused y ∙ sym here

    pub row_taken : one ≡ Within → row_ahead (j + 1) (p + 12) (left - 1) ≡ row_ahead j p left
    row_taken y = rw next_line (turned.taken y) ∙ sym here

    pub row_other : one ≡ Another → row_ahead (j + 1) p left ≡ row_ahead j p left
    row_other y = rw (next_line, row_first) (turned.other y) ∙ sym here

    -- as many dots as the clock has: one that is not taken is left over
    pub row_out : k - j ≤ left → (one ≡ Within → ⊥) → false ≡ row_ahead j p left
    row_out m y = go one refl
      where
        go : (o : Meeting) → one ≡ o → false ≡ row_ahead j p left
        go Another f = sym (too_many t (line + (j + 1)) v (dots_at s p left) (simp length_list_at (omega arith))) ∙ row_other f
        go Within f = absurd (y f)
        go Outside f = row_refused f

-- ---- a turn over the entries

pub line_room : (own : Bool) (i q n : ℕ) → i < 64 → q ≡ line_for own i → pick own 1024 16 ≤ n → q + 16 ≤ n
line_room true i q n h e k = omega arith
line_room false i q n h e k = omega arith

module _ (t s : List ℕ) (v : Clock) (places : List ℕ) (i p : ℕ) (h : i < length places) (e : p ≡ get_or places i 0) (b : Bool) (own : Bool) (q : ℕ) (g : q ≡ line_for own i) (f : b ≡ fits t q v (clock_at s (p + 4))) where
  turn_all : fit_all t s v own i (drop i places) ≡ (fits t (line_for own i) v (clock_at s (p + 4)) && fit_all t s v own (i + 1) (drop (i + 1) places))
  unfolding fit_all
  turn_all = rw (drop-cons places i 0, add-one i, ← e)

  pub all_turn : b ≡ true → fit_all t s v own (i + 1) (drop (i + 1) places) ≡ fit_all t s v own i (drop i places)
  all_turn y = sym (turn_all ∙ rw (← g, sym f ∙ y))

  pub all_stop : b ≡ false → false ≡ fit_all t s v own i (drop i places)
  all_stop y = sym (turn_all ∙ rw (← g, sym f ∙ y))

pub all_end : (t s : List ℕ) (v : Clock) (own : Bool) (places : List ℕ) (i : ℕ) → length places ≤ i → true ≡ fit_all t s v own i (drop i places)
unfolding fit_all
all_end t s v own places i h = rw (drop_of_length-le places h)
