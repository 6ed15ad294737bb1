-- The loop over the dots of two entries: one turn, and what is ahead.
use Prim.Native.Nat.{ℕ, zero, suc, ◌+◌, ◌*◌, ◌-◌, ◌≤◌, ◌<◌}
use mathlib.Core.Path.{◌≡◌, refl, sym, ap, ap₂, ◌∙◌}
use mathlib.Core.Bool.{Bool, true, false}
use mathlib.Core.List.{List, [], ◌∷◌, ◌++◌}
use native.Mathlib.Omega.{arith}
use native.Mathlib.Nat.{add-zero, zero-add, mul-zero}
use lib.Dec.{eqb}
use lib.ListN.{length, get_or, length-append}
use lib.Seq.{sets, length-sets}
use Rattle.tables.specs.Table.{pick, cons?}
use Rattle.tables.specs.Zip.{said, past}
use Rattle.dots.specs.declared.Dot.{Dot}
use Rattle.dots.specs.Dot.{dots, dot?}
use Rattle.dots.specs.Clock.{Clock}
use Rattle.layout.specs.Fields.{u32_at, u64_at, le32, le64}
use Rattle.layout.proofs.FieldsFacts.{length_le32, length_le64}
use Rattle.layout.specs.Lists.{bytes_of}
use Rattle.layout.specs.Clock.{narrow, dot_in, dot_end_in, dot_at, dots_at, encode_dot, encode_dots, encode_dot_in}
use Rattle.merging.specs.declared.entries.Dots.{Dots}
use Rattle.merging.specs.declared.entries.Places.{Places}
use Rattle.merging.specs.Ahead.{key_ahead, Met, said_ahead, past_ahead, wrote, length_cons}
use Rattle.changing.specs.Kept.{keep_of}
use Rattle.merging.proofs.AheadSteps.{met_none, met_yes, met_no}
use Rattle.merging.specs.Keeping.{dot_list, Took, KeptDot, KeptDots, lines_from, kept_along}

-- ---- bytes of dots

length_dot : (d : Dot) → length (encode_dot d) ≡ 12
unfolding encode_dot_in
length_dot d = simp (length-append, length_le32, length_le64)

pub length_dots : (c : Clock) → length (encode_dots c) ≡ 12 * length c
unfolding bytes_of
length_dots [] = refl
length_dots (d ∷ c) = let e = length_dots c in let f = length_dot d in simp length-append (omega arith)

pub dot_none : (a n : ℕ) → n ≡ 0 → dot_list a n ≡ []
dot_none a n e = rw e

pub dot_bytes : (a n : ℕ) → (n ≡ 0 → ⊥) → (length (dot_list a n) ≡ 1) × (encode_dots (dot_list a n) ≡ le32 a ++ le64 n)
unfolding bytes_of encode_dot_in
dot_bytes a zero h = absurd (h refl)
dot_bytes a (suc n) h = (refl, append-nil (le32 a ++ le64 (suc n)))
  where
    append-nil : (l : List ℕ) → l ++ [] ≡ l
    append-nil [] = refl
    append-nil (x ∷ l) = ap (λ (r : List ℕ). x ∷ r) (append-nil l)

-- ---- one side: the dot that is met, and the place after it

keyed : (s : List ℕ) (p : ℕ) → dots.key (dot_at s p) ≡ u32_at s p
unfolding dot_in
keyed s p = refl

pick_hit : (b : Bool) (x y : ℕ) → pick (eqb (pick b 1 0) 0) x y ≡ pick b y x
pick_hit true x y = refl
pick_hit false x y = refl

module _ (s : List ℕ) (p n a i : ℕ) (small : a < 4294967296) (m : Met s p n a i) where
  pub dot_said : (u : ℕ) → u ≡ pick (eqb i 0) 0 (u64_at s (p + 4)) → u ≡ said dots a (dots_at s p n)
  unfolding dot_in
  dot_said u e = e ∙ rw (m.is small) (pick_hit (eqb (key_ahead s p n) a) 0 (u64_at s (p + 4))) ∙ sym (said_ahead dots dot_at (dot_end_in narrow) keyed s p a small n)

  place : (b : Bool) → p + 12 * pick b 1 0 ≡ pick b (p + 12) p
  place true = refl
  place false = omega arith

  pub dot_past : dots_at s (p + 12 * i) (n - i) ≡ past dots a (dots_at s p n)
  dot_past = rw (m.is small, place (eqb (key_ahead s p n) a)) (sym (past_ahead dots dot_at (dot_end_in narrow) keyed s p a small n))

  pub dot_edge : p + 12 * i + 12 * (n - i) ≡ p + 12 * n
  dot_edge = let f = m.fits in let o = m.one in omega arith

abbrev dots_of_two : ℕ → ℕ → Dots
dots_of_two x y = record { at = x; left = y }

-- ---- one step of a walk: the dot ahead is the actor's, or not

module _ (s : List ℕ) (a : ℕ) (k : Dots) (small : a < 4294967296) where
  took : (i u : ℕ) (k' : Dots) → Met s k.at k.left a i → u ≡ pick (eqb i 0) 0 (u64_at s (k.at + 4)) → k' ≡ record { at = k.at + 12 * i; left = k.left - i } → Took s a k k' u
  took i u k' m e f = rw f (record { is = dot_said s k.at k.left a i small m u e; past = dot_past s k.at k.left a i small m; edge = dot_edge s k.at k.left a i small m })

  stays_here : k ≡ record { at = k.at + 12 * 0; left = k.left - 0 }
  stays_here = let e : k.at ≡ k.at + 12 * 0 = omega arith in let f : k.left ≡ k.left - 0 = omega arith in ap₂ dots_of_two e f

  pub took_none : k.left ≡ 0 → Took s a k k 0
  took_none e = took 0 0 k (met_none s k.at k.left a small e) refl stays_here

  pub took_other : (k.left ≡ 0 → ⊥) → (u32_at s k.at ≡ a → ⊥) → Took s a k k 0
  took_other h e = took 0 0 k (met_no s k.at k.left a small h e) refl stays_here

  pub took_one : (k.left ≡ 0 → ⊥) → u32_at s k.at ≡ a → (u : ℕ) → u ≡ u64_at s (k.at + 4) → Took s a k (record { at = k.at + 12; left = k.left - 1 }) u
  took_one h e u f = took 1 u _ (met_yes s k.at k.left a small h e) f refl

-- ---- one turn

-- ---- the loop

-- what is kept from the turn i on
abbrev pub ahead : List ℕ → List ℕ → List ℕ → List ℕ → ℕ → List ℕ → ℕ → ℕ → Places → ℕ → Clock
ahead s t vs ka ja kb ib n k i = kept_along (lines_from vs ka ja kb ib i (n - i)) (dots_at s k.x.at k.x.left) (dots_at t k.y.at k.y.left)

pub record Keeping (s t vs ka : List ℕ) (ja : ℕ) (kb : List ℕ) (ib n p ex ey : ℕ) (out₀ : List ℕ) (whole : Clock) (out : List ℕ) (k : Places) (i : ℕ) : Type 0 where
  pub within : i ≤ n
  pub few : k.n ≤ i
  pub left_edge : k.x.at + 12 * k.x.left ≡ ex
  pub right_edge : k.y.at + 12 * k.y.left ≡ ey
  pub size : length out ≡ length out₀
  pub store : sets out (p + 12 * k.n) (encode_dots (ahead s t vs ka ja kb ib n k i)) ≡ sets out₀ p (encode_dots whole)
  pub count : k.n + length (ahead s t vs ka ja kb ib n k i) ≡ length whole

module _ {s t vs ka : List ℕ} {ja : ℕ} {kb : List ℕ} {ib n p ex ey : ℕ} {out₀ : List ℕ} {whole : Clock} {out : List ℕ} {k : Places} {i : ℕ} (z : Keeping s t vs ka ja kb ib n p ex ey out₀ whole out k i) where
  pub keep_again : i < n → (out' : List ℕ) (k' : Places) → KeptDot s t (get_or vs i 0) (get_or ka (ja + i) 0) (get_or kb (ib + i) 0) out p k out' k'
      → Keeping s t vs ka ja kb ib n p ex ey out₀ whole out' k' (i + 1)
  unfolding lines_from kept_along
  keep_again lt out' k' d =
      let a = get_or vs i 0 in
      let w = keep_of (get_or ka (ja + i) 0) (get_or kb (ib + i) 0) (said dots a (dots_at s k.x.at k.x.left)) (said dots a (dots_at t k.y.at k.y.left)) in
      let l = dot_list a w in
      let o = dot? a w in
      let m : n - i ≡ suc (n - (i + 1)) = omega arith in
      let turn : ahead s t vs ka ja kb ib n k i ≡ cons? o (ahead s t vs ka ja kb ib n k' (i + 1)) = rw (m, d.left, d.right) in
      let one = d.count in
      let long : length l ≤ 1 = dot_few a w in
      let few = z.few in
      let place : p + 12 * k'.n ≡ p + 12 * k.n + length (encode_dots l) = rw length_dots (omega arith) in
      record {
        within = omega arith;
        few = omega arith;
        left_edge = d.left_edge ∙ z.left_edge;
        right_edge = d.right_edge ∙ z.right_edge;
        size = ap length d.bytes ∙ length-sets out (p + 12 * k.n) (encode_dots l) ∙ z.size;
        store = rw (d.bytes, place) (wrote encode_dot out (p + 12 * k.n) o (ahead s t vs ka ja kb ib n k' (i + 1))) ∙ ap (λ (r : Clock). sets out (p + 12 * k.n) (encode_dots r)) (sym turn) ∙ z.store;
        count = let e = length_cons encode_dot o (ahead s t vs ka ja kb ib n k' (i + 1)) in let g = ap length turn in let h = z.count in omega arith;
      }
    where
      dot_few : (a n : ℕ) → length (dot_list a n) ≤ 1
      dot_few a zero = omega arith
      dot_few a (suc n) = omega arith

  pub keep_end : n ≤ i → KeptDots out₀ p whole out k.n
  unfolding lines_from kept_along bytes_of
  keep_end le =
      let w = z.within in
      let m : n - i ≡ 0 = omega arith in
      record { count = rw (m, add-zero) at z.count; bytes = rw m at z.store }

pub keep_begin : (s t vs ka : List ℕ) (ja : ℕ) (kb : List ℕ) (ib n p : ℕ) (k : Places) (out : List ℕ) → k.n ≡ 0
    → Keeping s t vs ka ja kb ib n p (k.x.at + 12 * k.x.left) (k.y.at + 12 * k.y.left) out (kept_along (lines_from vs ka ja kb ib 0 n) (dots_at s k.x.at k.x.left) (dots_at t k.y.at k.y.left)) out k 0
keep_begin s t vs ka ja kb ib n p k out z =
    let e : n - 0 ≡ n = omega arith in
    record { within = omega arith; few = omega arith; left_edge = refl; right_edge = refl; size = refl; store = rw (e, z, mul-zero, add-zero); count = rw (e, z, zero-add) }
