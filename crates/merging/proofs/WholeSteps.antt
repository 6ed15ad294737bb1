-- An entry that stays whole: what is kept of it, and its bytes.
use Prim.Native.Nat.{ℕ, zero, suc, ◌+◌, ◌*◌, ◌-◌, ◌≤◌, ◌<◌}
use mathlib.Core.Path.{◌≡◌, refl, sym, ap, ap₂, ◌∙◌}
use mathlib.Core.Logic.{◌⊎◌, inl, inr}
use mathlib.Core.List.{List, [], ◌∷◌, ◌++◌}
use native.Mathlib.Omega.{arith}
use native.Mathlib.Nat.{zero-add}
use native.Mathlib.Numerals.{add-one}
use lib.Bits.{bit_or, or_add_and, and_le_l, and_le_r}
use lib.ListN.{length, get_or, take, drop, length-take}
use lib.Seq.{sets, slice, take-add, take_at, drop_at, drop-cons, get_or-take, get_or-drop, take-length}
use borrow.Author.Tests.{eq-eqb, ne_eqb, lt-ltb, le-ltb}
use Rattle.tables.specs.Table.{cons?}
use Rattle.tables.specs.Zip.{said, past, by_lt}
use Rattle.tables.specs.Walk.{walked, length_walked}
use Rattle.dots.specs.Dot.{dots, dot?}
use Rattle.dots.specs.Clock.{Clock}
use Rattle.layout.specs.Fields.{Bytes}
use Rattle.layout.specs.Lists.{list_at}
use Rattle.layout.specs.Clock.{narrow, dot_end_in, dot_at, dots_at, encode_dots}
use Rattle.layout.proofs.Form.{length_list_at, stands_list, steady_end}
use Rattle.layout.proofs.Parts.{sound_narrow, dot_form, faithful_dot}
use Rattle.changing.specs.Kept.{keep_of, met_along}
use Rattle.merging.specs.declared.entries.Dots.{Dots}
use Rattle.merging.specs.Keeping.{Took, KeptDots, Line, lines_from, kept_along, Above, Stays}
use Rattle.merging.proofs.KeepSteps.{length_dots}

-- n actors from k on
abbrev pub actors_from : List ℕ → ℕ → ℕ → List ℕ
actors_from vs k zero = []
actors_from vs k (suc n) = get_or vs k 0 ∷ actors_from vs (k + 1) n

pub actors_take : (vs : List ℕ) (k n : ℕ) → k + n ≤ length vs → actors_from vs k n ≡ take n (drop k vs)
actors_take vs k zero h = refl
actors_take vs k (suc n) h = ap (λ (l : List ℕ). get_or vs k 0 ∷ l) (actors_take vs (k + 1) n (omega arith)) ∙ sym (ap (take (suc n)) (drop_one vs k (omega arith)))
  where
    drop_one : (vs : List ℕ) (k : ℕ) → k < length vs → drop k vs ≡ get_or vs k 0 ∷ drop (k + 1) vs
    drop_one vs k h = rw add-one (drop-cons vs k 0 h)

pub actors_all : (vs : List ℕ) → actors_from vs 0 (length vs) ≡ vs
actors_all vs = actors_take vs 0 (length vs) (omega arith) ∙ take-length vs

-- ---- one counter

keep_left : (la lb u : ℕ) → (u ≡ 0) ⊎ (lb < u) → keep_of la lb u 0 ≡ u
unfolding keep_of
keep_left la lb u (inl e) = rw e
keep_left la lb u (inr h) = rw (ne_eqb u 0 (λ z. omega arith), lt-ltb lb u h)

keep_right : (la lb w : ℕ) → (w ≡ 0) ⊎ (la < w) → keep_of la lb 0 w ≡ w
unfolding keep_of
keep_right la lb w (inl e) = rw e
keep_right la lb w (inr h) = rw (ne_eqb 0 w (λ z. omega arith), le-ltb lb 0 (omega arith), lt-ltb la w h)

keep_same : (la lb u : ℕ) → keep_of la lb u u ≡ u
unfolding keep_of
keep_same la lb u = rw (eq-eqb u u refl)

-- ---- along the actors

module _ (vs ka : List ℕ) (ja : ℕ) (kb : List ℕ) (ib : ℕ) where
  pub above_left : (k n : ℕ) (x : Clock) → Above vs kb ib k n x → kept_along (lines_from vs ka ja kb ib k n) x [] ≡ met_along (actors_from vs k n) x
  unfolding lines_from kept_along walked Above
  above_left k zero x h = refl
  above_left k (suc n) x h = let a = get_or vs k 0 in
      ap₂ cons? (ap (dot? a) (keep_left (get_or ka (ja + k) 0) (get_or kb (ib + k) 0) (said dots a x) h.0)) (above_left (k + 1) n (past dots a x) h.1)

  above_right : (k n : ℕ) (y : Clock) → Above vs ka ja k n y → kept_along (lines_from vs ka ja kb ib k n) [] y ≡ met_along (actors_from vs k n) y
  unfolding lines_from kept_along walked Above
  above_right k zero y h = refl
  above_right k (suc n) y h = let a = get_or vs k 0 in
      ap₂ cons? (ap (dot? a) (keep_right (get_or ka (ja + k) 0) (get_or kb (ib + k) 0) (said dots a y) h.0)) (above_right (k + 1) n (past dots a y) h.1)

  same_both : (k n : ℕ) (x : Clock) → kept_along (lines_from vs ka ja kb ib k n) x x ≡ met_along (actors_from vs k n) x
  unfolding lines_from kept_along walked
  same_both k zero x = refl
  same_both k (suc n) x = let a = get_or vs k 0 in
      ap₂ cons? (ap (dot? a) (keep_same (get_or ka (ja + k) 0) (get_or kb (ib + k) 0) (said dots a x))) (same_both (k + 1) n (past dots a x))

  module _ (x y : Clock) where
    pub stays_left : met_along vs x ≡ x → Stays vs kb ib (length vs) x y → kept_along (lines_from vs ka ja kb ib 0 (length vs)) x y ≡ x
    stays_left m (inl h) = rw h.0 (above_left 0 (length vs) x h.1 ∙ ap (λ (l : List ℕ). met_along l x) (actors_all vs) ∙ m)
    stays_left m (inr e) = rw e (same_both 0 (length vs) x ∙ ap (λ (l : List ℕ). met_along l x) (actors_all vs) ∙ m)

    pub stays_right : met_along vs y ≡ y → Stays vs ka ja (length vs) y x → kept_along (lines_from vs ka ja kb ib 0 (length vs)) x y ≡ y
    stays_right m (inl h) = rw h.0 (above_right 0 (length vs) y h.1 ∙ ap (λ (l : List ℕ). met_along l y) (actors_all vs) ∙ m)
    stays_right m (inr e) = rw e (same_both 0 (length vs) y ∙ ap (λ (l : List ℕ). met_along l y) (actors_all vs) ∙ m)

-- the lines of a part of each side's numbers are those from its place on
get_part : (l : List ℕ) (a u i : ℕ) → i < u → get_or (take u (drop a l)) i 0 ≡ get_or l (a + i) 0
get_part l a u i h = get_or-take u (drop a l) i 0 h ∙ get_or-drop a l i 0

abbrev line_with : ℕ → ℕ → ℕ → Line
line_with a i j = record { actor = a; ours = i; theirs = j }

pub lines_part : (vs ka : List ℕ) (a u : ℕ) (kb : List ℕ) (b w k n : ℕ) → k + n ≤ u → k + n ≤ w → lines_from vs (take u (drop a ka)) 0 (take w (drop b kb)) 0 k n ≡ lines_from vs ka a kb b k n
unfolding lines_from
lines_part vs ka a u kb b w k zero f g = refl
lines_part vs ka a u kb b w k (suc n) f g =
    let x : get_or (take u (drop a ka)) (0 + k) 0 ≡ get_or ka (a + k) 0 = rw zero-add (get_part ka a u k (omega arith)) in
    let y : get_or (take w (drop b kb)) (0 + k) 0 ≡ get_or kb (b + k) 0 = rw zero-add (get_part kb b w k (omega arith)) in
    ap₂ ◌∷◌ (ap₂ (line_with (get_or vs k 0)) x y) (lines_part vs ka a u kb b w (k + 1) n (omega arith) (omega arith))

-- ---- its bytes

-- a run of dots inside some bytes is its writing
pub dots_slice : (s : List ℕ) (p n : ℕ) → Bytes s → p + 12 * n ≤ length s → slice p (p + 12 * n) s ≡ encode_dots (dots_at s p n)
dots_slice s p n b h =
    let e = encode_dots (dots_at s p n) in
    let l : length e ≡ 12 * n = length_dots (dots_at s p n) ∙ ap (λ (i : ℕ). 12 * i) (length_list_at dot_at (dot_end_in narrow) s p n) in
    let w : drop p s ≡ e ++ drop (p + length e) s = stands_list (dot_form narrow) (faithful_dot narrow sound_narrow) s p n b (rw (steady_end 12 s p n) h) in
    let t : length (take p s) ≡ p = simp length-take (omega arith) in
    ap (drop p) (take-add p (12 * n) s) ∙ drop_at (take p s) (take (12 * n) (drop p s)) p t ∙ ap (take (12 * n)) w ∙ take_at e (drop (p + length e) s) (12 * n) l

-- a whole copy
module _ (cs : List ℕ) (n : ℕ) (few : length cs ≤ n) (s : List ℕ) (x xs : ℕ) (b : Bytes s) (room : x + 12 * xs ≤ length s) (m : met_along cs (dots_at s x xs) ≡ dots_at s x xs) where
  pub whole_kept : (K : Clock) (out : List ℕ) (p : ℕ) (out' : List ℕ) → K ≡ dots_at s x xs → out' ≡ sets out p (slice x (x + 12 * xs) s) → (xs ≤ n) × KeptDots out p K out' xs
  whole_kept K out p out' e o =
      let l = length_list_at dot_at (dot_end_in narrow) s x xs in
      let w = length_walked dots (λ a u w. u) cs (dots_at s x xs) [] in
      let g = ap length m in
      (omega arith, record { count = sym (ap length e ∙ l); bytes = o ∙ ap (sets out p) (dots_slice s x xs b room ∙ ap encode_dots (sym e)) })

-- ---- the loop over a line of zeros

or_none : (a b : ℕ) → bit_or a b ≡ 0 → (a ≡ 0) × (b ≡ 0)
or_none a b e = let s = or_add_and a b in let l = and_le_l a b in let r = and_le_r a b in (omega arith, omega arith)

-- the numbers before i are zeros where `any` is
abbrev pub Clear : List ℕ → ℕ → ℕ → Type 0
Clear l any i = any ≡ 0 → (j : ℕ) → j < i → get_or l j 0 ≡ 0

pub clear_on : (l : List ℕ) (any i : ℕ) → Clear l any i → Clear l (bit_or any (get_or l i 0)) (i + 1)
clear_on l any i z e j h = let o = or_none any (get_or l i 0) e in by_lt j i (λ k. z o.0 j k) (λ k. let q : j ≡ i = omega arith in rw q o.1)

-- after the numbers that are known to be passed there are zeros only
pub above_more : (vs l : List ℕ) (from k h n : ℕ) (x : Clock) → ((i : ℕ) → k + h ≤ i → i < k + n → get_or l (from + i) 0 ≡ 0) → h ≤ n → Above vs l from k h x → Above vs l from k n x
unfolding Above
above_more vs l from k h zero x z le a = tt
above_more vs l from k zero (suc n) x z le a =
    let u = said dots (get_or vs k 0) x in
    let o = z k (omega arith) (omega arith) in
    (by_lt 0 u (λ q. inr (omega arith)) (λ q. inl (omega arith)), above_more vs l from (k + 1) 0 n (past dots (get_or vs k 0) x) (λ i p q. z i (omega arith) (omega arith)) (omega arith) tt)
above_more vs l from k (suc h) (suc n) x z le a =
    (a.0, above_more vs l from (k + 1) h n (past dots (get_or vs k 0) x) (λ i p q. z i (omega arith) (omega arith)) (omega arith) a.1)

-- along the first actors
pub above_take : (vs l : List ℕ) (from h k n : ℕ) (x : Clock) → k + n ≤ h → Above (take h vs) l from k n x → Above vs l from k n x
unfolding Above
above_take vs l from h k zero x le a = tt
above_take vs l from h k (suc n) x le a =
    let b = rw (get_or-take h vs k 0 (omega arith)) at a in
    (b.0, above_take vs l from h (k + 1) n (past dots (get_or vs k 0) x) (omega arith) b.1)

pub above_first : (vs l : List ℕ) (h : ℕ) (x : Clock) → h ≤ length vs → Above (take h vs) l 0 0 (length (take h vs)) x → Above vs l 0 0 h x
above_first vs l h x le a = let n : length (take h vs) ≡ h = simp length-take (omega arith) in above_take vs l 0 h 0 h x (omega arith) (rw n at a)

pub clear_above : (vs l : List ℕ) (n : ℕ) (x : Clock) → ((i : ℕ) → i < length l → get_or l i 0 ≡ 0) → n ≤ length l → Above vs l 0 0 n x
unfolding Above
clear_above vs l n x z h = above_more vs l 0 0 0 n x (λ i p q. rw zero-add (z i (omega arith))) (omega arith) tt

-- ---- the loop over a line

abbrev pub Over : List ℕ → List ℕ → List ℕ → ℕ → ℕ → Dots → Type 0
Over s vs l n i k = Above vs l 0 i (n - i) (dots_at s k.at k.left)

module _ (s vs l : List ℕ) (n i : ℕ) (k : Dots) where
  pub over_on : i < n → (k' : Dots) (u : ℕ) → Took s (get_or vs i 0) k k' u → (u ≡ 0) ⊎ (get_or l i 0 < u) → Over s vs l n (i + 1) k' → Over s vs l n i k
  unfolding Above
  over_on lt k' u t h z =
      let m : n - i ≡ suc (n - (i + 1)) = omega arith in
      let e : 0 + i ≡ i = omega arith in
      rw (m, ← t.is, e) (h, rw t.past at z)

  pub over_end : n ≤ i → Over s vs l n i k
  unfolding Above
  over_end h = let e : n - i ≡ 0 = omega arith in rw e tt

pub none_there : (t : List ℕ) (y ys : ℕ) → ys ≡ 0 → dots_at t y ys ≡ []
unfolding list_at
none_there t y ys e = rw e
