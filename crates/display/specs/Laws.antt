-- What the text is: decimal says the number, the empty clock is "<>", and the longest text has 528 bytes.
use Rattle.std.specs.Prelude.{◌≡◌, refl, List, [], ◌∷◌, ◌++◌, Bool, true, false, ℕ, suc, zero, ◌+◌, ◌*◌, ◌-◌, ◌/◌, ◌%◌, ◌^◌, ◌≤◌, ◌<◌, eqb, ltb, length}
use Rattle.std.proofs.Common.{◌∙◌, arith, div-lt_iff_lt-mul, pow-suc, add-one, ltb-true, ltb-false, lit<, length-append}
use Rattle.tables.specs.Table.{pick}
use Rattle.dots.specs.declared.Dot.{Dot}
use Rattle.dots.specs.Dot.{actor_of, dot}
use Rattle.display.specs.Text.{width_within, width, digits, decimal, comma, dot_text, item, items, text}

-- "Empty is `<>`"
pub empty_text : text [] ≡ 60 ∷ 62 ∷ []
unfolding text items
empty_text = refl

-- "<1:1, 20:300>"
pub two_text : text (dot 1 1 ∷ dot 20 300 ∷ []) ≡ 60 ∷ 49 ∷ 58 ∷ 49 ∷ 44 ∷ 32 ∷ 50 ∷ 48 ∷ 58 ∷ 51 ∷ 48 ∷ 48 ∷ 62 ∷ []
unfolding text items item dot_text decimal width
two_text = refl

-- ---- decimal

less : (n k : ℕ) → n < 10 ^ suc k → n / 10 < 10 ^ k
less n k h = let h' : n < 10 ^ k * 10 = rw pow-suc at h in (div-lt_iff_lt-mul {k = 10} {x = n} {y = 10 ^ k} (lit< tt)).1 h'

-- a number below 10 ^ (k + 1) has at most k + 1 digits
pub width_most : (f n k : ℕ) → n < 10 ^ suc k → width_within f n ≤ suc k
width_most zero n k h = omega arith
width_most (suc f) n zero h = go (ltb n 10) refl
  where
    go : (b : Bool) → ltb n 10 ≡ b → pick b 1 (suc (width_within f (n / 10))) ≤ 1
    go true q = omega arith
    go false q = let l = ltb-false n 10 q in let t : n < 10 ^ 1 = h in absurd (omega arith)
width_most (suc f) n (suc k) h = go (ltb n 10) (width_most f (n / 10) k (less n (suc k) h))
  where
    go : (b : Bool) → width_within f (n / 10) ≤ suc k → pick b 1 (suc (width_within f (n / 10))) ≤ suc (suc k)
    go true l = omega arith
    go false l = omega arith

-- the digits hold the number
holds : (f n : ℕ) → n < 10 ^ suc f → n < 10 ^ width_within f n
holds zero n h = h
holds (suc f) n h = go (ltb n 10) refl (holds f (n / 10) (less n (suc f) h))
  where
    go : (b : Bool) → ltb n 10 ≡ b → n / 10 < 10 ^ width_within f (n / 10) → n < 10 ^ pick b 1 (suc (width_within f (n / 10)))
    go true q l = let t : n < 10 = ltb-true n 10 q in t
    go false q l = rw pow-suc ((div-lt_iff_lt-mul {k = 10} {x = n} {y = 10 ^ width_within f (n / 10)} (lit< tt)).0 l)

-- what a text of digits says
abbrev pub value_of : ℕ → List ℕ → ℕ
value_of v [] = v
value_of v (d ∷ ds) = value_of (v * 10 + (d - 48)) ds

value_append : (v : ℕ) (xs : List ℕ) (d : ℕ) → value_of v (xs ++ d ∷ []) ≡ value_of v xs * 10 + (d - 48)
value_append v [] d = refl
value_append v (x ∷ xs) d = value_append (v * 10 + (x - 48)) xs d

value_digits : (k n : ℕ) → n < 10 ^ k → value_of 0 (digits k n) ≡ n
value_digits zero n h = let t : n < 10 ^ 0 = h in omega arith
value_digits (suc k) n h = value_append 0 (digits k (n / 10)) (48 + n % 10) ∙ rw (value_digits k (n / 10) (less n k h)) (omega arith)

-- every 64-bit number reads back
pub decimal_says : (n : ℕ) → n < 10 ^ 20 → value_of 0 (decimal n) ≡ n
unfolding decimal width
decimal_says n h = value_digits (width_within 19 n) n (holds 19 n h)

-- ---- the longest

pub length_digits : (k n : ℕ) → length (digits k n) ≡ k
length_digits zero n = refl
length_digits (suc k) n = rw (length-append, length_digits k (n / 10), add-one)

pub length_decimal : (n : ℕ) → length (decimal n) ≡ width n
unfolding decimal
length_decimal n = length_digits (width n) n

pub length_dot : (d : Dot) → length (dot_text d) ≡ width (actor_of d) + (1 + width d.counter)
unfolding dot_text
length_dot d = simp (length-append, length_decimal) (omega arith)

-- the numbers of a dot fit their widths
pub record Fits (d : Dot) : Type 0 where
  pub actor_fits : actor_of d < 2 ^ 32
  pub counter_fits : d.counter < 2 ^ 64

abbrev pub AllFit : List Dot → Type 0
AllFit [] = Unit {0}
AllFit (d ∷ ds) = Fits d × AllFit ds

long_dot : (d : Dot) → Fits d → length (dot_text d) ≤ 31
unfolding width
long_dot d f =
    let a = f.actor_fits in
    let c = f.counter_fits in
    let wa = width_most 19 (actor_of d) 9 (omega arith) in
    let wc = width_most 19 d.counter 19 (omega arith) in
    rw length_dot (omega arith)

long_items : (i : ℕ) (ds : List Dot) → AllFit ds → length (items i ds) ≤ 33 * length ds
unfolding items item
long_items i [] f = omega arith
long_items i (d ∷ ds) f = go (eqb i 0) (long_dot d f.0) (long_items (i + 1) ds f.1)
  where
    go : (b : Bool) → length (dot_text d) ≤ 31 → length (items (i + 1) ds) ≤ 33 * length ds
        → length ((pick b [] comma ++ dot_text d) ++ items (i + 1) ds) ≤ 33 * suc (length ds)
    go true l m = simp length-append (omega arith)
    go false l m = simp length-append (omega arith)

-- "the longest is 528 bytes": none is longer, and one is as long
pub longest : (ds : List Dot) → AllFit ds → length ds ≤ 16 → length (text ds) ≤ 528
unfolding text items item
longest [] f h = omega arith
longest (d ∷ ds) f h = let a = long_dot d f.0 in let b = long_items (0 + 1) ds f.1 in simp length-append (omega arith)

abbrev pub full_from : ℕ → ℕ → List Dot
full_from a zero = []
full_from a (suc n) = dot a 18446744073709551615 ∷ full_from (a + 1) n

pub longest_there : length (text (full_from 4294967280 16)) ≡ 528
unfolding text items item dot_text decimal width
longest_there = refl
