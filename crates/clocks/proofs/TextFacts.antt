-- The decimal digits of a number are those that a format writes.
use Rattle.std.proofs.Common.{◌≡◌, ℕ, zero, suc, ◌+◌, ◌/◌, ◌%◌, ◌^◌, ◌*◌, ◌<◌, ◌≤◌, Bool, true, false, List, [], ◌∷◌, ◌++◌, ltb, refl, sym, ap, ◌∙◌, arith, lit<, pow-suc, div-lt_iff_lt-mul, le-ltb, length, drop, take, get_or, min, add-one, drop-cons, eqb, leb, leb-true, leb-false}
use Rattle.std.proofs.lemmas.List.{append-nil}
use lib.ListN.{drop_of_length-le}
use Rattle.std.proofs.lemmas.List.{take_all}
use borrow.Author.Tests.{lt-ltb}
use Rattle.std.specs.Fmt as fmt
use Rattle.std.proofs.lemmas.Fmt.{decimal_by_steps}
use Rattle.tables.specs.Table.{pick}
use Rattle.dots.specs.declared.Dot.{Dot}
use Rattle.dots.specs.Dot.{actor_of, no_dot}
use Rattle.clocks.specs.declared.VClock.{VClock}
use Rattle.clocks.specs.VClock.{dots_of}
use Rattle.clocks.specs.Text.{width_within, width, decimal, comma, dot_text, item, items, text}

tenth : (n k : ℕ) → n < 10 ^ suc k → n / 10 < 10 ^ k
tenth n k h = let h' : n < 10 ^ k * 10 = rw pow-suc at h in (div-lt_iff_lt-mul {k = 10} {x = n} {y = 10 ^ k} (lit< tt)).1 h'

-- room for more digits changes nothing where there is enough
width_stable : (f n : ℕ) → n < 10 ^ suc f → width_within (suc f) n ≡ width_within f n
width_stable zero n h = let l : n < 10 ^ 1 = h in rw (lt-ltb n 10 (omega arith)) refl
width_stable (suc f) n h = go (ltb n 10) (width_stable f (n / 10) (tenth n (suc f) h))
  where
    go : (b : Bool) → width_within (suc f) (n / 10) ≡ width_within f (n / 10) → pick b 1 (suc (width_within (suc f) (n / 10))) ≡ pick b 1 (suc (width_within f (n / 10)))
    go true e = refl
    go false e = ap suc e

one_digit : (n : ℕ) → n < 10 → decimal n ≡ (48 + n) ∷ []
unfolding decimal width
one_digit n h = let e : n % 10 ≡ n = omega arith in rw (lt-ltb n 10 h, e) refl

last_digit : (n : ℕ) → 10 ≤ n → n < 10 ^ 20 → decimal n ≡ decimal (n / 10) ++ ((48 + n % 10) ∷ [])
unfolding decimal width
last_digit n h l = let s = width_stable 18 (n / 10) (tenth n 19 l) in rw (le-ltb n 10 h, s) refl

pub decimal_is : (n : ℕ) → n < 2 ^ 64 → decimal n ≡ fmt.decimal n
decimal_is n h =
    decimal_by_steps (λ m ds. m < 10 ^ 20 → decimal m ≡ ds)
    (λ m s l. one_digit m s)
    (λ m ds s e l. last_digit m s l ∙ ap (λ (xs : List ℕ). xs ++ ((48 + m % 10) ∷ [])) (e (let t : m < 10 ^ 20 = l in omega arith)))
    n h (omega arith)

-- ---- the dots in turn

pub items_none : (i : ℕ) (ds : List Dot) → length ds ≤ i → items i (drop i ds) ≡ []
unfolding items
items_none i ds h = rw (drop_of_length-le ds h)

pub items_one : (i : ℕ) (ds : List Dot) → i < length ds → items i (drop i ds) ≡ item i (get_or ds i no_dot) ++ items (i + 1) (drop (i + 1) ds)
unfolding items
items_one i ds h = rw (drop-cons ds i no_dot h) (ap (λ (k : ℕ). item i (get_or ds i no_dot) ++ items (i + 1) (drop k ds)) (sym (add-one i)))

-- what is written of one dot
pub item_written : (i : ℕ) (d : Dot) (before : List ℕ) → before ≡ pick (eqb i 0) [] comma → actor_of d < 2 ^ 32 → d.counter < 2 ^ 64
    → before ++ (fmt.decimal (actor_of d) ++ (58 ∷ fmt.decimal d.counter)) ≡ item i d
unfolding item dot_text
item_written i d before e a k = rw (e, decimal_is (actor_of d) (omega arith), decimal_is d.counter k) refl

-- the dots that are walked are those of the clock
pub walked_dots : (c : VClock) (m : ℕ) → length c.dots ≡ 16 → m ≡ min c.len 16 → take m c.dots ≡ dots_of c
walked_dots c m l e = go (leb c.len 16) refl
  where
    go : (b : Bool) → leb c.len 16 ≡ b → take m c.dots ≡ dots_of c
    go true q = let h = leb-true c.len 16 q in let k : m ≡ c.len = omega arith in rw k refl
    go false q = let h = leb-false c.len 16 q in rw (take_all m c.dots (omega arith), take_all c.len c.dots (omega arith)) refl

pub text_end : (c : VClock) (ds : List Dot) (bs : List ℕ) → ds ≡ dots_of c → {rest : List ℕ} → rest ≡ [] → bs ++ rest ≡ 60 ∷ items 0 ds → bs ++ (62 ∷ []) ≡ text (dots_of c)
unfolding text
text_end c ds bs is none e =
    let all : bs ≡ 60 ∷ items 0 ds = sym (append-nil bs) ∙ (rw none at e) in
    rw (all, is) refl
