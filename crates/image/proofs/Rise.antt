-- What fits the replica's clock rises, as the clock does. So entries that are laid, and fit, pass all tests of layout's one pass.
use Prim.Native.Nat.{ℕ, zero, suc, ◌+◌, ◌≤◌}
use mathlib.Core.Path.{◌≡◌, refl}
use mathlib.Core.Bool.{Bool, true, false, ◌&&◌, beq, and-true, and-false, false≢true}
use mathlib.Core.List.{List, [], ◌∷◌}
use native.Mathlib.Omega.{arith}
use lib.Dec.{leb, ltb, eqb}
use lib.ListN.{length, get_or}
use borrow.Author.Tests.{le-leb, leb-true, ltb-true, eqb-true}
use Rattle.tables.specs.Table.{pick, every}
use Rattle.tables.specs.Truth.{Test, table, beq→eq}
use Rattle.dots.specs.Dot.{actor_of}
use Rattle.dots.specs.Clock.{Clock}
use Rattle.dots.specs.Rising.{rising, first_of, rising_cons, both_left, both_right}
use Rattle.layout.specs.Fields.{u32_at}
use Rattle.layout.specs.Lists.{starts_at}
use Rattle.layout.specs.Clock.{clock_at, clock_end_in}
use Rattle.layout.specs.Rows.{row_end, row_end_in, places_at}
use Rattle.layout.specs.Image.{entries_start, entries_count}
use Rattle.layout.specs.Good.{good_clock_in, good_rows_in, good_rows, good_parts, good_parts_in}
use Rattle.scan.specs.Scan.{laid_rows}
use Rattle.image.specs.Fits.{within, fits, line_for, fit_all}
use Rattle.image.specs.Image.{laid_parts}

fits_rise : (t : List ℕ) (q low : ℕ) (v ds : Clock) → rising low v ≡ true → fits t q v ds ≡ true → rising low ds ≡ true
unfolding fits rising
fits_rise t q low [] [] r g = refl
fits_rise t q low [] (d ∷ ds) r g = absurd (false≢true g)
fits_rise t q low (x ∷ v) [] r g = refl
fits_rise t q low (x ∷ v) (d ∷ ds) r g =
    let f = first_of low x v r in
    go (eqb (actor_of d) (actor_of x)) refl f.from (fits_rise t (suc q) (actor_of x + 1) v ds f.others) (fits_rise t (suc q) (actor_of x + 1) v (d ∷ ds) f.others) g
  where
    go : (b : Bool) → eqb (actor_of d) (actor_of x) ≡ b → low ≤ actor_of x
        → (fits t (suc q) v ds ≡ true → rising (actor_of x + 1) ds ≡ true)
        → (fits t (suc q) v (d ∷ ds) ≡ true → rising (actor_of x + 1) (d ∷ ds) ≡ true)
        → pick b (within d.counter x (get_or t q 0) && fits t (suc q) v ds) (fits t (suc q) v (d ∷ ds)) ≡ true → rising low (d ∷ ds) ≡ true
    go true e l taken other h =
        let same : actor_of d ≡ actor_of x = eqb-true (actor_of d) (actor_of x) e in
        let w = within d.counter x (get_or t q 0) in
        let over = ltb-true (get_or t q 0) d.counter (both_right (leb d.counter x.counter) (ltb (get_or t q 0) d.counter) (both_left w (fits t (suc q) v ds) h)) in
        rising_cons low d ds (record { from = omega arith; counts = omega arith; others = rw same (taken (both_right w (fits t (suc q) v ds) h)) })
    go false e l taken other h =
        let k = first_of (actor_of x + 1) d ds (other h) in
        let after = k.from in
        rising_cons low d ds (record { from = omega arith; counts = k.counts; others = k.others })

-- the clocks of the entries at places rise
abbrev pub rise : List ℕ → List ℕ → Bool
rise s ps = every (λ p. rising 0 (clock_at s (p + 4))) ps

pub all_rise : (t s : List ℕ) (v : Clock) (own : Bool) (i : ℕ) (ps : List ℕ) → rising 0 v ≡ true → fit_all t s v own i ps ≡ true → rise s ps ≡ true
unfolding fit_all
all_rise t s v own i [] r g = refl
all_rise t s v own i (p ∷ ps) r g =
    let first = fits t (line_for own i) v (clock_at s (p + 4)) in
    let others = fit_all t s v own (suc i) ps in
    rw (fits_rise t (line_for own i) 0 v (clock_at s (p + 4)) r (both_left first others g)) (all_rise t s v own (suc i) ps r (both_right first others g))

-- ---- the tests of layout are those of the code, and that the entries' clocks rise

order_test : Test 6
order_test member held few others rises rest = beq (member && (few && rises && (held && (others && rest)))) (member && (held && (few && others)) && (rises && rest))

order : (member held few others rises rest : Bool) → (member && (few && rises && (held && (others && rest)))) ≡ (member && (held && (few && others)) && (rises && rest))
unfolding order_test
order a b c x r y = beq→eq (a && (c && r && (b && (x && y)))) (a && (b && (c && x)) && (r && y)) (table 6 order_test tt a b c x r y)

pub rows_are : (s : List ℕ) (p low n : ℕ) → good_rows s p low n ≡ (laid_rows s p low n && rise s (places_at s p n))
unfolding good_rows_in good_clock_in laid_rows starts_at row_end_in clock_end_in
rows_are s p low zero = refl
rows_are s p low (suc n) = go (leb (row_end s p) (length s)) refl (rows_are s (row_end s p) (u32_at s p + 1) n)
  where
    go : (b : Bool) → leb (row_end s p) (length s) ≡ b
        → good_rows s (row_end s p) (u32_at s p + 1) n ≡ (laid_rows s (row_end s p) (u32_at s p + 1) n && rise s (places_at s (row_end s p) n))
        → good_rows s p low (suc n) ≡ (laid_rows s p low (suc n) && rise s (places_at s p (suc n)))
    go true e i =
        let room = leb-true (row_end s p) (length s) e in
        rw (le-leb (p + 4) (length s) (omega arith), le-leb (p + 4 + 4) (length s) (omega arith), e, i)
        (order (leb low (u32_at s p)) (ltb 0 (u32_at s (p + 4))) (leb (u32_at s (p + 4)) 16) (laid_rows s (row_end s p) (u32_at s p + 1) n) (rising 0 (clock_at s (p + 4))) (rise s (places_at s (row_end s p) n)))
    go false e i = simp (e, and-false)

pub parts_are : (s : List ℕ) → good_parts s ≡ (laid_parts s && rise s (places_at s (entries_start s) (entries_count s)))
unfolding good_parts_in laid_parts
parts_are s = go (rise s (places_at s (entries_start s) (entries_count s))) (rows_are s (entries_start s) 0 (entries_count s))
  where
    go : (b : Bool) → good_rows s (entries_start s) 0 (entries_count s) ≡ (laid_rows s (entries_start s) 0 (entries_count s) && b) → good_parts s ≡ (laid_parts s && b)
    go true e = simp (e, and-true)
    go false e = simp (e, and-false)
