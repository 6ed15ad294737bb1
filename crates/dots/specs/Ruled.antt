-- The operations on two clocks as walks along both: a rule says what becomes of an actor's two counters. And what each leaves, counter by counter.
use Prim.Native.Nat.{ℕ, ◌≤◌, max, min}
use Rattle.std.specs.Prelude.{◌≡◌, Bool, [], ◌∷◌, leb, eqb, length}
use Rattle.std.proofs.Math.Path.{refl, sym}
use Rattle.std.proofs.Common.{ap, ◌∙◌, arith}
use Rattle.std.proofs.Math.Bool.{true, false}
use Rattle.std.proofs.Math.Option.{Option, none, some}
use Rattle.tables.specs.Table.{Normal, Proper, pick, pick_both, collect, cons?, asc_join, normal_join, get_join}
use Rattle.tables.specs.Zip.{zip, zip_first, zip_right, zip_nil}
use Rattle.tables.specs.Walk.{length_collect}
use Rattle.dots.specs.declared.Dot.{Dot}
use Rattle.dots.specs.Dot.{actor_of, clocks, dot?}
use Rattle.dots.specs.Clock.{Clock, count, covers_dot, holds_dot, merged, applied, reset_by, intersection, glb}
use Rattle.dots.specs.ClockLaws.{clock_ext, merged_count, merged_normal}
use Rattle.dots.specs.Covering.{by_eq, count_same, count_other}

-- the counter where both have the same, and the first where it is beyond the second
abbrev pub same : ℕ → ℕ → ℕ
same m n = pick (eqb n m) m 0

abbrev pub beyond : ℕ → ℕ → ℕ
beyond m n = pick (leb m n) 0 m

module _ (f : ℕ → ℕ → ℕ) (x y : Clock) where
  pub zip_normal : Normal clocks y → Normal clocks (zip clocks (λ a. f) x y)
  unfolding zip
  zip_normal ny = normal_join clocks (λ a. f (count x a) (count y a)) x y ny

  pub zip_count : f 0 0 ≡ 0 → (a : ℕ) → count (zip clocks (λ a. f) x y) a ≡ f (count x a) (count y a)
  unfolding zip
  zip_count z a = get_join clocks (λ a. f (count x a) (count y a)) x y (λ k p q. rw (p, q) z) a

  -- where the second's counter alone gives none, the first's dots are kept or changed one by one
  pub zip_collect : ((n : ℕ) → f 0 n ≡ 0) → (g : Dot → Option Dot) → ((d : Dot) → Proper clocks d → g d ≡ dot? (actor_of d) (f d.counter (count y (actor_of d))))
      → Normal clocks x → Normal clocks y → zip clocks (λ a. f) x y ≡ collect g x
  zip_collect z g says nx ny = zip_first clocks (λ a. f) x y g says (λ a. z) nx ny

same_zero : (n : ℕ) → same 0 n ≡ 0
same_zero n = pick_both (eqb n 0) 0

beyond_zero : (n : ℕ) → beyond 0 n ≡ 0
beyond_zero n = pick_both (leb 0 n) 0

module _ (x y : Clock) (nx : Normal clocks x) (ny : Normal clocks y) where
  pub same_zip : zip clocks (λ a. same) x y ≡ intersection x y
  unfolding intersection
  same_zip = zip_collect same x y same_zero (λ d. pick (holds_dot y d) (some d) none) (λ d p. go d p (holds_dot y d)) nx ny
    where
      go : (d : Dot) → Proper clocks d → (b : Bool) → pick b (some d) none ≡ dot? (actor_of d) (pick b d.counter 0)
      go d p true = sym p
      go d p false = refl

  pub beyond_zip : zip clocks (λ a. beyond) x y ≡ reset_by y x
  unfolding reset_by
  beyond_zip = zip_collect beyond x y beyond_zero (λ d. pick (covers_dot y d) none (some d)) (λ d p. go d p (covers_dot y d)) nx ny
    where
      go : (d : Dot) → Proper clocks d → (b : Bool) → pick b none (some d) ≡ dot? (actor_of d) (pick b 0 d.counter)
      go d p true = refl
      go d p false = sym p

  -- ---- intersection: the counters that are equal

  pub intersection_normal : Normal clocks (intersection x y)
  intersection_normal = rw same_zip at (zip_normal same x y ny)

  pub intersection_count : (a : ℕ) → count (intersection x y) a ≡ same (count x a) (count y a)
  intersection_count a = ap (λ (c : Clock). count c a) (sym same_zip) ∙ zip_count same x y refl a

  pub intersection_length : length (intersection x y) ≤ length x
  unfolding intersection
  intersection_length = length_collect (λ d. pick (holds_dot y d) (some d) none) x

  pub reset_length : length (reset_by y x) ≤ length x
  unfolding reset_by
  reset_length = length_collect (λ d. pick (covers_dot y d) none (some d)) x

  -- ---- glb: the smaller counter

  pub glb_normal : Normal clocks (glb x y)
  unfolding glb
  glb_normal = zip_normal min x y ny

  pub glb_count : (a : ℕ) → count (glb x y) a ≡ min (count x a) (count y a)
  unfolding glb
  glb_count = zip_count min x y (omega arith)

  pub glb_length : length (glb x y) ≤ length x
  unfolding glb
  glb_length =
      let g : Dot → Option Dot = λ d. dot? (actor_of d) (min d.counter (count y (actor_of d))) in
      rw (zip_collect min x y (λ n. omega arith) g (λ d p. refl) nx ny) (length_collect g x)

-- ---- apply: one dot merged in

pub applied_normal : (c : Clock) (d : Dot) → Normal clocks (applied c d)
unfolding applied merged zip
applied_normal c d = asc_join clocks (λ a. max (count c a) (count (d ∷ []) a)) c (d ∷ []) (tt, tt)

pub applied_count : (c : Clock) (d : Dot) (a : ℕ) → count (applied c d) a ≡ max (count c a) (count (d ∷ []) a)
unfolding applied
applied_count c d a = merged_count c (d ∷ []) a

-- a dot that is covered changes nothing, one with counter 0 among them
pub applied_covered : (c : Clock) (d : Dot) → Normal clocks c → d.counter ≤ count c (actor_of d) → applied c d ≡ c
applied_covered c d nc h = clock_ext (applied c d) c (applied_normal c d) nc (λ a. let e = applied_count c d a in let l = below a in omega arith)
  where
    below : (a : ℕ) → count (d ∷ []) a ≤ count c a
    below a = by_eq a (actor_of d)
        (λ q. let e : count (d ∷ []) a ≡ d.counter = rw q (count_same d []) in let k : d.counter ≤ count c a = rw q h in omega arith)
        (λ n. let e = count_other d [] a n in omega arith)

-- applying a dot is merging with the clock of that dot alone
pub applied_merged : (c : Clock) (d : Dot) → merged c (applied [] d) ≡ applied c d
applied_merged c d =
    clock_ext (merged c (applied [] d)) (applied c d) (merged_normal c (applied [] d) (applied_normal [] d)) (applied_normal c d)
    (λ a. let p = merged_count c (applied [] d) a in let q = applied_count c d a in let r = applied_count [] d a in omega arith)

-- the clock of one dot: empty where its counter is 0
pub applied_empty : (d : Dot) → applied [] d ≡ cons? (dot? (actor_of d) d.counter) []
unfolding applied merged
applied_empty d =
    let e : max 0 d.counter ≡ d.counter = omega arith in
    zip_right clocks (λ a. max) d [] [] tt tt ∙ rw (zip_nil clocks (λ a. max)) (ap (λ (n : ℕ). cons? (dot? (actor_of d) n) []) e)
