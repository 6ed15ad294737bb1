-- A clock as a record of 16 places, and as the list of its dots.
use Rattle.std.specs.Prelude.{ℕ, zero, suc, ◌+◌, ◌-◌, ◌≤◌, ◌≡◌, refl, Bool, true, ◌&&◌, List, [], ◌∷◌, ◌++◌, leb, eqb, length, take, drop, replicate}
use Rattle.std.proofs.Common.{sym, ap, ◌∙◌, arith, zero-add, take-append-drop, length-take, length-drop, take_at, drop_at}
use Rattle.std.proofs.lemmas.List.Edits.{sets, sets-eq}
use borrow.Author.Tests.{leb-true, le-leb, eqb-true}
use Rattle.tables.specs.Table.{Normal, every}
use Rattle.dots.specs.declared.Dot.{Dot}
use Rattle.dots.specs.Dot.{actor_of, clocks, no_dot}
use Rattle.dots.specs.Clock.{Clock, normal}
use Rattle.dots.specs.ClockLaws.{normal_from, normal_to}
use Rattle.dots.specs.Rising.{both_left, both_right, true_from}
use Rattle.places.specs.Places.{unused}
use Rattle.clocks.specs.declared.VClock.{VClock}

-- the dots of a record: those of its first `len` places
abbrev pub dots_of : VClock → Clock
dots_of c = take c.len c.dots

-- the record of a list of dots: they stand from place 0 on, and the other places are zero
unfoldable pub vclock : Clock → VClock
vclock l = record { dots = sets (replicate 16 no_dot) 0 l; len = length l }

-- "A clock is normalised: actors strictly ascending, no zero counter, a record's unused places zero"; and it has at most 16 actors
unfoldable pub normalised : VClock → Bool
normalised c = leb c.len 16 && (normal (dots_of c) && every unused (drop c.len c.dots))

-- ---- a list into a record and out again

pub len_vclock : (l : Clock) → (vclock l).len ≡ length l
unfolding vclock
len_vclock l = refl

places : (l : Clock) → length l ≤ 16 → (vclock l).dots ≡ l ++ drop (length l) (replicate 16 no_dot)
unfolding vclock
places l h = rw (sets-eq l (replicate 16 no_dot) 0 (omega arith), zero-add)

pub dots_vclock : (l : Clock) → length l ≤ 16 → dots_of (vclock l) ≡ l
unfolding vclock
dots_vclock l h = rw (sets-eq l (replicate 16 no_dot) 0 (omega arith)) (take_at l (drop (0 + length l) (replicate 16 no_dot)) (length l) refl)

-- ---- what normalised says

module _ (c : VClock) (e : normalised c ≡ true) where
  pub few : c.len ≤ 16
  unfolding normalised
  few = leb-true c.len 16 (both_left (leb c.len 16) (normal (dots_of c) && every unused (drop c.len c.dots)) e)

  later : (normal (dots_of c) && every unused (drop c.len c.dots)) ≡ true
  unfolding normalised
  later = both_right (leb c.len 16) (normal (dots_of c) && every unused (drop c.len c.dots)) e

  holds : normal (dots_of c) ≡ true
  holds = both_left (normal (dots_of c)) (every unused (drop c.len c.dots)) later

  pub dots_normal : Normal clocks (dots_of c)
  dots_normal = normal_from (dots_of c) (rw holds tt)

  clear : every unused (drop c.len c.dots) ≡ true
  clear = both_right (normal (dots_of c)) (every unused (drop c.len c.dots)) later

-- ---- a normalised record is the record of its dots

unused_are : (l : List Dot) → every unused l ≡ true → l ≡ replicate (length l) no_dot
unfolding unused
unused_are [] e = refl
unused_are (d ∷ l) e =
    let u = eqb (actor_of d) 0 && eqb d.counter 0 in
    let p = both_left u (every unused l) e in
    let a : actor_of d ≡ 0 = eqb-true (actor_of d) 0 (both_left (eqb (actor_of d) 0) (eqb d.counter 0) p) in
    let k : d.counter ≡ 0 = eqb-true d.counter 0 (both_right (eqb (actor_of d) 0) (eqb d.counter 0) p) in
    let r = unused_are l (both_right u (every unused l) e) in
    λ i. record { actor = record { 0 = a i }; counter = k i } ∷ r i

drop_replicate : (n m : ℕ) (d : Dot) → drop n (replicate m d) ≡ replicate (m - n) d
drop_replicate zero m d = let e : m - 0 ≡ m = omega arith in rw e
drop_replicate (suc n) zero d = let e : ◌≡◌ {A = ℕ} (0 - suc n) 0 = omega arith in rw e
drop_replicate (suc n) (suc m) d = let e : suc m - suc n ≡ m - n = omega arith in rw e (drop_replicate n m d)

are_unused : (n : ℕ) → every unused (replicate n no_dot) ≡ true
unfolding unused
are_unused zero = refl
are_unused (suc n) = are_unused n

pub vclock_dots : (c : VClock) → length c.dots ≡ 16 → normalised c ≡ true → c ≡ vclock (dots_of c)
vclock_dots c long e =
    let h = few c e in
    let n : length (dots_of c) ≡ c.len = simp length-take (omega arith) in
    let m : length (drop c.len c.dots) ≡ 16 - length (dots_of c) = simp length-drop (omega arith) in
    let z : drop c.len c.dots ≡ drop (length (dots_of c)) (replicate 16 no_dot) =
    unused_are (drop c.len c.dots) (clear c e) ∙ ap (λ (k : ℕ). replicate k no_dot) m ∙ sym (drop_replicate (length (dots_of c)) 16 no_dot) in
    let p : c.dots ≡ (vclock (dots_of c)).dots = sym (take-append-drop c.len c.dots) ∙ ap (λ (r : List Dot). dots_of c ++ r) z ∙ sym (places (dots_of c) (omega arith)) in
    let q : c.len ≡ (vclock (dots_of c)).len = sym n ∙ sym (len_vclock (dots_of c)) in
    λ i. record { dots = p i; len = q i }

-- ---- and the record of a normal list is normalised

pub vclock_normalised : (l : Clock) → length l ≤ 16 → Normal clocks l → normalised (vclock l) ≡ true
unfolding normalised
vclock_normalised l h n =
    let d : drop (length l) (vclock l).dots ≡ replicate (16 - length l) no_dot =
    ap (drop (length l)) (places l h) ∙ drop_at l (drop (length l) (replicate 16 no_dot)) (length l) refl ∙ drop_replicate (length l) 16 no_dot in
    let t : take (length l) (vclock l).dots ≡ l = rw len_vclock at (dots_vclock l h) in
    rw (len_vclock, le-leb (length l) 16 h) (simp (t, true_from (normal l) (normal_to l n), d, are_unused))

-- two normalised records with the same dots are the same
pub same_dots : (c d : VClock) → length c.dots ≡ 16 → length d.dots ≡ 16 → normalised c ≡ true → normalised d ≡ true → dots_of c ≡ dots_of d → c ≡ d
same_dots c d lc ld p q e = vclock_dots c lc p ∙ ap vclock e ∙ sym (vclock_dots d ld q)

-- two clocks that are both normalised
pub each : (c d : VClock) → every normalised (c ∷ d ∷ []) ≡ true → (normalised c ≡ true) × (normalised d ≡ true)
each c d e =
    let k = normalised d && true in
    (both_left (normalised c) k e, both_left (normalised d) true (both_right (normalised c) k e))

pub swapped : (c d : VClock) → every normalised (c ∷ d ∷ []) ≡ true → every normalised (d ∷ c ∷ []) ≡ true
swapped c d e = let n = each c d e in rw (n.0, n.1)
