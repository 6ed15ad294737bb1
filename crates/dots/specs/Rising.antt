-- A clock's rule as a loop tests it, from the lowest actor allowed on; and that it is the rule.
use Prim.Native.Nat.{ℕ, ◌+◌, ◌≤◌, ◌<◌, compare}
use Rattle.std.specs.Prelude.{◌≡◌, refl, Bool, true, false, ◌&&◌, [], ◌∷◌, map, T, leb, ltb}
use Rattle.std.proofs.lemmas.Bool.{false≢true}
use Rattle.std.proofs.Common.{arith, lt→ltb, ltb→lt, leb-true, le-leb, ltb-true, lt-ltb}
use Rattle.tables.specs.Order.{lt_nat, nat_lt}
use Rattle.tables.specs.Truth.{bool_ext}
use Rattle.tables.specs.Table.{Normal, Below}
use Rattle.dots.specs.declared.Dot.{Dot}
use Rattle.dots.specs.Dot.{actor_of, clocks}
use Rattle.dots.specs.Clock.{Clock, normal}
use Rattle.dots.specs.ClockLaws.{proper_dot, dot_proper, normal_from, normal_to}

-- the actors ascend from `low` on, and no counter is zero
unfoldable pub rising : ℕ → Clock → Bool
rising low [] = true
rising low (d ∷ c) = leb low (actor_of d) && (ltb 0 d.counter && rising (actor_of d + 1) c)

pub both_left : (a b : Bool) → (a && b) ≡ true → a ≡ true
both_left true b h = refl
both_left false b h = h

pub both_right : (a b : Bool) → (a && b) ≡ true → b ≡ true
both_right true b h = h
both_right false b h = absurd (false≢true h)

-- what it says of the first dot and of the others
pub record First (low : ℕ) (d : Dot) (c : Clock) : Type 0 where
  pub from : low ≤ actor_of d
  pub counts : 0 < d.counter
  pub others : rising (actor_of d + 1) c ≡ true

pub first_of : (low : ℕ) (d : Dot) (c : Clock) → rising low (d ∷ c) ≡ true → First low d c
unfolding rising
first_of low d c h =
    let r = rising (actor_of d + 1) c in
    let k = both_right (leb low (actor_of d)) (ltb 0 d.counter && r) h in
    record { from = leb-true low (actor_of d) (both_left (leb low (actor_of d)) (ltb 0 d.counter && r) h); counts = ltb-true 0 d.counter (both_left (ltb 0 d.counter) r k); others = both_right (ltb 0 d.counter) r k }

pub rising_cons : (low : ℕ) (d : Dot) (c : Clock) → First low d c → rising low (d ∷ c) ≡ true
unfolding rising
rising_cons low d c f = rw (le-leb low (actor_of d) f.from, lt-ltb 0 d.counter f.counts) f.others

-- ---- it is the rule

rising_below : (a low : ℕ) (c : Clock) → a < low → rising low c ≡ true → Below compare a (map (λ d. actor_of d) c)
rising_below a low [] h r = tt
rising_below a low (d ∷ c) h r =
    let f = first_of low d c r in
    let l = f.from in
    (lt_nat a (actor_of d) (omega arith), rising_below a (actor_of d + 1) c (omega arith) f.others)

pub rising_normal : (low : ℕ) (c : Clock) → rising low c ≡ true → Normal clocks c
rising_normal low [] r = record { asc = tt; proper = tt }
rising_normal low (d ∷ c) r =
    let f = first_of low d c r in
    let n = rising_normal (actor_of d + 1) c f.others in
    record { asc = (rising_below (actor_of d) (actor_of d + 1) c (omega arith) f.others, n.asc); proper = (proper_dot d (lt→ltb 0 d.counter f.counts), n.proper) }

normal_rising_from : (low : ℕ) (c : Clock) → ((d : Dot) (e : Clock) → c ≡ d ∷ e → low ≤ actor_of d) → Normal clocks c → rising low c ≡ true
unfolding rising
normal_rising_from low [] f n = refl
normal_rising_from low (d ∷ []) f n = rising_cons low d [] (record { from = f d [] refl; counts = ltb→lt 0 d.counter (dot_proper d n.proper.0); others = refl })
normal_rising_from low (d ∷ x ∷ c) f n =
    let l = nat_lt (actor_of d) (actor_of x) n.asc.0.0 in
    rising_cons low d (x ∷ c) (record { from = f d (x ∷ c) refl; counts = ltb→lt 0 d.counter (dot_proper d n.proper.0); others = normal_rising_from (actor_of d + 1) (x ∷ c) (λ y e q. let s : x ≡ y = cc in rw (← s) (omega arith)) (record { asc = n.asc.1; proper = n.proper.1 }) })

pub normal_rising : (c : Clock) → Normal clocks c → rising 0 c ≡ true
normal_rising c n = normal_rising_from 0 c (λ d e q. omega arith) n

pub true_from : (b : Bool) → T b → b ≡ true
true_from true t = refl
true_from false t = absurd t

pub rising_is : (c : Clock) → rising 0 c ≡ normal c
rising_is c = bool_ext (rising 0 c) (normal c)
    (λ t. normal_to c (rising_normal 0 c (true_from (rising 0 c) t)))
    (λ t. rw (normal_rising c (normal_from c t)) tt)
