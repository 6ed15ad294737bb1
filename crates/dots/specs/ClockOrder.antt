-- Merging is commutative, associative and idempotent, covering is an order, and the four answers of a comparison say which.
use Rattle.std.specs.Prelude.{◌≡◌, T, Option, Some, None}
use Rattle.std.specs.declared.cmp.Ordering.{Ordering}
use Rattle.std.specs.declared.cmp.Ordering.TheVariants.{Less, Equal, Greater}
use Rattle.std.proofs.Common.{sym, ap, subst, arith}
use Rattle.tables.specs.Table.{Normal}
use Rattle.dots.specs.Dot.{clocks}
use Rattle.dots.specs.Calls.{Standing, standing, means}
use Rattle.dots.specs.Clock.{Clock, covers, merged}
use Rattle.dots.specs.ClockLaws.{clock_ext, covers_le, le_covers, merged_count, merged_normal}

pub merged_comm : (c d : Clock) → Normal clocks c → Normal clocks d → merged c d ≡ merged d c
merged_comm c d nc nd =
    clock_ext (merged c d) (merged d c) (merged_normal c d nd) (merged_normal d c nc)
    (λ a. let p = merged_count c d a in let q = merged_count d c a in omega arith)

pub merged_assoc : (c d e : Clock) → Normal clocks e → merged (merged c d) e ≡ merged c (merged d e)
merged_assoc c d e ne =
    clock_ext (merged (merged c d) e) (merged c (merged d e)) (merged_normal (merged c d) e ne) (merged_normal c (merged d e) (merged_normal d e ne))
    (λ a.
    let p = merged_count (merged c d) e a in
    let q = merged_count c d a in
    let r = merged_count c (merged d e) a in
    let s = merged_count d e a in
    omega arith)

pub merged_self : (c : Clock) → Normal clocks c → merged c c ≡ c
merged_self c nc = clock_ext (merged c c) c (merged_normal c c nc) nc (λ a. let p = merged_count c c a in omega arith)

-- covering both ways is equality
pub covers_both : (c d : Clock) → Normal clocks c → Normal clocks d → T (covers c d) → T (covers d c) → c ≡ d
covers_both c d nc nd p q = clock_ext c d nc nd (λ a. let l = covers_le c d p a in let m = covers_le d c q a in omega arith)

pub covers_self : (c : Clock) → Normal clocks c → T (covers c c)
covers_self c nc = le_covers c c nc (λ a. omega arith)

pub covers_trans : (c d e : Clock) → Normal clocks e → T (covers c d) → T (covers d e) → T (covers c e)
covers_trans c d e ne p q = le_covers c e ne (λ a. let l = covers_le c d p a in let m = covers_le d e q a in omega arith)

-- a merge covers both, and is covered by whatever covers both
pub covers_merged : (v c d : Clock) → Normal clocks d → T (covers v c) → T (covers v d) → T (covers v (merged c d))
covers_merged v c d nd p q =
    le_covers v (merged c d) (merged_normal c d nd)
    (λ a. let l = covers_le v c p a in let m = covers_le v d q a in let e = merged_count c d a in omega arith)

-- "Equal if the same; Greater if the first covers the second; Less if the second covers the first; otherwise none"
abbrev pub SaysOf : Option Ordering → Clock → Clock → Type 0
SaysOf (Some Equal) c d = c ≡ d
SaysOf (Some Greater) c d = T (covers c d) × (c ≡ d → ⊥)
SaysOf (Some Less) c d = T (covers d c) × (c ≡ d → ⊥)
SaysOf None c d = (T (covers c d) → ⊥) × (T (covers d c) → ⊥)

pub compared_says : (r : Option Ordering) (c d : Clock) → Normal clocks c → Normal clocks d → means r ≡ standing (covers c d) (covers d c) → SaysOf r c d
compared_says r c d nc nd h = go r (sym (ap (λ (t : Standing). t.first_at_least) h)) (sym (ap (λ (t : Standing). t.second_at_least) h))
  where
    go : (r : Option Ordering) → covers c d ≡ (means r).first_at_least → covers d c ≡ (means r).second_at_least → SaysOf r c d
    go (Some Less) p q = (rw q tt, λ e. let t : T (covers c d) = subst (λ (x : Clock). T (covers c x)) e (covers_self c nc) in rw p at t)
    go (Some Equal) p q = covers_both c d nc nd (rw p tt) (rw q tt)
    go (Some Greater) p q = (rw p tt, λ e. let t : T (covers d c) = subst (λ (x : Clock). T (covers x c)) e (covers_self c nc) in rw q at t)
    go None p q = (λ t. rw p at t, λ t. rw q at t)
