-- `covers` as a loop goes: along the first clock's actors, with a place in the second.
use Prim.Native.Nat.{ℕ, ◌≤◌, ◌<◌, compare, Ordering}
use Rattle.std.specs.Prelude.{◌≡◌, refl, Bool, true, false, ◌&&◌, [], ◌∷◌, map, T, leb, eqb}
use Rattle.std.proofs.Common.{sym, subst, ◌∙◌, arith, leb→le, le→leb, ltb→lt, eqb-true}
use Rattle.std.proofs.lemmas.Bool.{eqb-false}
use Rattle.tables.specs.Order.{nat_order, lt_nat}
use Rattle.tables.specs.Truth.{and_l, and_r, and_i, bool_ext}
use Rattle.tables.specs.Table.{Normal, Asc, Below, below_trans, find, hit, pick}
use Rattle.tables.specs.Zip.{said, past, by_lt, get_first, get_none}
use Rattle.dots.specs.declared.Dot.{Dot}
use Rattle.dots.specs.Dot.{actor_of, clocks, dots}
use Rattle.dots.specs.Clock.{Clock, count, covers}
use Rattle.dots.specs.ClockLaws.{covers_le, le_covers, dot_proper}

-- none of the other's actors is passed over, and none of its counters is larger
unfoldable pub cover_of : Clock → Clock → Bool
cover_of [] [] = true
cover_of [] (c ∷ cs) = false
cover_of (d ∷ v) cs = leb (said dots (actor_of d) cs) d.counter && cover_of v (past dots (actor_of d) cs)

-- ---- the counter of an actor in a clock with one more dot

pub count_same : (d : Dot) (c : Clock) → count (d ∷ c) (actor_of d) ≡ d.counter
count_same d c = get_first clocks d c

pub count_here : (d : Dot) (c : Clock) (a : ℕ) → actor_of d ≡ a → count (d ∷ c) a ≡ d.counter
count_here d c a e = subst (λ (k : ℕ). count (d ∷ c) k ≡ d.counter) e (count_same d c)

pub count_other : (d : Dot) (c : Clock) (a : ℕ) → (a ≡ actor_of d → ⊥) → count (d ∷ c) a ≡ count c a
count_other d c a n = go (compare a (actor_of d)) refl
  where
    go : (o : Ordering) → compare a (actor_of d) ≡ o → clocks.val (hit o d (find compare clocks.key a c)) ≡ count c a
    go Ordering.lt e = refl
    go Ordering.eq e = absurd (n (nat_order.same a (actor_of d) e))
    go Ordering.gt e = refl

pub by_eq : {C : Type 0} (a b : ℕ) → (a ≡ b → C) → ((a ≡ b → ⊥) → C) → C
by_eq {C} a b f g = go (eqb a b) refl
  where
    go : (t : Bool) → eqb a b ≡ t → C
    go true e = f (eqb-true a b e)
    go false e = g (eqb-false a b e)

gone : (k : ℕ) (c : Clock) → Below compare k (map (λ d. actor_of d) c) → count c k ≡ 0
gone k c h = get_none clocks c k h

before : (k : ℕ) (d : Dot) (c : Clock) → k < actor_of d → Asc compare (map (λ d. actor_of d) (d ∷ c)) → count (d ∷ c) k ≡ 0
before k d c l a = let e = lt_nat k (actor_of d) l in gone k (d ∷ c) (e, below_trans compare nat_order k (actor_of d) (map (λ d. actor_of d) c) e a.0)

-- ---- it is `covers`

pub cover_le : (v c : Clock) → Asc compare (map (λ d. actor_of d) v) → T (cover_of v c) → (a : ℕ) → count c a ≤ count v a
unfolding cover_of
cover_le [] [] h t a = omega arith
cover_le [] (x ∷ c) h t a = absurd t
cover_le (d ∷ v) [] h t a = omega arith
cover_le (d ∷ v) (x ∷ c) h t a =
    go (eqb (actor_of x) (actor_of d)) refl (leb→le (said dots (actor_of d) (x ∷ c)) d.counter (and_l (leb (said dots (actor_of d) (x ∷ c)) d.counter) (cover_of v (past dots (actor_of d) (x ∷ c))) t))
    (cover_le v (past dots (actor_of d) (x ∷ c)) h.1 (and_r (leb (said dots (actor_of d) (x ∷ c)) d.counter) (cover_of v (past dots (actor_of d) (x ∷ c))) t))
  where
    go : (b : Bool) → eqb (actor_of x) (actor_of d) ≡ b → pick b x.counter 0 ≤ d.counter → ((a : ℕ) → count (pick b c (x ∷ c)) a ≤ count v a) → count (x ∷ c) a ≤ count (d ∷ v) a
    go true e p f =
        let s : actor_of x ≡ actor_of d = eqb-true (actor_of x) (actor_of d) e in
        by_eq a (actor_of d)
        (λ q. let u = count_here x c a (s ∙ sym q) in let w = count_here d v a (sym q) in omega arith)
        (λ n. let u = count_other x c a (λ z. n (z ∙ s)) in let w = count_other d v a n in let g = f a in omega arith)
    go false e p f =
        by_eq a (actor_of d)
        (λ q. let u : count v a ≡ 0 = rw q (gone (actor_of d) v h.0) in let g = f a in omega arith)
        (λ n. let w = count_other d v a n in let g = f a in omega arith)

pub le_cover : (v c : Clock) → Asc compare (map (λ d. actor_of d) v) → Normal clocks c → ((a : ℕ) → count c a ≤ count v a) → T (cover_of v c)
unfolding cover_of
le_cover [] [] h n f = tt
le_cover [] (x ∷ c) h n f =
    let p = ltb→lt 0 x.counter (dot_proper x n.proper.0) in let q = f (actor_of x) in let s = count_same x c in
    absurd (omega arith)
le_cover (d ∷ v) [] h n f = and_i (leb 0 d.counter) (cover_of v []) (le→leb 0 d.counter (omega arith)) (le_cover v [] h.1 n (λ a. omega arith))
le_cover (d ∷ v) (x ∷ c) h n f = go (eqb (actor_of x) (actor_of d)) refl (λ c. le_cover v c h.1)
  where
    positive : 0 < x.counter
    positive = ltb→lt 0 x.counter (dot_proper x n.proper.0)

    go : (b : Bool) → eqb (actor_of x) (actor_of d) ≡ b → ((c : Clock) → Normal clocks c → ((a : ℕ) → count c a ≤ count v a) → T (cover_of v c))
        → T (leb (pick b x.counter 0) d.counter && cover_of v (pick b c (x ∷ c)))
    go true e rec =
        let s : actor_of x ≡ actor_of d = eqb-true (actor_of x) (actor_of d) e in
        let u = count_same x c in
        let w = count_here d v (actor_of x) (sym s) in
        let g = f (actor_of x) in
        and_i (leb x.counter d.counter) (cover_of v c) (le→leb x.counter d.counter (omega arith))
        (rec c (record { asc = n.asc.1; proper = n.proper.1 })
        (λ a. by_eq a (actor_of x)
        (λ q. let z : count c a ≡ 0 = rw q (gone (actor_of x) c n.asc.0) in omega arith)
        (λ m. let y = count_other x c a m in let k = count_other d v a (λ z. m (z ∙ sym s)) in let l = f a in omega arith)))
    go false e rec =
        let m = eqb-false (actor_of x) (actor_of d) e in
        and_i (leb 0 d.counter) (cover_of v (x ∷ c)) (le→leb 0 d.counter (omega arith))
        (rec (x ∷ c) n
        (λ a. by_eq a (actor_of d)
        (λ q. by_lt (actor_of d) (actor_of x)
        (λ l. let z : count (x ∷ c) a ≡ 0 = subst (λ (k : ℕ). count (x ∷ c) k ≡ 0) (sym q) (before (actor_of d) x c l n.asc) in omega arith)
        (λ l. let y = before (actor_of x) d v (omega arith) h in let u = count_same x c in let g = f (actor_of x) in let p = positive in absurd (omega arith)))
        (λ k. let y = count_other d v a k in let g = f a in omega arith)))

pub cover_is : (v c : Clock) → Normal clocks v → Normal clocks c → cover_of v c ≡ covers v c
cover_is v c nv nc = bool_ext (cover_of v c) (covers v c)
    (λ t. le_covers v c nc (cover_le v c nv.asc t))
    (λ t. le_cover v c nv.asc nc (covers_le v c t))
