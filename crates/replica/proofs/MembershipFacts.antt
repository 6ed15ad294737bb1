-- What is proved of specs/Membership.antt.
use Prim.Native.Nat.{ℕ, zero, suc, ◌≤◌, ◌<◌, compare}
use Rattle.std.specs.Prelude.{◌≡◌, refl, ◌↔◌, ◌⊎◌, Bool, true, false, not, ◌||◌, List, [], ◌∷◌, T, leb, eqb}
use Rattle.std.proofs.Common.{sym, ap, ◌∙◌, inl, inr, arith, not-suc-le-zero, T_not, leb→le, eqb→eq, eq-eqb}
use Rattle.std.proofs.lemmas.Bool.{false≢true}
use Rattle.std.proofs.Math.Option.{Option, none, some}
use Rattle.std.proofs.Math.Arith.{lt→nleb}
use Rattle.std.proofs.Math.Dec.{not_T, nleb→lt, eqb-zero-suc}
use Rattle.tables.specs.Order.{nat_order, self}
use Rattle.tables.specs.Truth.{and_l, and_r, and_i, or_l, or_r, or_e, nor_l, nor_r, nor_i}
use Rattle.tables.specs.Table.{Normal, Proper, is_some, row_at, all_at}
use Rattle.dots.specs.Dot.{clocks, dot?, actor_of}
use Rattle.dots.specs.Clock.{Clock, count}
use Rattle.replica.specs.Replica.{Entry, Replica, entries, entry?, clock_of, entry, wait_at, names, is_in, holds, seen, killed}
use Rattle.replica.specs.Rules.{stay}
use Rattle.replica.specs.OneDot.{stays}
use Rattle.replica.proofs.WaitsFacts.{killed_from, killed_to}
use Rattle.replica.specs.WellFormed.{Fine}
use Rattle.replica.specs.Merged.{Merged, live}
use Rattle.replica.specs.Membership.{Clear, Brings, Kept}

-- ---- a member is there exactly if a dot is held for it

first_dot : (c : Clock) → Normal clocks c → (c ≡ [] → ⊥) → (a : ℕ) × (n : ℕ) × (count c a ≡ suc n)
first_dot [] h z = absurd (z refl)
first_dot (d ∷ c) h z = go d.counter refl
  where
    go : (k : ℕ) → d.counter ≡ k → (a : ℕ) × (n : ℕ) × (count (d ∷ c) a ≡ suc n)
    go zero e = absurd (false≢true (ap is_some (ap (dot? (actor_of d)) (sym e) ∙ h.proper.0)))
    go (suc n) e = (actor_of d, n, rw (self compare nat_order (actor_of d)) e)

pub in_holds : (A : Replica) → Fine A → (m : ℕ) → T (is_in A m) → (a : ℕ) × (n : ℕ) × T (holds A m a (suc n))
unfolding is_in holds
in_holds A h m t = go (row_at entries A.entries m) refl t
  where
    go : (o : Option Entry) → row_at entries A.entries m ≡ o → T (is_some o) → (a : ℕ) × (n : ℕ) × T (eqb (count (entry A m) a) (suc n))
    go none e t = absurd t
    go (some x) e t =
        let p = all_at entries (Proper entries) A.entries h.entries_ok.proper m x e in
        let q : entry A m ≡ x.clock = ap clock_of e in
        let d = first_dot (entry A m) (h.each m) (λ z. false≢true (ap is_some (ap (entry? x.member) (sym z ∙ q) ∙ p))) in
        (d.0, d.1, rw (eq-eqb (count (entry A m) d.0) (suc d.1) d.2) tt)

pub holds_in : (A : Replica) (m a n : ℕ) → T (holds A m a (suc n)) → T (is_in A m)
unfolding is_in holds
holds_in A m a n t = go (row_at entries A.entries m) refl
  where
    go : (o : Option Entry) → row_at entries A.entries m ≡ o → T (is_some o)
    go none e = let z : T (eqb 0 (suc n)) = rw e at t in rw (eqb-zero-suc n) at z
    go (some x) e = tt

clear_from : (A : Replica) (m a n : ℕ) → T (not (killed A m a n)) → Clear A m a n
clear_from A m a n t c ms e s = go (leb n (count c a)) refl
  where
    go : (b : Bool) → leb n (count c a) ≡ b → count c a < n
    go true u = absurd (T_not (killed A m a n) t (killed_to A m a n c (rw e s) (rw u tt)))
    go false u = nleb→lt n (count c a) (rw u tt)

clear_to : (A : Replica) → Fine A → (m a n : ℕ) → Clear A m a n → T (not (killed A m a n))
clear_to A h m a n f = not_T (killed A m a n)
    (λ k. let w = killed_from A m a n h.waiting_ok k in go w.0 (wait_at A w.0) refl w.1 (leb→le n (count w.0 a) w.2))
  where
    go : (c : Clock) (o : Option (List ℕ)) → wait_at A c ≡ o → T (names o m) → n ≤ count c a → ⊥
    go c none e t l = t
    go c (some ms) e t l = let k = f c ms e t in omega arith

brings_to : (A B : Replica) (m a n : ℕ) → Brings A B m a n → T (holds A m a n) × T (holds B m a n || not (seen B a n))
unfolding holds seen
brings_to A B m a n h = (
  rw (eq-eqb (count (entry A m) a) n h.0) tt,
  elim h.1 [
    | inl e ↦ or_l (holds B m a n) (not (seen B a n)) (rw (eq-eqb (count (entry B m) a) n e) tt)
    | inr l ↦ or_r (holds B m a n) (not (seen B a n)) (lt→nleb n (count B.clock a) l)
  ],
)

brings_from : (A B : Replica) (m a n : ℕ) → T (holds A m a n) → T (holds B m a n || not (seen B a n)) → Brings A B m a n
unfolding holds seen
brings_from A B m a n s t = (
  eqb→eq (count (entry A m) a) n s,
  or_e (holds B m a n) (not (seen B a n)) t (λ u. inl (eqb→eq (count (entry B m) a) n u)) (λ u. inr (nleb→lt n (count B.clock a) u)),
)

stays_from : (hA hB sA sB : Bool) → T (stays hA hB sA sB) → (T hA × T (hB || not sB)) ⊎ (T hB × T (hA || not sA))
stays_from true true sA sB t = inl (tt, tt)
stays_from true false sA sB t = inl (tt, or_e (not sB) false t (λ u. u) (λ u. absurd u))
stays_from false true sA sB t = inr (tt, t)
stays_from false false sA sB t = absurd t

stays_left : (hA hB sA sB : Bool) → T hA → T (hB || not sB) → T (stays hA hB sA sB)
stays_left true true sA sB s t = tt
stays_left true false sA sB s t = or_l (not sB) false t
stays_left false hB sA sB s t = absurd s

stays_right : (hA hB sA sB : Bool) → T hB → T (hA || not sA) → T (stays hA hB sA sB)
stays_right true true sA sB s t = tt
stays_right false true sA sB s t = t
stays_right true false sA sB s t = absurd s
stays_right false false sA sB s t = absurd s

-- the dot that lives, in words
pub live_from : (A B : Replica) (m a n : ℕ) → T (live A B m a n) → (Brings A B m a n ⊎ Brings B A m a n) × (Clear A m a n × Clear B m a n)
unfolding live stay
live_from A B m a n t = (
  elim (stays_from (holds A m a n) (holds B m a n) (seen A a n) (seen B a n) (and_l (stay A B m a n) (not (killed A m a n || killed B m a n)) t)) [
    | inl p ↦ inl (brings_from A B m a n p.0 p.1)
    | inr p ↦ inr (brings_from B A m a n p.0 p.1)
  ],
  (clear_from A m a n (nor_l (killed A m a n) (killed B m a n) dead), clear_from B m a n (nor_r (killed A m a n) (killed B m a n) dead)),
)
  where
    dead : T (not (killed A m a n || killed B m a n))
    dead = and_r (stay A B m a n) (not (killed A m a n || killed B m a n)) t

pub live_to : (A B : Replica) → Fine A → Fine B → (m a n : ℕ) → Brings A B m a n ⊎ Brings B A m a n → Clear A m a n → Clear B m a n → T (live A B m a n)
unfolding live stay
live_to A B h g m a n k p q =
    and_i (stay A B m a n) (not (killed A m a n || killed B m a n))
    (elim k [
      | inl l ↦ let x = brings_to A B m a n l in stays_left (holds A m a n) (holds B m a n) (seen A a n) (seen B a n) x.0 x.1
      | inr l ↦ let x = brings_to B A m a n l in stays_right (holds A m a n) (holds B m a n) (seen A a n) (seen B a n) x.0 x.1
    ])
    (nor_i (killed A m a n) (killed B m a n) (clear_to A h m a n p) (clear_to B g m a n q))

pub membership : (A B M : Replica) → Fine A → Fine B → Merged A B M → (m : ℕ) → T (is_in M m) ↔ Kept A B m
membership A B M h g r m = (there, λ k. back k.actor k.counter k.some_dot k.held k.clear.0 k.clear.1)
  where
    there : T (is_in M m) → Kept A B m
    there t =
        let d = in_holds M r.fine m t in
        let l = live_from A B m d.0 (suc d.1) (rw (r.holds_is m d.0 d.1) at d.2) in
        record { actor = d.0; counter = suc d.1; some_dot = omega arith; held = l.0; clear = l.1 }

    back : (a n : ℕ) → 0 < n → Brings A B m a n ⊎ Brings B A m a n → Clear A m a n → Clear B m a n → T (is_in M m)
    back a zero z k p q = absurd (not-suc-le-zero z)
    back a (suc n) z k p q = holds_in M m a n (rw (r.holds_is m a n) (live_to A B h g m a (suc n) k p q))
