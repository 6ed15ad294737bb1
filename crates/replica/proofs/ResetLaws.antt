-- What is proved of specs/ResetLaws.antt.
use Prim.Native.Nat.{ℕ, suc, ◌≤◌, Ordering}
use Rattle.std.specs.Prelude.{◌≡◌, refl, ◌≢◌, Bool, true, false, not, ◌&&◌, ◌||◌, List, [], ◌∷◌, T, leb, ltb, eqb}
use Rattle.std.proofs.Common.{sym, ap, ap₂, ◌∙◌, subst, arith, leb-true, leb-false, lt-ltb, le-ltb}
use Rattle.std.proofs.Math.Bool.{and-false, and-true, or-false}
use Rattle.std.proofs.lemmas.Bool.{false≢true}
use Rattle.std.proofs.Math.Option.{Option, none, some}
use Rattle.std.proofs.Math.Dec.{compare_is_eq, leb-suc-zero}
use Rattle.tables.specs.Truth.{and_l}
use Rattle.tables.specs.Table.{All, get, Normal, pick, is_some, any, hit, at_all, normal_sift, get_sift}
use Rattle.dots.specs.declared.Dot.{Dot}
use Rattle.dots.specs.Dot.{clocks}
use Rattle.dots.specs.Clock.{Clock, count, filled, reset_by, cmp_clock, clock_order}
use Rattle.dots.specs.ClockLaws.{reset_normal, reset_count, reset_dot}
use Rattle.replica.proofs.Lists.{any_same, any_more}
use Rattle.replica.specs.Replica.{Wait, Replica, entry?, entries, waits, member_sets, members_of, entry, names, holds, kills, killed}
use Rattle.replica.specs.Rules.{rewait, reset_waits, reset}
use Rattle.replica.specs.WellFormed.{Fine, sound}
use Rattle.replica.proofs.WellFormedFacts.{sound_fine, fine_sound}
use Rattle.replica.proofs.WaitsFacts.{names_unite, unite_good, one_normal, there_unite, joined_get, joined_normal, joined_kills}
use Rattle.replica.specs.ResetLaws.{becomes, this, WaitOk, WasReset}

-- ---- entries

reset_entry : (c : Clock) (A : Replica) → Fine A → (m : ℕ) → entry (reset c A) m ≡ reset_by c (entry A m)
unfolding reset reset_by
reset_entry c A h m = get_sift entries (λ e. entry? e.member (reset_by c e.clock)) (λ k v. reset_by c v) (λ e p. refl) (λ k. refl) A.entries h.entries_ok m

resets_normal : (c : Clock) (ws : List Wait) → Normal waits (reset_waits c ws)
unfolding reset_waits rewait
resets_normal c [] = record { asc = tt; proper = tt }
resets_normal c (w ∷ ws) = go (reset_by c w.clock) (resets_normal c ws)
  where
    go : (x : Clock) → Normal waits (reset_waits c ws) → Normal waits (rewait x w.members (reset_waits c ws))
    go [] l = l
    go (d ∷ x) l = joined_normal (this d x w.members ∷ []) (reset_waits c ws) l

-- one waiting remove with a clock that is not empty, at the clock k
one_there : (d : Dot) (x : Clock) (ms : List ℕ) (k : Clock) → is_some (get waits (this d x ms ∷ []) k) ≡ (filled k && compare_is_eq (cmp_clock k (d ∷ x)))
unfolding filled
one_there d x ms [] = refl
one_there d x ms (e ∷ k) = go (cmp_clock (e ∷ k) (d ∷ x))
  where
    go : (o : Ordering) → is_some (members_of (hit o (this d x ms) none)) ≡ compare_is_eq o
    go Ordering.lt = refl
    go Ordering.eq = refl
    go Ordering.gt = refl

one_names : (d : Dot) (x : Clock) (ms : List ℕ) (k : Clock) (m : ℕ) → names (get waits (this d x ms ∷ []) k) m ≡ (filled k && compare_is_eq (cmp_clock k (d ∷ x)) && get member_sets ms m)
unfolding filled
one_names d x ms [] m = refl
one_names d x ms (e ∷ k) m = go (cmp_clock (e ∷ k) (d ∷ x))
  where
    go : (o : Ordering) → names (members_of (hit o (this d x ms) none)) m ≡ (compare_is_eq o && get member_sets ms m)
    go Ordering.lt = refl
    go Ordering.eq = refl
    go Ordering.gt = refl

no_empty : (k : Clock) → (filled k && compare_is_eq (cmp_clock k [])) ≡ false
unfolding filled
no_empty [] = refl
no_empty (e ∷ k) = refl

resets_there : (c : Clock) (ws : List Wait) (k : Clock) → is_some (get waits (reset_waits c ws) k) ≡ any (becomes c k) ws
unfolding reset_waits rewait becomes
resets_there c [] k = refl
resets_there c (w ∷ ws) k = go (reset_by c w.clock) (resets_there c ws k)
  where
    go : (x : Clock) → is_some (get waits (reset_waits c ws) k) ≡ any (becomes c k) ws
        → is_some (get waits (rewait x w.members (reset_waits c ws)) k) ≡ (filled k && compare_is_eq (cmp_clock k x) || any (becomes c k) ws)
    go [] l = l ∙ ap (λ (b : Bool). b || any (becomes c k) ws) (sym (no_empty k))
    go (d ∷ x) l =
        ap is_some (joined_get (this d x w.members ∷ []) (reset_waits c ws) k) ∙ there_unite (get waits (this d x w.members ∷ []) k) (get waits (reset_waits c ws) k)
        ∙ ap₂ ◌||◌ (one_there d x w.members k) l

resets_names : (c : Clock) (ws : List Wait) (k : Clock) (m : ℕ) → names (get waits (reset_waits c ws) k) m ≡ any (λ w. becomes c k w && get member_sets w.members m) ws
unfolding reset_waits rewait becomes
resets_names c [] k m = refl
resets_names c (w ∷ ws) k m = go (reset_by c w.clock) (resets_names c ws k m)
  where
    go : (x : Clock) → names (get waits (reset_waits c ws) k) m ≡ any (λ w. becomes c k w && get member_sets w.members m) ws
        → names (get waits (rewait x w.members (reset_waits c ws)) k) m ≡ (filled k && compare_is_eq (cmp_clock k x) && get member_sets w.members m || any (λ w. becomes c k w && get member_sets w.members m) ws)
    go [] l = l ∙ ap (λ (b : Bool). b && get member_sets w.members m || any (λ w. becomes c k w && get member_sets w.members m) ws) (sym (no_empty k))
    go (d ∷ x) l =
        ap (λ (o : Option (List ℕ)). names o m) (joined_get (this d x w.members ∷ []) (reset_waits c ws) k) ∙ names_unite (get waits (this d x w.members ∷ []) k) (get waits (reset_waits c ws) k) m
        ∙ ap₂ ◌||◌ (one_names d x w.members k m) l

-- what they cover
resets_kills : (c : Clock) (ws : List Wait) (m a n : ℕ) → any (kills m a (suc n)) (reset_waits c ws) ≡ any (λ w. get member_sets w.members m && leb (suc n) (count (reset_by c w.clock) a)) ws
unfolding reset_waits rewait
resets_kills c [] m a n = refl
resets_kills c (w ∷ ws) m a n = go (reset_by c w.clock) (resets_kills c ws m a n)
  where
    go : (x : Clock) → any (kills m a (suc n)) (reset_waits c ws) ≡ any (λ w. get member_sets w.members m && leb (suc n) (count (reset_by c w.clock) a)) ws
        → any (kills m a (suc n)) (rewait x w.members (reset_waits c ws)) ≡ (get member_sets w.members m && leb (suc n) (count x a) || any (λ w. get member_sets w.members m && leb (suc n) (count (reset_by c w.clock) a)) ws)
    go [] l = l ∙ sym (rw (leb-suc-zero n, and-false (get member_sets w.members m)))
    go (d ∷ x) l =
        joined_kills (this d x w.members ∷ []) (reset_waits c ws) (one_normal (this d x w.members)) (resets_normal c ws) m a (suc n)
        ∙ ap₂ ◌||◌ (or-false (kills m a (suc n) (this d x w.members))) l

reset_covers : (x y n : ℕ) → leb (suc n) (pick (leb x y) 0 x) ≡ (leb (suc n) x && ltb y x)
reset_covers x y n = go (leb x y) refl
  where
    go : (b : Bool) → leb x y ≡ b → leb (suc n) (pick b 0 x) ≡ (leb (suc n) x && ltb y x)
    go true e = let k = leb-true x y e in leb-suc-zero n ∙ sym (rw (le-ltb y x k) (and-false (leb (suc n) x)))
    go false e = let k = leb-false x y e in sym (rw (lt-ltb y x k) (and-true (leb (suc n) x)))

wait_oks : (A : Replica) → Fine A → All WaitOk A.waiting
wait_oks A h = at_all waits WaitOk A.waiting h.waiting_ok (λ w e p. h.late w.clock w.members (ap members_of e))

reset_killed : (c : Clock) (A : Replica) → Fine A → (m a n : ℕ) → killed (reset c A) m a (suc n) ≡ any (λ w. kills m a (suc n) w && ltb (count c a) (count w.clock a)) A.waiting
unfolding reset killed
reset_killed c A h m a n =
    resets_kills c A.waiting m a n
    ∙ any_same WaitOk (λ w. get member_sets w.members m && leb (suc n) (count (reset_by c w.clock) a)) (λ w. kills m a (suc n) w && ltb (count c a) (count w.clock a)) A.waiting
    (λ w k. one w (get member_sets w.members m) k.0) (wait_oks A h)
  where
    one : (w : Wait) (b : Bool) → Normal clocks w.clock → (b && leb (suc n) (count (reset_by c w.clock) a)) ≡ (b && leb (suc n) (count w.clock a) && ltb (count c a) (count w.clock a))
    one w true k = ap (leb (suc n)) (reset_count c w.clock k a) ∙ reset_covers (count w.clock a) (count c a) n
    one w false k = refl

-- ---- well-formed

resets_late : (c : Clock) (ws : List Wait) → All WaitOk ws → (k : Clock) (ms : List ℕ) → get waits (reset_waits c ws) k ≡ some ms → Normal clocks k × (k ≢ []) × Normal member_sets ms
unfolding reset_waits rewait filled
resets_late c [] h k ms e = absurd (false≢true (ap is_some e))
resets_late c (w ∷ ws) h k ms e = go (reset_by c w.clock) refl (resets_late c ws h.1 k) e
  where
    own : (d : Dot) (x : Clock) → reset_by c w.clock ≡ d ∷ x → (ns : List ℕ) (o : Ordering) → cmp_clock k (d ∷ x) ≡ o → members_of (hit o (this d x w.members) none) ≡ some ns → Normal clocks k × (k ≢ []) × Normal member_sets ns
    own d x q ns Ordering.lt u f = absurd (false≢true (ap is_some f))
    own d x q ns Ordering.eq u f =
        let p : k ≡ d ∷ x = clock_order.same k (d ∷ x) u in
        let r : w.members ≡ ns = cc in
        (subst (Normal clocks) (q ∙ sym p) (reset_normal c w.clock h.0.0), (λ z. false≢true (ap filled (sym z ∙ p))), subst (Normal member_sets) r h.0.2)
    own d x q ns Ordering.gt u f = absurd (false≢true (ap is_some f))

    go : (x : Clock) → reset_by c w.clock ≡ x → ((ms : List ℕ) → get waits (reset_waits c ws) k ≡ some ms → Normal clocks k × (k ≢ []) × Normal member_sets ms)
        → get waits (rewait x w.members (reset_waits c ws)) k ≡ some ms → Normal clocks k × (k ≢ []) × Normal member_sets ms
    go [] q l e = l ms e
    go (d ∷ x) q l e =
        unite_good k (get waits (this d x w.members ∷ []) k) (get waits (reset_waits c ws) k) (λ ns f. own d x q ns (cmp_clock k (d ∷ x)) refl f) l ms
        (sym (joined_get (this d x w.members ∷ []) (reset_waits c ws) k) ∙ e)

reset_holds : (c : Clock) (A : Replica) → Fine A → (m a n : ℕ) → holds (reset c A) m a (suc n) ≡ (holds A m a (suc n) && not (leb (suc n) (count c a)))
unfolding holds
reset_holds c A h m a n = ap (λ (v : Clock). eqb (count v a) (suc n)) (reset_entry c A h m) ∙ reset_dot c (entry A m) (h.each m) a n

reset_le : (x v y : ℕ) → x ≤ v → pick (leb x y) 0 x ≤ pick (leb v y) 0 v
reset_le x v y l = go (leb x y) refl (leb v y) refl
  where
    go : (p : Bool) → leb x y ≡ p → (q : Bool) → leb v y ≡ q → pick p 0 x ≤ pick q 0 v
    go true e q f = omega arith
    go false e true f = let i = leb-false x y e in let j = leb-true v y f in absurd (omega arith)
    go false e false f = l

reset_fine : (c : Clock) (A : Replica) → Fine A → Fine (reset c A)
unfolding reset killed
reset_fine c A h = record {
  clock_ok = reset_normal c A.clock h.clock_ok;
  entries_ok = normal_sift entries (λ e. entry? e.member (reset_by c e.clock)) (λ k v. reset_by c v) (λ e p. refl) A.entries h.entries_ok;
  waiting_ok = resets_normal c A.waiting;
  each = λ m. rw (reset_entry c A h m) (reset_normal c (entry A m) (h.each m));
  within = λ m a. rw (reset_entry c A h m, reset_count c (entry A m) (h.each m) a, reset_count c A.clock h.clock_ok a) (reset_le (count (entry A m) a) (count A.clock a) (count c a) (h.within m a));
  late = resets_late c A.waiting (wait_oks A h);
  free = λ m a n t k. h.free m a n (and_l (holds A m a (suc n)) (not (leb (suc n) (count c a))) (subst T (reset_holds c A h m a n) t)) (fewer m a n (subst T (reset_killed c A h m a n) k));
}
  where
    fewer : (m a n : ℕ) → T (any (λ w. kills m a (suc n) w && ltb (count c a) (count w.clock a)) A.waiting) → T (killed A m a (suc n))
    fewer m a n t = any_more (λ w. kills m a (suc n) w && ltb (count c a) (count w.clock a)) (kills m a (suc n)) A.waiting (λ w u. and_l (kills m a (suc n) w) (ltb (count c a) (count w.clock a)) u) t

pub was_reset : (c : Clock) (A : Replica) → T (sound A) → WasReset c A (reset c A)
unfolding reset
was_reset c A s = record {
  clock_is = reset_count c A.clock h.clock_ok;
  holds_is = reset_holds c A h;
  wait_there = resets_there c A.waiting;
  wait_names = resets_names c A.waiting;
  killed_is = reset_killed c A h;
  is_sound = fine_sound (reset c A) (reset_fine c A h);
}
  where
    h : Fine A
    h = sound_fine A s
