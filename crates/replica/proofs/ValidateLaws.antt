-- What the validations say: what is granted has no gap, and what is not reported is not double-spent.
use Rattle.std.specs.Prelude.{ℕ, suc, ◌+◌, ◌≤◌, ◌≡◌, refl, ◌↔◌, Bool, true, false, not, ◌||◌, List, [], ◌∷◌, ◌++◌, map, T, eqb, ltb}
use Rattle.std.proofs.Common.{sym, ap, ap₂, ◌∙◌, subst, T_not, eqb→eq, ltb-false, le-ltb, eq-eqb}
use Rattle.std.proofs.lemmas.Bool.{false≢true}
use Rattle.std.proofs.Math.Option
use Rattle.std.proofs.Math.Option.{Option, none, some}
use Rattle.std.proofs.Math.Dec.{not_T, eqb-zero-suc}
use Rattle.tables.specs.Truth.{and_l, and_r, and_i}
use Rattle.tables.specs.Table.{All, Normal, all_map, at_all, pick, is_some, any, row_at, key_at, at_any}
use Rattle.dots.specs.declared.Dot.{Dot}
use Rattle.dots.specs.declared.DotRange.{DotRange}
use Rattle.dots.specs.Dot.{clocks, counter_of, actor_of}
use Rattle.dots.specs.Clock.{count, gap}
use Rattle.replica.proofs.Lists.{any_append, any_mapped, all_append, all_mapped, all_there}
use Rattle.replica.specs.Replica.{Entry, Replica, entries, clock_of, entry, holds_in, holds}
use Rattle.replica.specs.WellFormed.{sound, Fine}
use Rattle.replica.proofs.WellFormedFacts.{sound_fine}
use Rattle.replica.specs.History.{Add}
use Rattle.replica.specs.Validate.{validate_op, Triple, reportable, with_theirs, triples, first, first_spent, Spent, spent_of, validate_merge}

-- an add is granted exactly if its dot is at most V's next
pub add_granted : (d : Dot) (ms : List ℕ) (A : Replica) → (validate_op (Add d ms) A ≡ none) ↔ (d.counter ≤ count A.clock (actor_of d) + 1)
unfolding validate_op gap
add_granted d ms A = (λ e. go (ltb (count A.clock (actor_of d) + 1) d.counter) refl e, λ l. rw (le-ltb (count A.clock (actor_of d) + 1) d.counter l))
  where
    go : (b : Bool) → ltb (count A.clock (actor_of d) + 1) d.counter ≡ b
        → pick {A = Option DotRange} b (some (record { actor = d.actor; start = count A.clock (actor_of d) + 1; end = d.counter })) none ≡ none → d.counter ≤ count A.clock (actor_of d) + 1
    go true u e = absurd (false≢true (sym (ap is_some e)))
    go false u e = ltb-false (count A.clock (actor_of d) + 1) d.counter u

-- the first that passes: it passes, and none before it does
pub record FirstOf {X : Type 0} (p : X → Bool) (xs : List X) (x : X) : Type 0 where
  pub earlier : List X
  pub later : List X
  pub listed : xs ≡ earlier ++ (x ∷ later)
  pub none_earlier : any p earlier ≡ false
  pub passes : T (p x)

pub first_some : {X : Type 0} (p : X → Bool) (xs : List X) (x : X) → first p xs ≡ some x → FirstOf p xs x
first_some p [] x e = absurd (false≢true (ap is_some e))
first_some {X} p (y ∷ xs) x e = go (p y) refl e (first_some p xs x)
  where
    go : (b : Bool) → p y ≡ b → pick b (some y) (first p xs) ≡ some x → (first p xs ≡ some x → FirstOf p xs x) → FirstOf p (y ∷ xs) x
    go true u e l = let q : y ≡ x = cc in record { earlier = []; later = xs; listed = ap (λ (z : X). z ∷ xs) q; none_earlier = refl; passes = subst (λ (z : X). T (p z)) q (rw u tt) }
    go false u e l = let r = l e in
        record { earlier = y ∷ r.earlier; later = r.later; listed = ap (λ (zs : List X). y ∷ zs) r.listed; none_earlier = rw u r.none_earlier; passes = r.passes }

pub first_none : {X : Type 0} (p : X → Bool) (xs : List X) → first p xs ≡ none → any p xs ≡ false
first_none p [] e = refl
first_none p (y ∷ xs) e = go (p y) e (first_none p xs)
  where
    go : (b : Bool) → pick b (some y) (first p xs) ≡ none → (first p xs ≡ none → any p xs ≡ false) → (b || any p xs) ≡ false
    go true e l = absurd (false≢true (sym (ap is_some e)))
    go false e l = l e

-- ---- the triples, one by one

abbrev spent_by : Entry → Entry → Dot → Bool
spent_by o t d = reportable (record { our = o; their = t; dot = d })

any_theirs : (o : Entry) (ts : List Entry) → any reportable (with_theirs o ts) ≡ any (λ t. any (spent_by o t) o.clock) ts
any_theirs o [] = refl
any_theirs o (t ∷ ts) =
    any_append reportable (map (λ d. record { our = o; their = t; dot = d }) o.clock) (with_theirs o ts)
    ∙ ap₂ ◌||◌ (any_mapped reportable (λ d. record { our = o; their = t; dot = d }) o.clock) (any_theirs o ts)

any_triples : (os ts : List Entry) → any reportable (triples os ts) ≡ any (λ o. any (λ t. any (spent_by o t) o.clock) ts) os
any_triples [] ts = refl
any_triples (o ∷ os) ts = any_append reportable (with_theirs o ts) (triples os ts) ∙ ap₂ ◌||◌ (any_theirs o ts) (any_triples os ts)

-- ---- validate_merge

-- the row and the dot of a dot that is held
held : (es : List Entry) (m a n : ℕ) → T (holds_in es m a (suc n)) → (e : Entry) × (row_at entries es m ≡ some e) × (d : Dot) × (row_at clocks e.clock a ≡ some d) × (d.counter ≡ suc n)
held es m a n t = go (row_at entries es m) refl t
  where
    none_held : T (eqb 0 (suc n)) → ⊥
    none_held u = subst T (eqb-zero-suc n) u

    dot_of : (e : Entry) → row_at entries es m ≡ some e → (o : Option Dot) → row_at clocks e.clock a ≡ o → T (eqb (counter_of o) (suc n))
        → (e : Entry) × (row_at entries es m ≡ some e) × (d : Dot) × (row_at clocks e.clock a ≡ some d) × (d.counter ≡ suc n)
    dot_of e p none q u = absurd (none_held u)
    dot_of e p (some d) q u = (e, p, d, q, eqb→eq d.counter (suc n) u)

    go : (o : Option Entry) → row_at entries es m ≡ o → T (eqb (count (clock_of o) a) (suc n))
        → (e : Entry) × (row_at entries es m ≡ some e) × (d : Dot) × (row_at clocks e.clock a ≡ some d) × (d.counter ≡ suc n)
    go none p u = absurd (none_held u)
    go (some e) p u = dot_of e p (row_at clocks e.clock a) refl u

none_first : (A B : Replica) → first_spent A B ≡ none → (m k a n : ℕ) → (m ≡ k → ⊥) → T (holds A m a (suc n)) → T (holds B k a (suc n)) → ⊥
unfolding first_spent holds reportable
none_first A B e m k a n ne x y =
    let p = held A.entries m a n x in
    let q = held B.entries k a n y in
    let o = p.0 in let t = q.0 in let d = p.2 in
    let i = key_at entries A.entries m o p.1 in
    let j = key_at entries B.entries k t q.1 in
    let l = key_at clocks o.clock a d p.3 in
    let c : count t.clock (actor_of d) ≡ d.counter = ap (count t.clock) (sym l) ∙ ap counter_of q.3 ∙ q.4 ∙ sym p.4 in
    let r : T (spent_by o t d) = and_i (not (eqb o.member t.member)) (eqb (count t.clock (actor_of d)) d.counter)
    (not_T (eqb o.member t.member) (λ z. ne (i ∙ eqb→eq o.member t.member z ∙ sym j))) (rw (eq-eqb (count t.clock (actor_of d)) d.counter c) tt) in
    subst T (sym (any_triples A.entries B.entries) ∙ first_none reportable (triples A.entries B.entries) e)
    (at_any entries (λ o. any (λ t. any (spent_by o t) o.clock) B.entries) A.entries m o p.1
    (at_any entries (λ t. any (spent_by o t) o.clock) B.entries k t q.1 (at_any clocks (spent_by o t) o.clock a d p.3 r)))

-- where nothing is reported, no dot is held for a member of ours and another member of theirs
pub none_spent : (A B : Replica) → validate_merge A B ≡ none → (m k a n : ℕ) → (m ≡ k → ⊥) → T (holds A m a (suc n)) → T (holds B k a (suc n)) → ⊥
unfolding validate_merge
none_spent A B e = go (first_spent A B) refl e
  where
    go : (o : Option Triple) → first_spent A B ≡ o → Option.map spent_of o ≡ none
        → (m k a n : ℕ) → (m ≡ k → ⊥) → T (holds A m a (suc n)) → T (holds B k a (suc n)) → ⊥
    go none u e = none_first A B u
    go (some t) u e = absurd (false≢true (sym (ap is_some e)))

-- a triple of rows under their keys
abbrev Stands : Replica → Replica → Triple → Type 0
Stands A B t = (row_at entries A.entries t.our.member ≡ some t.our) × (row_at entries B.entries t.their.member ≡ some t.their) × (row_at clocks t.our.clock (actor_of t.dot) ≡ some t.dot)

module _ (A B : Replica) where
  abbrev Ours : Entry → Type 0
  Ours o = (row_at entries A.entries o.member ≡ some o) × All (λ d. row_at clocks o.clock (actor_of d) ≡ some d) o.clock

  abbrev Theirs : Entry → Type 0
  Theirs t = row_at entries B.entries t.member ≡ some t

  theirs_stand : (o : Entry) → Ours o → (ts : List Entry) → All Theirs ts → All (Stands A B) (with_theirs o ts)
  theirs_stand o p [] h = tt
  theirs_stand o p (t ∷ ts) h =
      all_append (Stands A B) (map (λ d. record { our = o; their = t; dot = d }) o.clock) (with_theirs o ts)
      (all_mapped (Stands A B) (λ d. record { our = o; their = t; dot = d }) o.clock (all_map (λ d. row_at clocks o.clock (actor_of d) ≡ some d) (λ d. Stands A B (record { our = o; their = t; dot = d })) o.clock (λ d e. (p.0, h.0, e)) p.1))
      (theirs_stand o p ts h.1)

  triples_stand : (os ts : List Entry) → All Ours os → All Theirs ts → All (Stands A B) (triples os ts)
  triples_stand [] ts h g = tt
  triples_stand (o ∷ os) ts h g = all_append (Stands A B) (with_theirs o ts) (triples os ts) (theirs_stand o h.0 ts g) (triples_stand os ts h.1 g)

  all_stand : Fine A → Fine B → All (Stands A B) (triples A.entries B.entries)
  all_stand h g = triples_stand A.entries B.entries
      (at_all entries Ours A.entries h.entries_ok (λ o e p. (e, at_all clocks (λ d. row_at clocks o.clock (actor_of d) ≡ some d) o.clock (subst (Normal clocks) (ap clock_of e) (h.each o.member)) (λ d f q. f))))
      (at_all entries Theirs B.entries g.entries_ok (λ t e p. e))

-- what is reported is a dot that is held for a member of ours and another member of theirs
pub record DoubleSpent (A B : Replica) (x : Spent) : Type 0 where
  pub differ : x.our ≡ x.their → ⊥
  pub ours : T (holds A x.our (actor_of x.dot) x.dot.counter)
  pub theirs : T (holds B x.their (actor_of x.dot) x.dot.counter)

first_spent_is : (A B : Replica) → Fine A → Fine B → (t : Triple) → first_spent A B ≡ some t → DoubleSpent A B (spent_of t)
unfolding first_spent reportable holds
first_spent_is A B h g t e = record {
  differ = λ z. T_not (eqb t.our.member t.their.member) (and_l (not (eqb t.our.member t.their.member)) (eqb (count t.their.clock a) n) f.passes) (rw (eq-eqb t.our.member t.their.member z) tt);
  ours = rw (eq-eqb (holds_at A t.our) n (ap (λ (o : Option Entry). count (clock_of o) a) w.0 ∙ ap counter_of w.2)) tt;
  theirs = rw (eq-eqb (holds_at B t.their) n (ap (λ (o : Option Entry). count (clock_of o) a) w.1 ∙ eqb→eq (count t.their.clock a) n (and_r (not (eqb t.our.member t.their.member)) (eqb (count t.their.clock a) n) f.passes))) tt;
}
  where
    a : ℕ
    a = actor_of t.dot

    n : ℕ
    n = t.dot.counter

    f : FirstOf reportable (triples A.entries B.entries) t
    f = first_some reportable (triples A.entries B.entries) t e

    w : Stands A B t
    w = all_there (Stands A B) f.earlier t f.later (subst (All (Stands A B)) f.listed (all_stand A B h g))

    holds_at : Replica → Entry → ℕ
    holds_at R r = count (entry R r.member) a

pub spent : (A B : Replica) → T (sound A) → T (sound B) → (x : Spent) → validate_merge A B ≡ some x → DoubleSpent A B x
unfolding validate_merge
spent A B s u x e = go (first_spent A B) refl e
  where
    go : (o : Option Triple) → first_spent A B ≡ o → Option.map spent_of o ≡ some x → DoubleSpent A B x
    go none p e = absurd (false≢true (ap is_some e))
    go (some t) p e = let q : spent_of t ≡ x = cc in subst (DoubleSpent A B) q (first_spent_is A B (sound_fine A s) (sound_fine B u) t p)

-- and it is the first in the search order
pub spent_first : (A B : Replica) (t : Triple) → first_spent A B ≡ some t → FirstOf reportable (triples A.entries B.entries) t
unfolding first_spent
spent_first A B t e = first_some reportable (triples A.entries B.entries) t e
