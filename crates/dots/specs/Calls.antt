-- What the calls on dots answer, under document 01's words.
use Prim.Native.Nat.{◌+◌, ◌≤◌, ◌<◌}
use Prim.Native.Nat as nat
use Rattle.std.specs.Prelude.{◌≡◌, refl, Bool, true, false, ◌&&◌, leb, eqb, Option, Some, None, Result}
use Rattle.std.specs.declared.cmp.Ordering.{Ordering}
use Rattle.std.specs.declared.cmp.Ordering.TheVariants.{Less, Equal, Greater}
use Rattle.std.proofs.Common.{sym, ap, ◌∙◌, arith, leb-true, leb-false, eqb-true, eq-eqb}
use Rattle.std.proofs.lemmas.Bool.{false≢true}
use Rattle.std.proofs.Math.Dec.{is_le}
use Rattle.tables.specs.Order.{turn}
use Rattle.tables.specs.Table.{pick}
use Rattle.dots.specs.declared.Dot.{Dot}
use Rattle.dots.specs.declared.OrdDot.{OrdDot}
use Rattle.dots.specs.declared.refusals.Refused.{Refused}
use Rattle.dots.specs.Answers.{answer}
use Rattle.dots.specs.Dot.{actor_of, dot, cmp_dot, dot_order}

-- "`inc` gives the actor's counter plus 1", and 5 if "a successor is asked of counter 18446744073709551615"
unfoldable pub inc_of : Dot → Result Dot Refused
inc_of d = answer (pick (eqb d.counter 18446744073709551615) 5 0) (dot (actor_of d) (d.counter + 1))

-- ---- what a comparison's answer says: whether the first is at least the second, and the second at least the first

pub record Standing : Type 0 where
  pub first_at_least : Bool
  pub second_at_least : Bool

abbrev pub standing : Bool → Bool → Standing
standing p q = record { first_at_least = p; second_at_least = q }

abbrev pub means : Option Ordering → Standing
means (Some Less) = standing false true
means (Some Equal) = standing true true
means (Some Greater) = standing true false
means None = standing false false

-- and the answer that says it
abbrev pub named : Standing → Option Ordering
named s = pick s.first_at_least (Some (pick s.second_at_least Equal Greater)) (pick s.second_at_least (Some Less) None)

-- "Dots of one actor compare by counter; of different actors not at all."
unfoldable pub at_least : Dot → Dot → Bool
at_least d e = eqb (actor_of d) (actor_of e) && leb e.counter d.counter

unfoldable pub same_dot : Dot → Dot → Bool
same_dot d e = eqb (actor_of d) (actor_of e) && eqb d.counter e.counter

-- "`OrdDot` orders by actor, then counter."
abbrev pub dot_of : OrdDot → Dot
dot_of d = record { actor = d.actor; counter = d.counter }

abbrev pub ord_of : Dot → OrdDot
ord_of d = record { actor = d.actor; counter = d.counter }

unfoldable pub ord_at_least : OrdDot → OrdDot → Bool
ord_at_least d e = is_le (cmp_dot (dot_of e) (dot_of d))

-- ---- theorems

-- the answer is determined by what it says: any two that a promise allows are equal
pub means_named : (p q : Bool) → means (named (standing p q)) ≡ standing p q
means_named true true = refl
means_named true false = refl
means_named false true = refl
means_named false false = refl

pub named_means : (r : Option Ordering) → named (means r) ≡ r
named_means (Some Less) = refl
named_means (Some Equal) = refl
named_means (Some Greater) = refl
named_means None = refl

pub means_one : (r s : Option Ordering) → means r ≡ means s → r ≡ s
means_one r s h = sym (named_means r) ∙ ap named h ∙ named_means s

-- ---- what each answer says of two dots

abbrev pub Says : Option Ordering → Dot → Dot → Type 0
Says (Some Less) d e = (actor_of d ≡ actor_of e) × (d.counter < e.counter)
Says (Some Equal) d e = d ≡ e
Says (Some Greater) d e = (actor_of d ≡ actor_of e) × (e.counter < d.counter)
Says None d e = actor_of d ≡ actor_of e → ⊥

both : (p q : Bool) → (p && q) ≡ true → (p ≡ true) × (q ≡ true)
both true q h = (refl, h)
both false q h = absurd (false≢true h)

when_at_least : (d e : Dot) → at_least d e ≡ true → (actor_of d ≡ actor_of e) × (e.counter ≤ d.counter)
unfolding at_least
when_at_least d e h =
    let p = both (eqb (actor_of d) (actor_of e)) (leb e.counter d.counter) h in
    (eqb-true (actor_of d) (actor_of e) p.0, leb-true e.counter d.counter p.1)

below : (d e : Dot) → at_least d e ≡ false → actor_of d ≡ actor_of e → d.counter < e.counter
unfolding at_least
below d e h same = leb-false e.counter d.counter (rw (eq-eqb (actor_of d) (actor_of e) same) at h)

pub compare_says : (d e : Dot) (r : Option Ordering) → means r ≡ standing (at_least d e) (at_least e d) → Says r d e
compare_says d e r h = go r (sym (ap (λ (t : Standing). t.first_at_least) h)) (sym (ap (λ (t : Standing). t.second_at_least) h))
  where
    go : (r : Option Ordering) → at_least d e ≡ (means r).first_at_least → at_least e d ≡ (means r).second_at_least → Says r d e
    go (Some Less) p q = let s = sym (when_at_least e d q).0 in (s, below d e p s)
    go (Some Equal) p q =
        let s = when_at_least d e p in
        let t = when_at_least e d q in
        let n : d.counter ≡ e.counter = omega arith in
        λ i. dot (s.0 i) (n i)
    go (Some Greater) p q = let s = (when_at_least d e p).0 in (s, below e d q (sym s))
    go None p q = λ s. let l = below d e p s in let m = below e d q (sym s) in omega arith

pub same_says : (d e : Dot) → same_dot d e ≡ true → d ≡ e
unfolding same_dot
same_says d e h =
    let p = both (eqb (actor_of d) (actor_of e)) (eqb d.counter e.counter) h in
    λ i. dot (eqb-true (actor_of d) (actor_of e) p.0 i) (eqb-true d.counter e.counter p.1 i)

pub same_self : (d : Dot) → same_dot d d ≡ true
unfolding same_dot
same_self d = rw (eq-eqb (actor_of d) (actor_of d) refl, eq-eqb d.counter d.counter refl)

-- ---- the answer on ordered dots is that of the total order `dot_order`, and so never none

abbrev pub ordered : nat.Ordering → Ordering
ordered nat.Ordering.lt = Less
ordered nat.Ordering.eq = Equal
ordered nat.Ordering.gt = Greater

pub ord_compares : (d e : OrdDot) (r : Option Ordering) → means r ≡ standing (ord_at_least d e) (ord_at_least e d) → r ≡ Some (ordered (cmp_dot (dot_of d) (dot_of e)))
unfolding ord_at_least
ord_compares d e r h = means_one r _ (h ∙ rw (dot_order.back (dot_of d) (dot_of e)) (go (cmp_dot (dot_of d) (dot_of e))))
  where
    go : (o : nat.Ordering) → standing (is_le (turn o)) (is_le o) ≡ means (Some (ordered o))
    go nat.Ordering.lt = refl
    go nat.Ordering.eq = refl
    go nat.Ordering.gt = refl
