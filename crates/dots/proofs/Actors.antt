-- What the order of two numbers says of them, and ordered dots by how their actors stand: the same, the first below, the first above.
use Prim.Native.Nat.{ℕ, ◌<◌, compare}
use Rattle.std.proofs.Common.{◌≡◌, refl, sym, ◌∙◌, true, false, Some, nat_cmp, leb, le-leb, arith}
use borrow.Author.Tests.{lt-leb}
use Rattle.std.proofs.lemmas.Cmp.{by_ranked, ranked}
use Rattle.std.specs.Ordering.{ordering_then}
use Rattle.tables.specs.Order.{nat_order, self, lt_nat, lt_gt}
use Rattle.dots.specs.declared.OrdDot.{OrdDot}
use Rattle.dots.specs.Calls.{Standing, standing, means, ord_at_least}

pub by_number : (m n : ℕ) → means (Some (nat_cmp m n)) ≡ standing (leb n m) (leb m n)
by_number m n =
    by_ranked (m < n) (m ≡ n) (n < m) (nat_cmp m n) (ranked m n (nat_cmp m n) refl)
    (λ e h. rw e (simp (lt-leb n m h, le-leb m n (omega arith))))
    (λ e h. rw e (simp (le-leb n m (omega arith), le-leb m n (omega arith))))
    (λ e h. rw e (simp (lt-leb m n h, le-leb n m (omega arith))))

abbrev stand : OrdDot → OrdDot → Standing
stand d e = standing (ord_at_least d e) (ord_at_least e d)

module _ (d e : OrdDot) where
  of_one_actor : d.actor.0 ≡ e.actor.0 → stand d e ≡ standing (leb e.counter d.counter) (leb d.counter e.counter)
  unfolding ord_at_least
  of_one_actor h = simp (h, self compare nat_order e.actor.0)

  of_less : d.actor.0 < e.actor.0 → stand d e ≡ standing false true
  unfolding ord_at_least
  of_less h = simp (lt_nat _ _ h, lt_gt compare nat_order _ _ (lt_nat _ _ h))

  of_more : e.actor.0 < d.actor.0 → stand d e ≡ standing true false
  unfolding ord_at_least
  of_more h = simp (lt_nat _ _ h, lt_gt compare nat_order _ _ (lt_nat _ _ h))

  pub by_actor : means (Some (ordering_then (nat_cmp d.actor.0 e.actor.0) (nat_cmp d.counter e.counter))) ≡ stand d e
  by_actor =
      by_ranked (d.actor.0 < e.actor.0) (d.actor.0 ≡ e.actor.0) (e.actor.0 < d.actor.0) (nat_cmp d.actor.0 e.actor.0) (ranked d.actor.0 e.actor.0 _ refl)
      (λ q h. rw q (sym (of_less h)))
      (λ q h. rw q (by_number d.counter e.counter ∙ sym (of_one_actor h)))
      (λ q h. rw q (sym (of_more h)))
