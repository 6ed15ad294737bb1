-- The waiting remove with a clock, and the others.
use Prim.Native.Nat.{Ordering}
use Rattle.std.specs.Prelude.{◌≡◌, refl}
use Rattle.std.proofs.Common.{sym, ap, ◌∙◌}
use Rattle.tables.specs.Order.{self, lt≢eq, gt≢eq}
use Rattle.dots.specs.Clock.{Clock, cmp_clock, clock_order}

pub by_clock : {C : Type 0} (k c : Clock) → (k ≡ c → C) → ((k ≡ c → ⊥) → C) → C
by_clock {C} k c f g = go (cmp_clock k c) refl
  where
    differ : (o : Ordering) → cmp_clock k c ≡ o → (o ≡ Ordering.eq → ⊥) → k ≡ c → ⊥
    differ o u ne e = ne (sym u ∙ ap (λ (j : Clock). cmp_clock j c) e ∙ self cmp_clock clock_order c)

    go : (o : Ordering) → cmp_clock k c ≡ o → C
    go Ordering.lt u = g (differ Ordering.lt u lt≢eq)
    go Ordering.eq u = f (clock_order.same k c u)
    go Ordering.gt u = g (differ Ordering.gt u gt≢eq)
