-- What is said of an add, a remove and a reset, dot by dot and clock by clock, fixes the result: two replicas of which it is true are equal.
use Prim.Native.Nat.{ℕ, Ordering}
use Rattle.std.specs.Prelude.{◌≡◌, refl, Bool, true, false, List}
use Rattle.std.proofs.Common.{sym, ap, ◌∙◌}
use Rattle.std.proofs.Math.Option.{none}
use Rattle.tables.specs.Order.{self, lt≢eq, gt≢eq}
use Rattle.tables.specs.Table.{get, pick}
use Rattle.dots.specs.declared.Dot.{Dot}
use Rattle.dots.specs.Clock.{Clock, count, covers, cmp_clock, clock_order}
use Rattle.dots.specs.ClockLaws.{clock_ext}
use Rattle.replica.specs.Replica.{Wait, Replica, waits, wait_at}
use Rattle.replica.specs.WellFormed.{Fine}
use Rattle.replica.proofs.WellFormedFacts.{sound_fine, fine_ext}
use Rattle.replica.proofs.WaitsFacts.{sets_ext}
use Rattle.replica.proofs.MergedFacts.{wait_sets}
use Rattle.replica.specs.AddLaws.{Added}
use Rattle.replica.specs.RemoveLaws.{Removed}
use Rattle.replica.specs.ResetLaws.{WasReset}

pub added_once : (d : Dot) (ms : List ℕ) (A R S : Replica) → Added d ms A R → Added d ms A S → R ≡ S
added_once d ms A R S p q = fine_ext R S (sound_fine R p.is_sound) (sound_fine S q.is_sound)
    (λ a. p.clock_is a ∙ sym (q.clock_is a)) (λ m a n. p.holds_is m a n ∙ sym (q.holds_is m a n))
    (λ c. p.wait_is c ∙ ap (λ (v : Clock). pick (covers v c) none (wait_at A c)) same ∙ sym (q.wait_is c))
  where
    same : R.clock ≡ S.clock
    same = clock_ext R.clock S.clock (sound_fine R p.is_sound).clock_ok (sound_fine S q.is_sound).clock_ok (λ a. p.clock_is a ∙ sym (q.clock_is a))

pub removed_once : (c : Clock) (ms : List ℕ) (A R S : Replica) → Removed c ms A R → Removed c ms A S → R ≡ S
removed_once c ms A R S p q = fine_ext R S (sound_fine R p.is_sound) (sound_fine S q.is_sound)
    (λ a. ap (λ (v : Clock). count v a) (p.clock_is ∙ sym q.clock_is)) (λ m a n. p.holds_is m a n ∙ sym (q.holds_is m a n))
    (λ k. go k (covers A.clock c) refl (cmp_clock k c) refl)
  where
    other : (k : Clock) (o : Ordering) → cmp_clock k c ≡ o → (o ≡ Ordering.eq → ⊥) → k ≡ c → ⊥
    other k o u ne e = ne (sym u ∙ ap (λ (j : Clock). cmp_clock j c) e ∙ self cmp_clock clock_order c)

    here : (k : Clock) → (k ≡ c → ⊥) → wait_at R k ≡ wait_at S k
    here k ne = p.wait_other k ne ∙ sym (q.wait_other k ne)

    go : (k : Clock) (b : Bool) → covers A.clock c ≡ b → (o : Ordering) → cmp_clock k c ≡ o → wait_at R k ≡ wait_at S k
    go k true e o u = ap (λ (ws : List Wait). get waits ws k) (p.wait_seen e ∙ sym (q.wait_seen e))
    go k false e Ordering.lt u = here k (other k Ordering.lt u lt≢eq)
    go k false e Ordering.eq u = rw (clock_order.same k c u) (p.wait_here e ∙ sym (q.wait_here e))
    go k false e Ordering.gt u = here k (other k Ordering.gt u gt≢eq)

pub reset_once : (c : Clock) (A R S : Replica) → WasReset c A R → WasReset c A S → R ≡ S
reset_once c A R S p q = fine_ext R S h g
    (λ a. p.clock_is a ∙ sym (q.clock_is a)) (λ m a n. p.holds_is m a n ∙ sym (q.holds_is m a n))
    (λ k. sets_ext (wait_at R k) (wait_at S k) (wait_sets R h k) (wait_sets S g k) (p.wait_there k ∙ sym (q.wait_there k)) (λ m. p.wait_names k m ∙ sym (q.wait_names k m)))
  where
    h : Fine R
    h = sound_fine R p.is_sound

    g : Fine S
    g = sound_fine S q.is_sound
