-- Removes may come again, and in either order; and an add again.
use Prim.Native.Nat.{ℕ, suc, compare, Ordering}
use Rattle.std.specs.Prelude.{◌≡◌, refl, Bool, true, false, not, ◌&&◌, List, [], ◌∷◌, T, leb}
use Rattle.std.proofs.Common.{sym, ap, ◌∙◌, subst, arith, le-leb}
use Rattle.std.proofs.Math.Bool.{and_assoc, and_comm, and_self}
use Rattle.std.proofs.lemmas.Bool.{false≢true}
use Rattle.std.proofs.Math.Option.{Option, none, some}
use Rattle.tables.specs.Order.{nat_order, self}
use Rattle.tables.specs.Table.{get, Normal, pick, is_some, hit}
use Rattle.dots.specs.declared.Dot.{Dot}
use Rattle.dots.specs.Dot.{actor_of}
use Rattle.dots.specs.Clock.{Clock, count, normal, covers, cmp_clock, clock_order}
use Rattle.replica.specs.Replica.{Replica, waits, member_sets, members_of, wait_at, holds}
use Rattle.replica.specs.Rules.{set_of, unite, join_waits, add, remove}
use Rattle.replica.specs.WellFormed.{Fine, sound}
use Rattle.replica.proofs.WellFormedFacts.{sound_fine, fine_ext}
use Rattle.replica.specs.Waits.{Sets}
use Rattle.replica.proofs.WaitsFacts.{unite_comm, unite_assoc, unite_self, joined_get}
use Rattle.replica.specs.Listed.{listed}
use Rattle.replica.proofs.ListedFacts.{set_normal}
use Rattle.replica.proofs.MergedFacts.{wait_sets}
use Rattle.replica.proofs.AddLaws.{add_seen, added}
use Rattle.replica.specs.RemoveLaws.{this, Removed}
use Rattle.replica.proofs.RemoveLaws.{removed}

this_get : (c : Clock) (ms : List ℕ) (k : Clock) (ns : List ℕ) → get waits (this c ms ∷ []) k ≡ some ns → (k ≡ c) × (set_of ms ≡ ns)
this_get c ms k ns = go (cmp_clock k c) refl
  where
    go : (o : Ordering) → cmp_clock k c ≡ o → members_of (hit o (this c ms) none) ≡ some ns → (k ≡ c) × (set_of ms ≡ ns)
    go Ordering.lt u f = absurd (false≢true (ap is_some f))
    go Ordering.eq u f = (clock_order.same k c u, cc)
    go Ordering.gt u f = absurd (false≢true (ap is_some f))

this_sets : (c : Clock) (ms : List ℕ) (k : Clock) → Sets (get waits (this c ms ∷ []) k)
this_sets c ms k ns f = subst (Normal member_sets) (this_get c ms k ns f).1 (set_normal ms)

-- the waiting removes afterwards, clock by clock (`remove_wait` of replica's RemoveLaws)
remove_wait : (c : Clock) (ms : List ℕ) (A : Replica) (k : Clock) → wait_at (remove c ms A) k ≡ pick (covers A.clock c) (wait_at A k) (unite (wait_at A k) (get waits (this c ms ∷ []) k))
unfolding remove
remove_wait c ms A k = go (covers A.clock c)
  where
    go : (b : Bool) → get waits (pick b A.waiting (join_waits A.waiting (this c ms ∷ []))) k ≡ pick b (wait_at A k) (unite (wait_at A k) (get waits (this c ms ∷ []) k))
    go true = refl
    go false = joined_get A.waiting (this c ms ∷ []) k

-- what waits at a clock, joined by what a remove brings unless V covers that
abbrev takes_up : Bool → Option (List ℕ) → Option (List ℕ) → Option (List ℕ)
takes_up b x w = pick b w (unite w x)

takes_up_twice : (b : Bool) (x w : Option (List ℕ)) → Sets x → Sets w → takes_up b x (takes_up b x w) ≡ takes_up b x w
takes_up_twice true x w f g = refl
takes_up_twice false x w f g = unite_assoc w x x g f f ∙ ap (unite w) (unite_self x f)

takes_up_both : (b c : Bool) (x y w : Option (List ℕ)) → Sets x → Sets y → Sets w → takes_up c y (takes_up b x w) ≡ takes_up b x (takes_up c y w)
takes_up_both true c x y w f g h = refl
takes_up_both false true x y w f g h = refl
takes_up_both false false x y w f g h = unite_assoc w x y h f g ∙ ap (unite w) (unite_comm x y f g) ∙ sym (unite_assoc w y x h g f)

-- the remove doesn't cover the dot
abbrev spares : Clock → List ℕ → ℕ → ℕ → ℕ → Bool
spares c ms m a n = not (listed ms m && leb n (count c a))

-- two removes, one after the other
module _ (c : Clock) (ms : List ℕ) (d : Clock) (ns : List ℕ) (A : Replica) (k : T (normal c)) (l : T (normal d)) (s : T (sound A)) where
  abbrev both : Replica
  both = remove d ns (remove c ms A)

  one : Removed c ms A (remove c ms A)
  one = removed c ms A k s

  two : Removed d ns (remove c ms A) both
  two = removed d ns (remove c ms A) l one.is_sound

  two_fine : Fine both
  two_fine = sound_fine both two.is_sound

  two_holds : (m a n : ℕ) → holds both m a (suc n) ≡ (holds A m a (suc n) && (spares c ms m a (suc n) && spares d ns m a (suc n)))
  two_holds m a n = two.holds_is m a n ∙ rw (one.holds_is m a n) (and_assoc (holds A m a (suc n)) (spares c ms m a (suc n)) (spares d ns m a (suc n)))

  two_wait : (j : Clock) → wait_at both j ≡ takes_up (covers A.clock d) (get waits (this d ns ∷ []) j) (takes_up (covers A.clock c) (get waits (this c ms ∷ []) j) (wait_at A j))
  unfolding remove
  two_wait j = remove_wait d ns (remove c ms A) j ∙ rw (remove_wait c ms A j)

-- a remove given twice is a remove given once
pub remove_twice : (c : Clock) (ms : List ℕ) (A : Replica) → T (normal c) → T (sound A) → remove c ms (remove c ms A) ≡ remove c ms A
unfolding remove
remove_twice c ms A k s = fine_ext (remove c ms (remove c ms A)) (remove c ms A) (two_fine c ms c ms A k k s) (sound_fine (remove c ms A) r.is_sound) (λ a. refl)
    (λ m a n. two_holds c ms c ms A k k s m a n ∙ rw and_self (sym (r.holds_is m a n)))
    (λ j. two_wait c ms c ms A k k s j
    ∙ takes_up_twice (covers A.clock c) (get waits (this c ms ∷ []) j) (wait_at A j) (this_sets c ms j) (wait_sets A (sound_fine A s) j) ∙ sym (remove_wait c ms A j))
  where
    r : Removed c ms A (remove c ms A)
    r = removed c ms A k s

-- two removes give the same in either order
pub removes_commute : (c : Clock) (ms : List ℕ) (d : Clock) (ns : List ℕ) (A : Replica) → T (normal c) → T (normal d) → T (sound A)
    → remove d ns (remove c ms A) ≡ remove c ms (remove d ns A)
unfolding remove
removes_commute c ms d ns A k l s = fine_ext (remove d ns (remove c ms A)) (remove c ms (remove d ns A)) (two_fine c ms d ns A k l s) (two_fine d ns c ms A l k s) (λ a. refl)
    (λ m a n. two_holds c ms d ns A k l s m a n
    ∙ ap (λ (b : Bool). holds A m a (suc n) && b) (and_comm (spares c ms m a (suc n)) (spares d ns m a (suc n))) ∙ sym (two_holds d ns c ms A l k s m a n))
    (λ j. two_wait c ms d ns A k l s j
    ∙ takes_up_both (covers A.clock c) (covers A.clock d) (get waits (this c ms ∷ []) j) (get waits (this d ns ∷ []) j) (wait_at A j)
    (this_sets c ms j) (this_sets d ns j) (wait_sets A (sound_fine A s) j)
    ∙ sym (two_wait d ns c ms A l k s j))

-- an add has nothing to add again
pub add_twice : (d : Dot) (ms : List ℕ) (A : Replica) → T (sound A) → add d ms (add d ms A) ≡ add d ms A
unfolding covers
add_twice d ms A s = go (covers A.clock (d ∷ [])) refl
  where
    go : (b : Bool) → covers A.clock (d ∷ []) ≡ b → add d ms (add d ms A) ≡ add d ms A
    go true e = rw (add_seen d ms A e) (add_seen d ms A e)
    go false e =
        let k : count (d ∷ []) (actor_of d) ≡ d.counter = rw (self compare nat_order (actor_of d)) in
        let v = (added d ms A s e).clock_is (actor_of d) in
        add_seen d ms (add d ms A) (rw (le-leb d.counter (count (add d ms A).clock (actor_of d)) (omega arith)))
