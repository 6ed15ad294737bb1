-- Where an operation was made doesn't matter: at one side before a merge, or after it. So of every remove, and of an add at a side that has seen of
-- the dot's actor all that the other has, as where the dot leaves no gap.
use Prim.Native.Nat.{ℕ, suc, ◌+◌, ◌≤◌, ◌<◌, max, compare, Ordering}
use Rattle.std.specs.Prelude.{◌≡◌, Bool, true, false, ◌&&◌, ◌||◌, List, [], ◌∷◌, T}
use Rattle.std.proofs.Math.Path.{refl, sym, ap}
use Rattle.std.proofs.Common.{◌∙◌, arith}
use Rattle.std.proofs.Math.Bool.{not}
use Rattle.std.proofs.Math.Option.{Option, none, some}
use Rattle.std.proofs.Math.Dec.{compare_is_eq, leb, eqb, leb→le, le→leb, eqb→eq, leb-suc-zero}
use Rattle.std.proofs.lemmas.Bool.{lt-leb}
use Rattle.tables.specs.Truth.{and_l, and_r}
use Rattle.tables.specs.Table.{get, pick, hit}
use Rattle.dots.specs.declared.Dot.{Dot}
use Rattle.dots.specs.Dot.{actor_of, counter_of}
use Rattle.dots.specs.Clock.{Clock, count, normal, covers}
use Rattle.dots.specs.ClockLaws.{covers_le, covers_mono, not_covers, leb_max}
use Rattle.dots.specs.Rising.{true_from}
use Rattle.replica.specs.Replica.{Wait, Replica, waits, wait_at, holds, seen, killed}
use Rattle.replica.specs.Rules.{set_of, unite, stay, merge, add, remove}
use Rattle.replica.specs.Merged.{live}
use Rattle.replica.specs.WellFormed.{sound}
use Rattle.replica.proofs.WellFormedFacts.{sound_fine}
use Rattle.replica.specs.Waits.{Sets}
use Rattle.replica.proofs.WaitsFacts.{unite_comm, unite_assoc}
use Rattle.replica.specs.Listed.{listed}
use Rattle.replica.proofs.ListedFacts.{set_normal}
use Rattle.replica.specs.AddLaws.{Added}
use Rattle.replica.proofs.AddLaws.{added, add_seen, above}
use Rattle.replica.specs.RemoveLaws.{Removed}
use Rattle.replica.proofs.RemoveLaws.{removed}
use Rattle.replica.proofs.MergedFacts.{wait_sets, fine_sane, rest_law}
use Rattle.replica.proofs.MergeLaws.{merge_says, merge_only, merge_clock, merge_holds, merge_waiting, merge_sound}
use Rattle.offices.proofs.OneDot.{remove_law, add_law}
use Rattle.offices.proofs.ByClock.{by_clock}
use Rattle.offices.proofs.Settled.{killed_fewer}

-- ---- a remove

module _ (c : Clock) (ms : List ℕ) (A B : Replica) (k : T (normal c)) (s : T (sound A)) (t : T (sound B)) where
  abbrev first_removed : Replica
  first_removed = remove c ms A

  abbrev last_removed : Replica
  last_removed = remove c ms (merge A B)

  first_remove : Removed c ms A first_removed
  first_remove = removed c ms A k s

  last_remove : Removed c ms (merge A B) last_removed
  last_remove = removed c ms (merge A B) k (merge_sound A B s t)

  abbrev takes_down : ℕ → ℕ → ℕ → Bool
  takes_down m a n = listed ms m && leb n (count c a)

  seen_by : (m a n : ℕ) → T (covers A.clock c && takes_down m a n) → T (seen A a n)
  unfolding seen
  seen_by m a n u =
      let i = leb→le n (count c a) (and_r (listed ms m) (leb n (count c a)) (and_r (covers A.clock c) (takes_down m a n) u)) in
      let j = covers_le A.clock c (and_l (covers A.clock c) (takes_down m a n) u) a in
      le→leb n (count A.clock a) (omega arith)

  same_seen : (a n : ℕ) → seen first_removed a n ≡ seen A a n
  unfolding seen
  same_seen a n = ap (λ (v : Clock). leb n (count v a)) first_remove.clock_is

  removed_dots : (m a n : ℕ) → holds last_removed m a (suc n) ≡ live first_removed B m a (suc n)
  unfolding live stay
  removed_dots m a i =
      let n = suc i in
      last_remove.holds_is m a i
      ∙ ap (λ (b : Bool). b && not (takes_down m a n)) (merge_holds A B s t m a i)
      ∙ remove_law (holds A m a n) (holds B m a n) (seen A a n) (seen B a n) (killed A m a n) (killed B m a n) (takes_down m a n) (covers A.clock c) (seen_by m a n)
      ∙ sym (rw (first_remove.holds_is m a i, same_seen a n, first_remove.killed_is m a n))

  own_set : Sets (some (set_of ms))
  own_set ns e = let q : set_of ms ≡ ns = cc in rw (← q) (set_normal ms)

  removed_here : wait_at last_removed c ≡ pick (covers last_removed.clock c) none (unite (wait_at first_removed c) (wait_at B c))
  removed_here = go (covers (merge A B).clock c) refl
    where
      go : (b : Bool) → covers (merge A B).clock c ≡ b → wait_at last_removed c ≡ pick (covers last_removed.clock c) none (unite (wait_at first_removed c) (wait_at B c))
      go true e = rw (last_remove.clock_is, e) (ap (λ (ws : List Wait). get waits ws c) (last_remove.wait_seen e) ∙ merge_waiting A B s t c ∙ rw e)
      go false e =
          let p : covers A.clock c ≡ false = not_covers A.clock (merge A B).clock c (λ a. let u = merge_clock A B s t a in omega arith) e in
          let wA = wait_sets A (sound_fine A s) c in
          let wB = wait_sets B (sound_fine B t) c in
          rw (last_remove.clock_is, e) (last_remove.wait_here e
          ∙ ap (λ (o : Option (List ℕ)). unite o (some (set_of ms))) (merge_waiting A B s t c ∙ rw e)
          ∙ unite_assoc (wait_at A c) (wait_at B c) (some (set_of ms)) wA wB own_set
          ∙ ap (unite (wait_at A c)) (unite_comm (wait_at B c) (some (set_of ms)) wB own_set)
          ∙ sym (unite_assoc (wait_at A c) (some (set_of ms)) (wait_at B c) wA own_set wB)
          ∙ ap (λ (o : Option (List ℕ)). unite o (wait_at B c)) (sym (first_remove.wait_here p)))

  removed_waiting : (j : Clock) → wait_at last_removed j ≡ pick (covers last_removed.clock j) none (unite (wait_at first_removed j) (wait_at B j))
  removed_waiting j = by_clock j c (λ e. rw e removed_here)
      (λ ne. last_remove.wait_other j ne ∙ merge_waiting A B s t j ∙ rw (last_remove.clock_is, first_remove.wait_other j ne))

  -- a remove at one side and then a merge, or the merge and then the remove: the same replica
  pub remove_anywhere : remove c ms (merge A B) ≡ merge (remove c ms A) B
  remove_anywhere = merge_only first_removed B first_remove.is_sound t last_removed (record {
    fine = sound_fine last_removed last_remove.is_sound;
    clock_is = λ a. ap (λ (v : Clock). count v a) last_remove.clock_is ∙ merge_clock A B s t a ∙ rw first_remove.clock_is;
    holds_is = removed_dots;
    wait_is = removed_waiting;
  })

-- ---- an add

module _ (d : Dot) (ms : List ℕ) (A B : Replica) (s : T (sound A)) (t : T (sound B)) where
  module _ (behind : count B.clock (actor_of d) ≤ count A.clock (actor_of d)) (new : covers A.clock (d ∷ []) ≡ false) where
    abbrev first_added : Replica
    first_added = add d ms A

    abbrev last_added : Replica
    last_added = add d ms (merge A B)

    still_new : covers (merge A B).clock (d ∷ []) ≡ false
    unfolding covers
    still_new = let h = above A.clock d new in let u = merge_clock A B s t (actor_of d) in rw (lt-leb d.counter (count (merge A B).clock (actor_of d)) (omega arith))

    first_add : Added d ms A first_added
    first_add = added d ms A s new

    last_add : Added d ms (merge A B) last_added
    last_add = added d ms (merge A B) (merge_sound A B s t) still_new

    -- V has then seen what it had, and of the dot's actor all up to the dot
    then_seen : (a n : ℕ) → seen first_added a (suc n) ≡ (seen A a (suc n) || eqb a (actor_of d) && leb (suc n) d.counter)
    unfolding seen
    then_seen a n =
        ap (leb (suc n)) (first_add.clock_is a) ∙ leb_max (suc n) (count A.clock a) (count (d ∷ []) a)
        ∙ ap (λ (b : Bool). leb (suc n) (count A.clock a) || b) (go (compare a (actor_of d)))
      where
        go : (o : Ordering) → leb (suc n) (counter_of (hit o d none)) ≡ (compare_is_eq o && leb (suc n) d.counter)
        go Ordering.lt = leb-suc-zero n
        go Ordering.eq = refl
        go Ordering.gt = leb-suc-zero n

    not_seen : (a n : ℕ) → T (eqb a (actor_of d) && eqb d.counter n) → T (not (seen A a n))
    unfolding seen
    not_seen a n u =
        let p = eqb→eq a (actor_of d) (and_l (eqb a (actor_of d)) (eqb d.counter n) u) in
        let q = eqb→eq d.counter n (and_r (eqb a (actor_of d)) (eqb d.counter n) u) in
        let h = above A.clock d new in
        rw (p, lt-leb n (count A.clock (actor_of d)) (omega arith)) tt

    seen_too : (a n : ℕ) → T (eqb a (actor_of d) && seen B a n) → T (seen A a n)
    unfolding seen
    seen_too a n u =
        let p = eqb→eq a (actor_of d) (and_l (eqb a (actor_of d)) (leb n (count B.clock a)) u) in
        let q = leb→le n (count B.clock (actor_of d)) (rw p at (and_r (eqb a (actor_of d)) (leb n (count B.clock a)) u)) in
        rw p (le→leb n (count A.clock (actor_of d)) (omega arith))

    added_dots : (m a n : ℕ) → holds last_added m a (suc n) ≡ live first_added B m a (suc n)
    unfolding live stay
    added_dots m a i =
        let n = suc i in
        let h = sound_fine A s in
        let g = sound_fine B t in
        last_add.holds_is m a i
        ∙ ap (λ (b : Bool). pick (listed ms m && eqb a (actor_of d)) (eqb d.counter n) b && not (killed (merge A B) m a n)) (merge_holds A B s t m a i)
        ∙ add_law (holds A m a n) (seen A a n) (killed A m a n) (holds B m a n) (seen B a n) (killed B m a n)
        (listed ms m) (eqb a (actor_of d)) (eqb d.counter n) (leb n d.counter) (killed (merge A B) m a n) (killed first_added m a n)
        (fine_sane A h m a i) (fine_sane B g m a i) (rest_law A B (merge A B) (merge_says A B s t) h g m a n)
        (killed_fewer d ms A first_added first_add m a n) (λ u. rw (then_seen a i) at (first_add.killed_kept m a n u)) (not_seen a n) (seen_too a n)
        ∙ sym (rw (first_add.holds_is m a i, then_seen a i))

    added_clock : (a : ℕ) → count last_added.clock a ≡ max (count first_added.clock a) (count B.clock a)
    added_clock a = let u = last_add.clock_is a in let v = first_add.clock_is a in let w = merge_clock A B s t a in omega arith

    added_waiting : (c : Clock) → wait_at last_added c ≡ pick (covers last_added.clock c) none (unite (wait_at first_added c) (wait_at B c))
    added_waiting c = last_add.wait_is c ∙ go (covers last_added.clock c) refl
      where
        go : (b : Bool) → covers last_added.clock c ≡ b
            → pick (covers last_added.clock c) none (wait_at (merge A B) c) ≡ pick (covers last_added.clock c) none (unite (wait_at first_added c) (wait_at B c))
        go true e = rw e
        go false e =
            let p : covers (merge A B).clock c ≡ false = not_covers (merge A B).clock last_added.clock c (λ a. let u = last_add.clock_is a in omega arith) e in
            let q : covers first_added.clock c ≡ false = not_covers first_added.clock last_added.clock c (λ a. let u = added_clock a in omega arith) e in
            rw (e, merge_waiting A B s t c, p, first_add.wait_is c, q)

    add_new : add d ms (merge A B) ≡ merge (add d ms A) B
    add_new = merge_only first_added B first_add.is_sound t last_added
        (record { fine = sound_fine last_added last_add.is_sound; clock_is = added_clock; holds_is = added_dots; wait_is = added_waiting })

  -- the same of an add, at a side that has seen of the dot's actor all that the other has
  pub add_not_behind : count B.clock (actor_of d) ≤ count A.clock (actor_of d) → add d ms (merge A B) ≡ merge (add d ms A) B
  add_not_behind behind = go (covers A.clock (d ∷ [])) refl
    where
      grown : T (covers A.clock (d ∷ [])) → T (covers (merge A B).clock (d ∷ []))
      grown = covers_mono A.clock (merge A B).clock (d ∷ []) (λ a. let u = merge_clock A B s t a in omega arith)

      go : (b : Bool) → covers A.clock (d ∷ []) ≡ b → add d ms (merge A B) ≡ merge (add d ms A) B
      go true e = rw (add_seen d ms A e, add_seen d ms (merge A B) (true_from (covers (merge A B).clock (d ∷ [])) (grown (rw e tt))))
      go false e = add_new behind e

  -- so of an add whose dot leaves no gap at its side and is new to the other. With a gap the merge may lose a member: `gap_loses` of Gaps.
  pub add_anywhere : d.counter ≡ count A.clock (actor_of d) + 1 → count B.clock (actor_of d) < d.counter → add d ms (merge A B) ≡ merge (add d ms A) B
  add_anywhere next new = add_not_behind (omega arith)
