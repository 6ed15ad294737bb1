-- What is proved of specs/Formed.antt.
use Prim.Native.Nat.{ℕ, suc, ◌≤◌, compare}
use Rattle.std.specs.Prelude.{◌≡◌, refl, Bool, true, false, ◌&&◌, ◌||◌, List, [], ◌∷◌, map, leb, ltb, eqb}
use Rattle.std.proofs.Common.{sym, subst, arith, eqb→eq, ltb-false, le-ltb}
use Rattle.std.proofs.lemmas.Bool.{false≢true}
use Rattle.std.proofs.Math.Dec.{T, leb→le, le→leb}
use Rattle.std.proofs.Math.ListN.{length}
use Rattle.tables.specs.Order.{nat_order}
use Rattle.tables.specs.Truth.{and_l, and_r, and_i}
use Rattle.tables.specs.Table.{Normal, All, any, every, pick, alls, alls_from, alls_to, all_map, all_both, every_all, all_every}
use Rattle.tables.proofs.AscendingFacts.{asc_from, asc_to}
use Rattle.tables.specs.Refusal.{first_of}
use Rattle.dots.specs.Dot.{clocks}
use Rattle.dots.specs.Clock.{Clock, covers, glb}
use Rattle.dots.specs.ClockLaws.{normal_from, normal_to, clock_ext, covers_le}
use Rattle.dots.specs.Ruled.{glb_normal, glb_count, glb_length}
use Rattle.replica.specs.Replica.{Entry, Wait, Replica}
use Rattle.replica.specs.WellFormed.{entry_tests, wait_tests, tests, sound}
use Rattle.replica.specs.Limits.{Limits, limits_of, broken, well_formed}
use Rattle.layout.specs.Formed.{Within, EntryFine, WaitFine, Formed}

-- a clock that V covers is the smaller of the two, and has no more actors
pub covered_length : (v c : Clock) → Normal clocks v → Normal clocks c → T (covers v c) → length c ≤ length v
covered_length v c nv nc t =
    let e : glb v c ≡ c = clock_ext (glb v c) c (glb_normal v c nv nc) nc (λ a. let k = glb_count v c nv nc a in let h = covers_le v c t a in omega arith) in
    subst (λ (x : Clock). length x ≤ length v) e (glb_length v c nv nc)

-- ---- the limits

-- a refusal that is not given does not apply, and the next is asked
granted : (b : Bool) (n m : ℕ) → T (eqb (pick b (suc n) m) 0) → (b ≡ false) × T (eqb m 0)
granted true n m t = let z = eqb→eq (suc n) 0 t in absurd (omega arith)
granted false n m t = (refl, t)

any_false : {R : Type 0} (p : R → Bool) (rs : List R) → any p rs ≡ false → All (λ r. p r ≡ false) rs
any_false p [] e = tt
any_false {R} p (r ∷ rs) e = go (p r) refl e (any_false p rs)
  where
    go : (b : Bool) → p r ≡ b → (b || any p rs) ≡ false → (any p rs ≡ false → All (λ q. p q ≡ false) rs) → All (λ q. p q ≡ false) (r ∷ rs)
    go true u f l = absurd (false≢true (sym f))
    go false u f l = (u, l f)

false_any : {R : Type 0} (p : R → Bool) (rs : List R) → All (λ r. p r ≡ false) rs → any p rs ≡ false
false_any p [] h = refl
false_any p (r ∷ rs) h = rw h.0 (false_any p rs h.1)

pub within_from : (l : Limits) (r : Replica) → T (eqb (broken l r) 0) → Within l r
unfolding broken limits_of first_of
within_from l r t =
    let g6 = granted _ 5 _ t in
    let g7 = granted _ 6 _ g6.1 in
    let g8 = granted _ 7 _ g7.1 in
    let g9 = granted _ 8 _ g8.1 in
    record {
      few_actors = ltb-false l.actors (length r.clock) g6.0;
      few_members = ltb-false l.members (length r.entries) g7.0;
      few_waiting = ltb-false l.waiting (length r.waiting) g8.0;
      few_named = all_map (λ w. ltb l.named (length w.members) ≡ false) (λ w. length w.members ≤ l.named) r.waiting (λ w e. ltb-false l.named (length w.members) e)
          (any_false (λ w. ltb l.named (length w.members)) r.waiting g9.0);
    }

pub within_to : (l : Limits) (r : Replica) → Within l r → T (eqb (broken l r) 0)
unfolding broken limits_of first_of
within_to l r h =
    rw (
      le-ltb l.actors (length r.clock) h.few_actors,
      le-ltb l.members (length r.entries) h.few_members,
      le-ltb l.waiting (length r.waiting) h.few_waiting,
      false_any (λ w. ltb l.named (length w.members)) r.waiting (all_map (λ w. length w.members ≤ l.named) (λ w. ltb l.named (length w.members) ≡ false) r.waiting (λ w e. le-ltb l.named (length w.members) e) h.few_named),
    ) tt

module _ (l : Limits) (r : Replica) where
  -- the tests of `sound`, and the limit on waiting clocks
  abbrev few_clock : Wait → Bool
  few_clock w = leb (length w.clock) l.actors

  entry_from : Normal clocks r.clock → length r.clock ≤ l.actors → (e : Entry) → T (alls (entry_tests r e)) → EntryFine l r e
  unfolding entry_tests
  entry_from nv few e t =
      let h = alls_from (entry_tests r e) t in
      let n = normal_from e.clock h.0 in
      let k = covered_length r.clock e.clock nv n h.1.1.0 in
      record { normal_ok = n; filled_ok = h.1.0; few_ok = omega arith; covers_ok = h.1.1.0; spared_ok = h.1.1.1.0 }

  entry_to : (e : Entry) → EntryFine l r e → T (alls (entry_tests r e))
  unfolding entry_tests
  entry_to e h = alls_to (entry_tests r e) (normal_to e.clock h.normal_ok, (h.filled_ok, (h.covers_ok, (h.spared_ok, tt))))

  wait_from : (w : Wait) → T (alls (wait_tests w)) → (length w.members ≤ l.named) × T (few_clock w) → WaitFine l w
  unfolding wait_tests
  wait_from w t k =
      let h = alls_from (wait_tests w) t in
      record {
        normal_ok = normal_from w.clock h.0;
        filled_ok = h.1.0;
        few_ok = leb→le (length w.clock) l.actors k.1;
        rises_ok = asc_from compare nat_order w.members h.1.1.0;
        named_ok = k.0;
      }

  wait_to : (w : Wait) → WaitFine l w → T (alls (wait_tests w))
  unfolding wait_tests
  wait_to w h = alls_to (wait_tests w) (normal_to w.clock h.normal_ok, (h.filled_ok, (asc_to compare nat_order w.members h.rises_ok, tt)))

  pub formed_from : T (well_formed l r) → Formed l r
  unfolding well_formed sound tests
  formed_from t =
      let h = alls_from (tests r) (and_l (sound r) (eqb (broken l r) 0 && every few_clock r.waiting) t) in
      let u = and_r (sound r) (eqb (broken l r) 0 && every few_clock r.waiting) t in
      let m = within_from l r (and_l (eqb (broken l r) 0) (every few_clock r.waiting) u) in
      let k = every_all few_clock r.waiting (and_r (eqb (broken l r) 0) (every few_clock r.waiting) u) in
      let nv = normal_from r.clock h.0 in
      record {
        clock_ok = nv;
        actors_ok = m.few_actors;
        rises_ok = asc_from compare nat_order (map (λ e. e.member) r.entries) h.1.0;
        members_ok = m.few_members;
        entries_ok = all_map (λ e. T (alls (entry_tests r e))) (EntryFine l r) r.entries (entry_from nv m.few_actors) (every_all (λ e. alls (entry_tests r e)) r.entries h.1.1.0);
        later_ok = h.1.1.1.0;
        waiting_ok = m.few_waiting;
        waits_ok = all_both (λ w. T (alls (wait_tests w))) (λ w. (length w.members ≤ l.named) × T (few_clock w)) (WaitFine l) r.waiting wait_from
            (every_all (λ w. alls (wait_tests w)) r.waiting h.1.1.1.1.0)
            (all_both (λ w. length w.members ≤ l.named) (λ w. T (few_clock w)) (λ w. (length w.members ≤ l.named) × T (few_clock w)) r.waiting (λ w a b. (a, b)) m.few_named k);
      }

  pub formed_to : Formed l r → T (well_formed l r)
  unfolding well_formed sound tests
  formed_to h =
      and_i (sound r) (eqb (broken l r) 0 && every few_clock r.waiting)
      (alls_to (tests r) (
        normal_to r.clock h.clock_ok,
        (
          asc_to compare nat_order (map (λ e. e.member) r.entries) h.rises_ok,
          (
            all_every (λ e. alls (entry_tests r e)) r.entries (all_map (EntryFine l r) (λ e. T (alls (entry_tests r e))) r.entries entry_to h.entries_ok),
            (h.later_ok, (all_every (λ w. alls (wait_tests w)) r.waiting (all_map (WaitFine l) (λ w. T (alls (wait_tests w))) r.waiting wait_to h.waits_ok), tt)),
          ),
        ),
      ))
      (and_i (eqb (broken l r) 0) (every few_clock r.waiting)
      (within_to l r (record {
        few_actors = h.actors_ok;
        few_members = h.members_ok;
        few_waiting = h.waiting_ok;
        few_named = all_map (WaitFine l) (λ w. length w.members ≤ l.named) r.waiting (λ w k. k.named_ok) h.waits_ok;
      }))
      (all_every few_clock r.waiting (all_map (WaitFine l) (λ w. T (few_clock w)) r.waiting (λ w k. le→leb (length w.clock) l.actors k.few_ok) h.waits_ok)))
