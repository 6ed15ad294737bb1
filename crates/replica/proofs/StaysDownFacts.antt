-- What is proved of specs/StaysDown.antt.
use Prim.Native.Nat.{ℕ, zero, suc, ◌≤◌, ◌<◌}
use Rattle.std.specs.Prelude.{◌≡◌, Bool, true, ◌&&◌, ◌||◌, List, [], ◌∷◌, leb}
use Rattle.std.proofs.Math.Path.{refl, ap}
use Rattle.std.proofs.Common.{sym, ◌∙◌, subst, not-suc-le-zero, arith, le→leb, lt→ltb, eqb→eq}
use Rattle.std.proofs.Math.Bool.{false, not, and-false}
use Rattle.std.proofs.lemmas.Bool.{false≢true}
use Rattle.std.proofs.Math.Dec.{T, ltb, eqb, leb→le}
use borrow.Author.Tests.{leb-false, ne_eqb, lt-leb, not-true}
use Rattle.tables.specs.Truth.{table, imp, mp, and_l, and_r, and_i, or_l, or_r, or_e}
use Rattle.tables.specs.Table.{get, pick, any, every}
use Rattle.tables.specs.Zip.{zip, by_lt}
use Rattle.dots.specs.declared.Dot.{Dot}
use Rattle.dots.specs.Dot.{actor_of, dot}
use Rattle.dots.specs.Clock.{Clock, count, normal, covers, merged, reset_by}
use Rattle.dots.specs.ClockLaws.{covers_le}
use Rattle.dots.specs.Rising.{true_from}
use Rattle.replica.proofs.Lists.{any_more}
use Rattle.replica.specs.Replica.{Wait, Replica, member_sets, is_in, holds, seen, kills, killed}
use Rattle.replica.specs.Rules.{set_of, unite, join_waits, remove_from, removes_from, settle, add, remove, stay, stay_at, staying, merge, rewait, reset_waits, reset}
use Rattle.replica.specs.History.{Add, Remove, apply, Event, Apply, MergeWith, MergeInto, Reset, step, run, judged}
use Rattle.replica.specs.HistoryLaws.{fair}
use Rattle.replica.proofs.HistoryLaws.{step_sound, either, judged_sound, run_judged}
use Rattle.replica.specs.WellFormed.{sound}
use Rattle.replica.proofs.WellFormedFacts.{sound_fine}
use Rattle.replica.proofs.MembershipFacts.{in_holds}
use Rattle.replica.specs.Listed.{listed}
use Rattle.replica.proofs.AddLaws.{above, add_seen, added}
use Rattle.replica.specs.RemoveLaws.{Removed}
use Rattle.replica.proofs.RemoveLaws.{removed}
use Rattle.replica.proofs.ResetLaws.{was_reset}
use Rattle.replica.specs.Merged.{live}
use Rattle.replica.proofs.MergeLaws.{merge_says, merge_killed, merge_commutes}
use Rattle.replica.specs.StaysDown.{forgets, Gone, before}

-- ---- what is gone stays gone

seen_le : (A B : Replica) (a n : ℕ) → count A.clock a ≤ count B.clock a → T (seen A a n) → T (seen B a n)
unfolding seen
seen_le A B a n l t = let k = leb→le n (count A.clock a) t in le→leb n (count B.clock a) (omega arith)

-- what an add leaves of a dot that is gone, by whether the member takes the new dot, which is another
add_absent : (x y h s k : Bool) → h ≡ false → T (s || k) → (T s → T x → y ≡ false) → (pick x y h && not k) ≡ false
add_absent x y h s true e t f = and-false (pick x y h)
add_absent true y h true false e t f = rw (f tt tt)
add_absent false y h true false e t f = rw e
add_absent x y h false false e t f = absurd t

-- and what a merge does
merge_absent : (hA hB sA sB kA kB : Bool) → T (imp (not hA && (sA || kA)) (not ((hA && hB || (hA && not sB || hB && not sA)) && not (kA || kB))))
merge_absent = table 6 (λ hA hB sA sB kA kB. imp (not hA && (sA || kA)) (not ((hA && hB || (hA && not sB || hB && not sA)) && not (kA || kB)))) tt

module _ (A : Replica) (s : T (sound A)) (m a n : ℕ) (g : Gone A m a (suc n)) where
  -- V has grown, and what a waiting remove covered is still covered
  still : (B : Replica) → count A.clock a ≤ count B.clock a → (T (killed A m a (suc n)) → T (killed B m a (suc n) || seen B a (suc n))) → T (seen B a (suc n) || killed B m a (suc n))
  still B l k = or_e (seen A a (suc n)) (killed A m a (suc n)) g.known
      (λ t. or_l (seen B a (suc n)) (killed B m a (suc n)) (seen_le A B a (suc n) l t))
      (λ t. or_e (killed B m a (suc n)) (seen B a (suc n)) (k t) (λ u. or_r (seen B a (suc n)) (killed B m a (suc n)) u) (λ u. or_l (seen B a (suc n)) (killed B m a (suc n)) u))

  add_gone : (d : Dot) (ms : List ℕ) → Gone (add d ms A) m a (suc n)
  unfolding seen
  add_gone d ms = go (covers A.clock (d ∷ [])) refl
    where
      another : covers A.clock (d ∷ []) ≡ false → T (seen A a (suc n)) → T (listed ms m && eqb a (actor_of d)) → eqb d.counter (suc n) ≡ false
      another e t u =
          let k = above A.clock d e in
          let l = leb→le (suc n) (count A.clock a) t in
          let v : count A.clock a ≡ count A.clock (actor_of d) = ap (count A.clock) (eqb→eq a (actor_of d) (and_r (listed ms m) (eqb a (actor_of d)) u)) in
          ne_eqb d.counter (suc n) (λ z. omega arith)

      go : (b : Bool) → covers A.clock (d ∷ []) ≡ b → Gone (add d ms A) m a (suc n)
      go true e = rw (add_seen d ms A e) g
      go false e =
          let r = added d ms A s e in
          let v = r.clock_is a in
          record {
            absent = r.holds_is m a n ∙ add_absent (listed ms m && eqb a (actor_of d)) (eqb d.counter (suc n)) (holds A m a (suc n)) (seen A a (suc n)) (killed A m a (suc n)) g.absent g.known (another e);
            known = still (add d ms A) (omega arith) (r.killed_kept m a (suc n));
          }

  remove_gone : (c : Clock) (ms : List ℕ) → T (normal c) → Gone (remove c ms A) m a (suc n)
  remove_gone c ms k = let r = removed c ms A k s in
      record {
        absent = r.holds_is m a n ∙ ap (λ (b : Bool). b && not (listed ms m && leb (suc n) (count c a))) g.absent;
        known = still (remove c ms A) (rw r.clock_is (omega arith)) (λ t. or_l (killed (remove c ms A) m a (suc n)) (seen (remove c ms A) a (suc n))
            (rw (r.killed_is m a (suc n)) (or_l (killed A m a (suc n)) (not (covers A.clock c) && (listed ms m && leb (suc n) (count c a))) t)));
      }

  merge_gone : (B : Replica) → T (sound B) → Gone (merge A B) m a (suc n)
  unfolding stay live
  merge_gone B t =
      let r = merge_says A B s t in
      let v = r.clock_is a in
      let hA = holds A m a (suc n) in let hB = holds B m a (suc n) in let sA = seen A a (suc n) in let sB = seen B a (suc n) in
      let kA = killed A m a (suc n) in let kB = killed B m a (suc n) in
      record {
        absent = r.holds_is m a n ∙ not-true (stay A B m a (suc n) && not (kA || kB)) (true_from (not (stay A B m a (suc n) && not (kA || kB)))
            (mp (not hA && (sA || kA)) (not (stay A B m a (suc n) && not (kA || kB))) (merge_absent hA hB sA sB kA kB) (and_i (not hA) (sA || kA) (rw g.absent tt) g.known)));
        known = still (merge A B) (omega arith) (λ k. merge_killed A B s t m a (suc n) (or_l kA kB k));
      }

  reset_gone : (c : Clock) → leb (suc n) (count c a) ≡ false → Gone (reset c A) m a (suc n)
  unfolding seen killed
  reset_gone c f = let r = was_reset c A s in
      record {
        absent = r.holds_is m a n ∙ ap (λ (b : Bool). b && not (leb (suc n) (count c a))) g.absent;
        known = or_e (seen A a (suc n)) (killed A m a (suc n)) g.known
            (λ t. or_l (seen (reset c A) a (suc n)) (killed (reset c A) m a (suc n)) (rw (r.clock_is a, lt-leb (count A.clock a) (count c a) (let k = leb→le (suc n) (count A.clock a) t in let l = low in omega arith)) t))
            (λ t. or_r (seen (reset c A) a (suc n)) (killed (reset c A) m a (suc n)) (rw (r.killed_is m a n) (any_more (kills m a (suc n)) (λ w. kills m a (suc n) w && ltb (count c a) (count w.clock a)) A.waiting more t)));
      }
    where
      low : count c a < suc n
      low = leb-false (suc n) (count c a) f

      more : (w : Wait) → T (kills m a (suc n) w) → T (kills m a (suc n) w && ltb (count c a) (count w.clock a))
      more w t = and_i (kills m a (suc n) w) (ltb (count c a) (count w.clock a)) t
          (lt→ltb (count c a) (count w.clock a) (let k = leb→le (suc n) (count w.clock a) (and_r (get member_sets w.members m) (leb (suc n) (count w.clock a)) t) in let l = low in omega arith))

  step_gone : (e : Event) → T (fair e) → forgets a (suc n) e ≡ false → Gone (step e A) m a (suc n)
  unfolding step apply fair forgets
  step_gone (Apply (Add d ms)) f z = add_gone d ms
  step_gone (Apply (Remove c ms)) f z = remove_gone c ms f
  step_gone (MergeWith B) f z = merge_gone B f
  step_gone (MergeInto B) f z = rw (merge_commutes B A f s) (merge_gone B f)
  step_gone (Reset c) f z = reset_gone c z

neither : (a b : Bool) → (a || b) ≡ false → (a ≡ false) × (b ≡ false)
neither true b e = absurd (false≢true (sym e))
neither false b e = (refl, e)

-- through any later events, under any judge
pub stays_gone : (grants : Event → Replica → Bool) (later : List Event) (A : Replica) → T (every fair later) → T (sound A) → (m a n : ℕ) → any (forgets a (suc n)) later ≡ false
    → Gone A m a (suc n) → Gone (judged grants later A) m a (suc n)
unfolding judged
stays_gone grants [] A f s m a n z g = g
stays_gone grants (e ∷ later) A f s m a n z g =
    let now = and_l (fair e) (every fair later) f in
    let both = neither (forgets a (suc n) e) (any (forgets a (suc n)) later) z in
    stays_gone grants later (pick (grants e A) (step e A) A) (and_r (fair e) (every fair later) f)
    (either (λ B. T (sound B)) (grants e A) (step e A) A (step_sound e A now s) s) m a n both.1
    (either (λ B. Gone B m a (suc n)) (grants e A) (step e A) A (step_gone A s m a n g e now both.0) g)

-- ---- the remove that takes a member down

remove_takes : (c : Clock) (ms : List ℕ) (A : Replica) → T (normal c) → T (sound A) → (m a n : ℕ) → T (listed ms m) → suc n ≤ count c a → Gone (remove c ms A) m a (suc n)
unfolding seen
remove_takes c ms A k s m a n t l = record { absent = r.holds_is m a n ∙ ap (λ (b : Bool). holds A m a (suc n) && not b) here ∙ and-false (holds A m a (suc n)); known = go (covers A.clock c) refl }
  where
    r : Removed c ms A (remove c ms A)
    r = removed c ms A k s

    here : (listed ms m && leb (suc n) (count c a)) ≡ true
    here = true_from (listed ms m && leb (suc n) (count c a)) (and_i (listed ms m) (leb (suc n) (count c a)) t (le→leb (suc n) (count c a) l))

    go : (b : Bool) → covers A.clock c ≡ b → T (seen (remove c ms A) a (suc n) || killed (remove c ms A) m a (suc n))
    go true e =
        let i = covers_le A.clock c (rw e tt) a in
        or_l (seen (remove c ms A) a (suc n)) (killed (remove c ms A) m a (suc n)) (rw r.clock_is (le→leb (suc n) (count A.clock a) (omega arith)))
    go false e = or_r (seen (remove c ms A) a (suc n)) (killed (remove c ms A) m a (suc n))
        (rw (r.killed_is m a (suc n), e, here) (or_r (killed A m a (suc n)) true tt))

module _ (grants : Event → Replica → Bool) (c : Clock) (ms : List ℕ) (A : Replica) (later : List Event) (clock_ok : T (normal c)) (replica_ok : T (sound A)) (events_ok : T (every fair later)) where
  abbrev afterwards : Replica
  afterwards = judged grants later (remove c ms A)

  removed_sound : T (sound (remove c ms A))
  removed_sound = (removed c ms A clock_ok replica_ok).is_sound

  -- A shop that has taken a product down by a remove (c, ms) never sees it come back by a dot that c covers: not through the adds, removes and merges
  -- that follow, in any order, some of them refused by a judge of any kind; not by a replica that was away all the time and still has it. It comes back
  -- only by a dot that c doesn't cover. A reset whose clock covers the dot is the one way to forget. A dot has a counter above 0.
  pub stays_down : (m a n : ℕ) → T (listed ms m) → 0 < n → n ≤ count c a → any (forgets a n) later ≡ false → holds afterwards m a n ≡ false
  stays_down m a zero t p l z = absurd (not-suc-le-zero p)
  stays_down m a (suc n) t p l z = (stays_gone grants later (remove c ms A) events_ok removed_sound m a n z (remove_takes c ms A clock_ok replica_ok m a n t l)).absent

  -- so a member that was taken down and is there again holds a dot that c doesn't cover, as long as no reset forgets what c covers
  pub back_by_new : (m : ℕ) → T (listed ms m) → ((a n : ℕ) → 0 < n → n ≤ count c a → any (forgets a n) later ≡ false)
      → T (is_in afterwards m) → (a : ℕ) × (n : ℕ) × T (holds afterwards m a n) × (count c a < n)
  back_by_new m t z i =
      let d = in_holds afterwards (sound_fine afterwards (judged_sound grants later (remove c ms A) events_ok removed_sound)) m i in
      (d.0, suc d.1, d.2, new d.0 d.1 d.2)
    where
      new : (a n : ℕ) → T (holds afterwards m a (suc n)) → count c a < suc n
      new a n h = by_lt (count c a) (suc n) (λ l. l) (λ l. absurd (subst T (stays_down m a (suc n) t (omega arith) l (z a (suc n) (omega arith) l)) h))

-- the same where every event is granted
pub stays_down_all : (c : Clock) (ms : List ℕ) (A : Replica) (later : List Event) → T (normal c) → T (sound A) → T (every fair later)
    → (m a n : ℕ) → T (listed ms m) → 0 < n → n ≤ count c a → any (forgets a n) later ≡ false → holds (run later (remove c ms A)) m a n ≡ false
stays_down_all c ms A later k s f m a n t p l z = rw (run_judged later (remove c ms A)) (stays_down (λ e B. true) c ms A later k s f m a n t p l z)

-- so a replica that still has it brings it back, where without the reset it could not
pub forgotten : holds (run (Reset (dot 1 1 ∷ []) ∷ MergeWith before ∷ []) (remove (dot 1 1 ∷ []) (5 ∷ []) before)) 5 1 1 ≡ true
unfolding run step covers merged reset_by zip holds seen set_of unite join_waits remove_from removes_from settle remove stay stay_at staying merge rewait reset_waits reset
forgotten = refl

pub kept_down : holds (run (MergeWith before ∷ []) (remove (dot 1 1 ∷ []) (5 ∷ []) before)) 5 1 1 ≡ false
unfolding run step covers merged reset_by zip holds seen set_of unite join_waits remove_from removes_from settle remove stay stay_at staying merge
kept_down = refl
