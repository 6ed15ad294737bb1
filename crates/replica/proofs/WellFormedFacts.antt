-- What is proved of specs/WellFormed.antt.
use Prim.Native.Nat.{ℕ, zero, suc, ◌≤◌, ◌<◌, compare}
use Rattle.std.specs.Prelude.{◌≡◌, Bool, not, ◌||◌, List, [], ◌∷◌, map, leb, ltb}
use Rattle.std.proofs.Math.Path.{refl, ap, subst}
use Rattle.std.proofs.Common.{sym, ◌∙◌, arith, T_not, leb→le, lt→ltb, ltb→lt, eqb→eq, eq-eqb}
use Rattle.std.proofs.Math.Bool.{true, false}
use Rattle.std.proofs.lemmas.Bool.{false≢true}
use Rattle.std.proofs.Math.Option.{some}
use Rattle.std.proofs.Math.Dec.{T, nleb→lt}
use Rattle.tables.specs.Order.{nat_order}
use Rattle.tables.specs.Truth.{and_l, and_r, or_e}
use Rattle.tables.specs.Table.{get, Normal, Proper, is_some, every, alls, alls_from, alls_to, All, all_map, all_any, any_from, every_all, map_id, row_at, key_at, by_row, all_at, every_at, at_every, ext}
use Rattle.tables.specs.Ascending.{ascending}
use Rattle.tables.proofs.AscendingFacts.{asc_from, asc_to}
use Rattle.dots.specs.declared.Dot.{Dot}
use Rattle.dots.specs.Dot.{clocks, dot?, counter_of, actor_of}
use Rattle.dots.specs.Clock.{Clock, count, cmp_clock, clock_order, filled}
use Rattle.dots.specs.ClockLaws.{clock_ext, dots_ext, normal_from, normal_to, normal_empty, filled_from, filled_to, covers_le, le_covers}
use Rattle.replica.specs.Replica.{Entry, Wait, Replica, entries, waits, member_sets, entry?, clock_of, members_of, entry, wait_at, holds, kills, killed}
use Rattle.replica.specs.Waits.{GoodWait, Each}
use Rattle.replica.proofs.WaitsFacts.{killed_to}
use Rattle.replica.specs.WellFormed.{spared, entry_tests, wait_tests, tests, sound, Fine, EntryOk}

-- ---- what the tests say of one entry and of one waiting remove

proper_entry : (e : Entry) → T (filled e.clock) → Proper entries e
unfolding filled
proper_entry e t = go e.clock refl t
  where
    go : (c : Clock) → e.clock ≡ c → T (filled c) → entry? e.member e.clock ≡ some e
    go [] p t = absurd t
    go (d ∷ c) p t = ap (entry? e.member) p ∙ (λ i. some (record { member = e.member; clock = (sym p) i }))

entry_proper : (e : Entry) → Proper entries e → T (filled e.clock)
unfolding filled
entry_proper e h = go e.clock refl
  where
    go : (c : Clock) → e.clock ≡ c → T (filled c)
    go [] p = absurd (false≢true (ap is_some (ap (entry? e.member) (sym p) ∙ h)))
    go (d ∷ c) p = tt

pub set_from : (ms : List ℕ) → T (ascending compare ms) → Normal member_sets ms
set_from ms t = record { asc = rw (map_id ms) (asc_from compare nat_order ms t); proper = all_any (Proper member_sets) ms (λ m. refl) }

pub set_to : (ms : List ℕ) → Normal member_sets ms → T (ascending compare ms)
set_to ms h = asc_to compare nat_order ms (rw (map_id ms) at h.asc)

entry_from : (A : Replica) (e : Entry) → T (alls (entry_tests A e)) → EntryOk A e
unfolding entry_tests
entry_from A e t =
    let h = alls_from (entry_tests A e) t in
    record { normal_ok = normal_from e.clock h.0; filled_ok = h.1.0; covers_ok = covers_le A.clock e.clock h.1.1.0; spared_ok = h.1.1.1.0 }

wait_from : (w : Wait) → T (alls (wait_tests w)) → GoodWait w.clock w.members
unfolding wait_tests
wait_from w t =
    let h = alls_from (wait_tests w) t in
    (normal_from w.clock h.0, filled_from w.clock h.1.0, set_from w.members h.1.1.0)

wait_to : (w : Wait) → GoodWait w.clock w.members → T (alls (wait_tests w))
unfolding wait_tests
wait_to w h = alls_to (wait_tests w) (normal_to w.clock h.0, (filled_to w.clock h.1, (set_to w.members h.2, tt)))

-- the dots of an entry that is spared by a waiting remove of its member are above that remove's clock
above : Wait → Dot → Bool
above w d = ltb (count w.clock (actor_of d)) d.counter

spared_dot : (e : Entry) (w : Wait) (a n : ℕ) → T (spared e w) → T (get member_sets w.members e.member) → count e.clock a ≡ suc n → count w.clock a < suc n
unfolding spared above
spared_dot e w a n s t p =
    or_e (not (get member_sets w.members e.member)) (every (above w) e.clock) s
    (λ u. absurd (T_not (get member_sets w.members e.member) u t))
    (λ u. by_row clocks (λ k. k ≡ suc n → count w.clock a < suc n) e.clock a (λ z. absurd (omega arith))
    (λ d q k. rw (key_at clocks e.clock a d q, ← k) (ltb→lt (count w.clock (actor_of d)) d.counter (every_at clocks (above w) e.clock u a d q))) p)

-- ---- the test says the pointwise facts

pub sound_fine : (A : Replica) → T (sound A) → Fine A
unfolding sound tests holds killed
sound_fine A t = record {
  clock_ok = normal_from A.clock h.0;
  each = λ m. by_row entries (Normal clocks) A.entries m normal_empty (λ e p. (at_entry m e p).normal_ok);
  entries_ok = record {
    asc = asc_from compare nat_order (map (λ e. e.member) A.entries) h.1.0;
    proper = all_map (EntryOk A) (Proper entries) A.entries (λ e k. proper_entry e k.filled_ok) es;
  };
  waiting_ok = record {
    asc = asc_from cmp_clock clock_order (map (λ w. w.clock) A.waiting) h.1.1.1.0;
    proper = all_any (Proper waits) A.waiting (λ w. refl);
  };
  within = λ m a. by_row entries (λ c. count c a ≤ count A.clock a) A.entries m (omega arith) (λ e p. (at_entry m e p).covers_ok a);
  late = λ c. by_row waits (Each (GoodWait c)) A.waiting c (λ ms q. absurd (false≢true (ap is_some q))) (late c);
  free = λ m a n u k. by_row entries (λ c. count c a ≡ suc n → ⊥) A.entries m (λ z. omega arith) (free m a n k) (eqb→eq (count (entry A m) a) (suc n) u);
}
  where
    h : All T (tests A)
    h = alls_from (tests A) t

    es : All (EntryOk A) A.entries
    es = all_map (λ e. T (alls (entry_tests A e))) (EntryOk A) A.entries (entry_from A) (every_all (λ e. alls (entry_tests A e)) A.entries h.1.1.0)

    at_entry : (m : ℕ) (e : Entry) → row_at entries A.entries m ≡ some e → EntryOk A e
    at_entry m e p = all_at entries (EntryOk A) A.entries es m e p

    late : (c : Clock) (w : Wait) → row_at waits A.waiting c ≡ some w → Each (GoodWait c) (some w.members)
    late c w p ms q =
        let y : w.members ≡ ms = cc in
        rw (key_at waits A.waiting c w p, ← y) (wait_from w (every_at waits (λ w. alls (wait_tests w)) A.waiting h.1.1.1.1.0 c w p))

    free : (m a n : ℕ) → T (killed A m a (suc n)) → (e : Entry) → row_at entries A.entries m ≡ some e → count e.clock a ≡ suc n → ⊥
    free m a n k e p q =
        let w = any_from (λ w. T (spared e w)) (kills m a (suc n)) A.waiting (every_all (spared e) A.waiting (at_entry m e p).spared_ok) k in
        let named = get member_sets w.0.members m in
        let covered = leb (suc n) (count w.0.clock a) in
        let named_e = subst (λ (x : ℕ). T (get member_sets w.0.members x)) (key_at entries A.entries m e p) (and_l named covered w.2) in
        let l = spared_dot e w.0 a n w.1 named_e q in
        let g = leb→le (suc n) (count w.0.clock a) (and_r named covered w.2) in
        omega arith

-- ---- and the facts say the test

module _ (A : Replica) (h : Fine A) where
  row_above : (e : Entry) (w : Wait) → entry A e.member ≡ e.clock → row_at waits A.waiting w.clock ≡ some w → T (get member_sets w.members e.member)
      → (d : Dot) → row_at clocks e.clock (actor_of d) ≡ some d → Proper clocks d → T (above w d)
  unfolding above holds
  row_above e w p q t d u v = go d.counter refl
    where
      have : count (entry A e.member) (actor_of d) ≡ d.counter
      have = ap (λ (c : Clock). count c (actor_of d)) p ∙ ap counter_of u

      go : (k : ℕ) → d.counter ≡ k → T (ltb (count w.clock (actor_of d)) d.counter)
      go zero x = absurd (false≢true (ap is_some (ap (dot? (actor_of d)) (sym x) ∙ v)))
      go (suc n) x = rw x (test (leb (suc n) (count w.clock (actor_of d))) refl)
        where
          test : (b : Bool) → leb (suc n) (count w.clock (actor_of d)) ≡ b → T (ltb (count w.clock (actor_of d)) (suc n))
          test true y = absurd (h.free e.member (actor_of d) n (rw (eq-eqb (count (entry A e.member) (actor_of d)) (suc n) (have ∙ x)) tt)
              (killed_to A e.member (actor_of d) (suc n) w.clock (rw q t) (rw y tt)))
          test false y = lt→ltb (count w.clock (actor_of d)) (suc n) (nleb→lt (suc n) (count w.clock (actor_of d)) (rw y tt))

  row_spared : (e : Entry) → entry A e.member ≡ e.clock → (w : Wait) → row_at waits A.waiting w.clock ≡ some w → T (spared e w)
  unfolding spared above
  row_spared e p w q = go (get member_sets w.members e.member) refl
    where
      go : (b : Bool) → get member_sets w.members e.member ≡ b → T (not b || every (above w) e.clock)
      go true r = at_every clocks (above w) e.clock (subst (Normal clocks) p (h.each e.member)) (row_above e w p q (rw r tt))
      go false r = tt

  entry_to : (e : Entry) → row_at entries A.entries e.member ≡ some e → Proper entries e → T (alls (entry_tests A e))
  unfolding entry_tests
  entry_to e p q =
      let r : entry A e.member ≡ e.clock = ap clock_of p in
      let n : Normal clocks e.clock = subst (Normal clocks) r (h.each e.member) in
      let c = le_covers A.clock e.clock n (λ a. subst (λ (c : Clock). count c a ≤ count A.clock a) r (h.within e.member a)) in
      let s = at_every waits (spared e) A.waiting h.waiting_ok (λ w u v. row_spared e r w u) in
      alls_to (entry_tests A e) (normal_to e.clock n, (entry_proper e q, (c, (s, tt))))

  pub fine_sound : T (sound A)
  unfolding sound tests
  fine_sound =
      let es = at_every entries (λ e. alls (entry_tests A e)) A.entries h.entries_ok entry_to in
      let ws = at_every waits (λ w. alls (wait_tests w)) A.waiting h.waiting_ok (λ w u v. wait_to w (h.late w.clock w.members (ap members_of u))) in
      let ms = asc_to compare nat_order (map (λ e. e.member) A.entries) h.entries_ok.asc in
      let cs = asc_to cmp_clock clock_order (map (λ w. w.clock) A.waiting) h.waiting_ok.asc in
      alls_to (tests A) (normal_to A.clock h.clock_ok, (ms, (es, (cs, (ws, tt)))))

-- ---- two well-formed replicas that say the same are equal

pub fine_ext : (A B : Replica) → Fine A → Fine B
    → ((a : ℕ) → count A.clock a ≡ count B.clock a)
    → ((m a n : ℕ) → holds A m a (suc n) ≡ holds B m a (suc n))
    → ((c : Clock) → wait_at A c ≡ wait_at B c)
    → A ≡ B
unfolding holds
fine_ext A B h g p q r = λ i. record { clock = v i; entries = e i; waiting = w i }
  where
    v : A.clock ≡ B.clock
    v = clock_ext A.clock B.clock h.clock_ok g.clock_ok p

    e : A.entries ≡ B.entries
    e = ext entries A.entries B.entries h.entries_ok g.entries_ok (λ m. dots_ext (entry A m) (entry B m) (h.each m) (g.each m) (q m))

    w : A.waiting ≡ B.waiting
    w = ext waits A.waiting B.waiting h.waiting_ok g.waiting_ok r
