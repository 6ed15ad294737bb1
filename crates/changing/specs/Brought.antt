-- An operation as the second of two sides: what stays of a replica's entries and waiting removes beside it is what the operation leaves.
use Prim.Native.Nat.{ℕ, suc, ◌≤◌, ◌<◌, max, compare, Ordering}
use Rattle.std.specs.Prelude.{◌≡◌, refl, Bool, true, false, ◌&&◌, List, [], ◌∷◌, map, T, leb, ltb}
use Rattle.std.proofs.Math.Path.{sym, ap}
use Rattle.std.proofs.Common.{ap₂, ◌∙◌, lt→ltb, eq-eqb, ne_eqb, eqb-true, ltb-true, ltb-false, le-leb, le-ltb}
use Rattle.std.proofs.Math.Bool.{not, and-true}
use Rattle.std.proofs.lemmas.Bool.{false≢true, lt-leb}
use native.Mathlib.Omega.{arith}
use Rattle.std.proofs.Math.Dec.{eqb, eqb-zero-suc}
use Rattle.tables.specs.Table.{Normal, Asc, All, Proper, get, pick, pick_both, has, find, hit, is_some, ext, join, normal_join, get_join, map_id}
use Rattle.tables.specs.Zip.{get_zip, normal_zip}
use Rattle.dots.specs.declared.Dot.{Dot}
use Rattle.dots.specs.Dot.{clocks, actor_of}
use Rattle.dots.specs.Clock.{Clock, count, normal, covers, applied}
use Rattle.dots.specs.ClockLaws.{clock_ext, nat_ext, proper_dot, normal_empty}
use Rattle.dots.specs.Covering.{by_eq, count_same, count_other}
use Rattle.dots.specs.Ruled.{applied_normal, applied_count}
use Rattle.replica.specs.Replica.{Entry, Wait, Replica, entries, clock_of, member_sets, entry, holds}
use Rattle.replica.specs.Rules.{set_of, add, remove, reset}
use Rattle.replica.specs.WellFormed.{Fine, sound}
use Rattle.replica.proofs.WellFormedFacts.{sound_fine}
use Rattle.replica.specs.Removes.{FineEntries}
use Rattle.replica.specs.Listed.{listed}
use Rattle.replica.proofs.ListedFacts.{set_listed, set_normal}
use Rattle.replica.specs.Kills.{kills_of}
use Rattle.replica.proofs.KillsFacts.{killed_number}
use Rattle.replica.specs.AddLaws.{Added}
use Rattle.replica.proofs.AddLaws.{added, above}
use Rattle.replica.specs.RemoveLaws.{Removed}
use Rattle.replica.proofs.RemoveLaws.{removed}
use Rattle.replica.specs.ResetLaws.{WasReset}
use Rattle.replica.proofs.ResetLaws.{was_reset}
use Rattle.changing.specs.Kept.{line_of, keep_of, kept_clock, kept_entries, side, Along, kept_join}

-- ---- entries that are, counter by counter, what stays of two sides along the actors of v

module _ (v : Clock) (A B : Replica) (nv : Normal clocks v) where
  abbrev stays : ℕ → ℕ → ℕ
  stays m a = keep_of (line_of A m a) (line_of B m a) (count (entry A m) a) (count (entry B m) a)

  none_stays : (m : ℕ) → kept_clock (map actor_of v) A B m [] [] ≡ []
  none_stays m = kept_join v A B m [] [] nv normal_empty normal_empty (λ a z. refl) (λ a z. refl)

  pub kept_are : (es : List Entry) → FineEntries A.entries → FineEntries B.entries → FineEntries es → ((m : ℕ) → Along v (entry A m)) → ((m : ℕ) → Along v (entry B m))
      → ((m a : ℕ) → count (get entries es m) a ≡ stays m a) → es ≡ kept_entries (map actor_of v) A B
  unfolding kept_entries keep_of
  kept_are es fa fb fe la lb same =
      ext entries es (kept_entries (map actor_of v) A B) fe.rows (normal_zip entries (kept_clock (map actor_of v) A B) A.entries B.entries fb.rows)
      (λ m. clock_ext (get entries es m) (join clocks (stays m) (entry A m) (entry B m)) (fe.each m) (normal_join clocks (stays m) (entry A m) (entry B m) (fb.each m))
      (λ a. same m a ∙ sym (get_join clocks (stays m) (entry A m) (entry B m) (λ k p q. rw (p, q)) a))
      ∙ sym (kept_join v A B m (entry A m) (entry B m) nv (fa.each m) (fb.each m) (la m) (lb m))
      ∙ sym (get_zip entries (kept_clock (map actor_of v) A B) A.entries B.entries none_stays m))

fine_entries : (A : Replica) → Fine A → FineEntries A.entries
fine_entries A h = record { rows = h.entries_ok; each = h.each }

fine_along : (A : Replica) → Fine A → (m : ℕ) → Along A.clock (entry A m)
fine_along A h m a z = let l = h.within m a in omega arith

no_entries : FineEntries []
no_entries = record { rows = record { asc = tt; proper = tt }; each = λ m. normal_empty }

-- ---- beside a side without entries a counter stays exactly if it is above the line

above_line : (la lb u n : ℕ) → eqb (keep_of la lb u 0) (suc n) ≡ (eqb u (suc n) && not (leb (suc n) lb))
unfolding keep_of
above_line la lb u n = go (eqb u 0) refl (ltb lb u) refl (eqb u (suc n)) refl
  where
    go : (z : Bool) → eqb u 0 ≡ z → (k : Bool) → ltb lb u ≡ k → (e : Bool) → eqb u (suc n) ≡ e → eqb (pick z u (pick k u (pick (ltb la 0) 0 0))) (suc n) ≡ (e && not (leb (suc n) lb))
    go true p k q true r = let a = eqb-true u 0 p in let b = eqb-true u (suc n) r in absurd (omega arith)
    go false p true q true r = let a = ltb-true lb u q in let b = eqb-true u (suc n) r in r ∙ rw (lt-leb (suc n) lb (omega arith))
    go false p false q true r = let a = ltb-false lb u q in let b = eqb-true u (suc n) r in rw (le-leb (suc n) lb (omega arith), pick_both {A = ℕ} (ltb la 0) 0) (eqb-zero-suc n)
    go true p k q false r = r
    go false p true q false r = r
    go false p false q false r = rw (pick_both {A = ℕ} (ltb la 0) 0) (eqb-zero-suc n)

-- a side with a clock and waiting removes only
abbrev pub bare : Clock → List Wait → Replica
bare c ws = record { clock = c; entries = []; waiting = ws }

kept_above : (c : Clock) (ws : List Wait) (A R : Replica) → Fine A → Fine R
    → ((m a n : ℕ) → holds R m a (suc n) ≡ (holds A m a (suc n) && not (leb (suc n) (line_of (bare c ws) m a)))) → R.entries ≡ kept_entries (map actor_of A.clock) A (bare c ws)
unfolding holds
kept_above c ws A R h g says =
    kept_are A.clock A (bare c ws) h.clock_ok R.entries (fine_entries A h) no_entries (fine_entries R g) (fine_along A h) (λ m a z. refl)
    (λ m a. nat_ext (count (entry R m) a) (keep_of (line_of A m a) (line_of (bare c ws) m a) (count (entry A m) a) 0)
    (λ n. says m a n ∙ sym (above_line (line_of A m a) (line_of (bare c ws) m a) (count (entry A m) a) n)))

-- ---- reset: "each entry .. clock [is] reset by c", as beside a side that has seen c

pub reset_kept : (c : Clock) (A : Replica) → T (sound A) → (reset c A).entries ≡ kept_entries (map actor_of A.clock) A (bare c [])
unfolding line_of kills_of
reset_kept c A s =
    kept_above c [] A (reset c A) (sound_fine A s) (sound_fine (reset c A) r.is_sound)
    (λ m a n. let e : max (count c a) 0 ≡ count c a = omega arith in r.holds_is m a n ∙ rw e)
  where
    r : WasReset c A (reset c A)
    r = was_reset c A s

-- ---- remove: "each listed member's entry is reset by c", as beside a side where that remove waits

abbrev pub removing : Clock → List ℕ → Replica
removing c ms = bare [] (record { clock = c; members = set_of ms } ∷ [])

pub remove_kept : (c : Clock) (ms : List ℕ) (A : Replica) → T (normal c) → T (sound A) → (remove c ms A).entries ≡ kept_entries (map actor_of A.clock) A (removing c ms)
unfolding line_of kills_of
remove_kept c ms A nc s =
    kept_above [] (record { clock = c; members = set_of ms } ∷ []) A (remove c ms A) (sound_fine A s) (sound_fine (remove c ms A) r.is_sound)
    (λ m a n. r.holds_is m a n ∙ ap (λ (b : Bool). holds A m a (suc n) && not b) (line (get member_sets (set_of ms) m) (listed ms m) (set_listed ms m) (count c a) n))
  where
    r : Removed c ms A (remove c ms A)
    r = removed c ms A nc s

    line : (b l : Bool) → b ≡ l → (x n : ℕ) → (l && leb (suc n) x) ≡ leb (suc n) (max 0 (max (pick b x 0) 0))
    line true l e x n = let q : max 0 (max x 0) ≡ x = omega arith in rw (q, ← e)
    line false l e x n = let q : max 0 (max 0 0) ≡ 0 = omega arith in rw (q, ← e) (sym (lt-leb (suc n) 0 (omega arith)))

-- ---- add: "each listed member's clock takes the dot", as beside a side where each listed member has the dot alone, and which takes older ones

-- the members, each with the clock y
abbrev pub brought : Clock → List ℕ → List Entry
brought y ms = map (λ m. record { member = m; clock = y }) ms

abbrev pub adding : Dot → List ℕ → Replica
adding d ms = record { clock = []; entries = brought (d ∷ []) (set_of ms); waiting = record { clock = d ∷ []; members = set_of ms } ∷ [] }

brought_get : (y : Clock) (ms : List ℕ) (m : ℕ) → get entries (brought y ms) m ≡ pick (has compare m ms) y []
brought_get y [] m = refl
brought_get y (k ∷ ks) m = go (compare m k) (brought_get y ks m)
  where
    go : (o : Ordering) → get entries (brought y ks) m ≡ pick (has compare m ks) y []
        → clock_of (hit o (record { member = k; clock = y }) (find compare entries.key m (brought y ks))) ≡ pick (is_some (hit o k (find compare (λ j. j) m ks))) y []
    go Ordering.lt l = l
    go Ordering.eq l = refl
    go Ordering.gt l = l

pub brought_keys : (y : Clock) (ms : List ℕ) → map entries.key (brought y ms) ≡ ms
brought_keys y [] = refl
brought_keys y (m ∷ ms) = ap (λ (l : List ℕ). m ∷ l) (brought_keys y ms)

pick_normal : (b : Bool) (c : Clock) → Normal clocks c → Normal clocks (pick b c [])
pick_normal true c h = h
pick_normal false c h = normal_empty

fine_brought : (d : Dot) (ms : List ℕ) → 0 < d.counter → Asc compare ms → FineEntries (brought (d ∷ []) ms)
fine_brought d ms p a = record {
  rows = record { asc = rw (brought_keys (d ∷ []) ms) a; proper = proper ms };
  each = λ m. rw (brought_get (d ∷ []) ms m) (pick_normal (has compare m ms) (d ∷ []) one);
}
  where
    proper : (ks : List ℕ) → All (Proper entries) (brought (d ∷ []) ks)
    proper [] = tt
    proper (k ∷ ks) = (refl, proper ks)

    one : Normal clocks (d ∷ [])
    one = record { asc = (tt, tt); proper = (proper_dot d (lt→ltb 0 d.counter p), tt) }

-- a counter that no waiting remove takes: where nothing is brought, and where the counter N is
kept_number : (x k n : ℕ) → (0 < x → k < x) → eqb x (suc n) ≡ (eqb x (suc n) && not (leb (suc n) k))
kept_number x k n free = go (eqb x (suc n)) refl
  where
    go : (b : Bool) → eqb x (suc n) ≡ b → b ≡ (b && not (leb (suc n) k))
    go true e = let q = eqb-true x (suc n) e in let f = free (omega arith) in sym (rw (lt-leb (suc n) k (omega arith)))
    go false e = refl

taken_number : (v k u N n : ℕ) → u ≤ v → (0 < u → k < u) → (t : Bool) → (t ≡ true → v < N)
    → eqb (keep_of (max v k) (pick t N 0) u (pick t N 0)) (suc n) ≡ (pick t (eqb N (suc n)) (eqb u (suc n)) && not (leb (suc n) k))
unfolding keep_of
taken_number v k u N n le free true new =
    let l = new refl in
    rw (ne_eqb u N (λ z. omega arith), le-ltb N u (omega arith)) (go (ltb (max v k) N) refl)
  where
    go : (b : Bool) → ltb (max v k) N ≡ b → eqb (pick b N 0) (suc n) ≡ (eqb N (suc n) && not (leb (suc n) k))
    go true e = let q = ltb-true (max v k) N e in kept_number N k n (λ z. omega arith)
    go false e = let q = ltb-false (max v k) N e in let l = new refl in eqb-zero-suc n ∙ sym (gone (eqb N (suc n)) refl (omega arith))
      where
        gone : (b : Bool) → eqb N (suc n) ≡ b → N ≤ k → (b && not (leb (suc n) k)) ≡ false
        gone true r q = let y = eqb-true N (suc n) r in rw (le-leb (suc n) k (omega arith))
        gone false r q = refl
taken_number v k u N n le free false new = above_line (max v k) 0 u n ∙ rw (lt-leb (suc n) 0 (omega arith), and-true) (kept_number u k n free)

-- what the side has for an actor
count_brought : (d : Dot) (b : Bool) (a : ℕ) → pick b (count (d ∷ []) a) 0 ≡ pick (b && eqb a (actor_of d)) d.counter 0
count_brought d true a = by_eq a (actor_of d) (λ e. rw (e, eq-eqb (actor_of d) (actor_of d) refl) (count_same d [])) (λ e. rw (ne_eqb a (actor_of d) e) (count_other d [] a e))
count_brought d false a = refl

module _ (d : Dot) (ms : List ℕ) (A : Replica) (s : T (sound A)) (new : covers A.clock (d ∷ []) ≡ false) where
  h : Fine A
  h = sound_fine A s

  r : Added d ms A (add d ms A)
  r = added d ms A s new

  abbrev brings : ℕ → ℕ → ℕ
  brings m a = pick (listed ms m && eqb a (actor_of d)) d.counter 0

  entry_is : (m a : ℕ) → count (entry (adding d ms) m) a ≡ brings m a
  entry_is m a = ap (λ (c : Clock). count c a) (brought_get (d ∷ []) (set_of ms) m) ∙ go (has compare m (set_of ms)) (listed ms m) (set_listed ms m)
    where
      go : (b l : Bool) → b ≡ l → count (pick b (d ∷ []) []) a ≡ pick (l && eqb a (actor_of d)) d.counter 0
      go true l e = rw (← e) (count_brought d true a)
      go false l e = rw (← e)

  line_is : (m a : ℕ) → line_of (adding d ms) m a ≡ brings m a
  unfolding line_of kills_of
  line_is m a =
      let q : max 0 (max (pick (get member_sets (set_of ms) m) (count (d ∷ []) a) 0) 0) ≡ pick (get member_sets (set_of ms) m) (count (d ∷ []) a) 0 = omega arith in
      q ∙ ap (λ (b : Bool). pick b (count (d ∷ []) a) 0) (set_listed ms m) ∙ count_brought d (listed ms m) a

  brings_new : (m a : ℕ) → (listed ms m && eqb a (actor_of d)) ≡ true → count A.clock a < d.counter
  brings_new m a e =
      let q : a ≡ actor_of d = eqb-true a (actor_of d) (and_true_r (listed ms m) e) in
      rw q (above A.clock d new)
    where
      and_true_r : (x : Bool) {y : Bool} → (x && y) ≡ true → y ≡ true
      and_true_r true e = e
      and_true_r false e = absurd (false≢true e)

  brings_along : (m a : ℕ) → brings m a ≤ count (d ∷ []) a
  brings_along m a = rw (← (count_brought d (listed ms m) a)) (go (listed ms m))
    where
      go : (b : Bool) → pick b (count (d ∷ []) a) 0 ≤ count (d ∷ []) a
      go true = omega arith
      go false = omega arith

  counter_is : (m a : ℕ) → count (entry (add d ms A) m) a ≡ keep_of (line_of A m a) (brings m a) (count (entry A m) a) (brings m a)
  unfolding holds line_of
  counter_is m a = nat_ext (count (entry (add d ms A) m) a) (keep_of (line_of A m a) (brings m a) (count (entry A m) a) (brings m a))
      (λ n.
      let i = side A h m a in
      r.holds_is m a n
      ∙ ap (λ (k : Bool). pick (listed ms m && eqb a (actor_of d)) (eqb d.counter (suc n)) (eqb (count (entry A m) a) (suc n)) && not k) (killed_number A m a n)
      ∙ sym (taken_number (count A.clock a) (kills_of A.waiting m a) (count (entry A m) a) d.counter n i.within i.free (listed ms m && eqb a (actor_of d)) (brings_new m a)))

  pub add_kept : (add d ms A).entries ≡ kept_entries (map actor_of (applied A.clock d)) A (adding d ms)
  add_kept =
      kept_are (applied A.clock d) A (adding d ms) (applied_normal A.clock d) (add d ms A).entries
      (fine_entries A h) (fine_brought d (set_of ms) (let l = above A.clock d new in omega arith) (rw map_id at (set_normal ms).asc)) (fine_entries (add d ms A) (sound_fine (add d ms A) r.is_sound))
      (λ m a z. let c = applied_count A.clock d a in let w = h.within m a in omega arith)
      (λ m a z. let c = applied_count A.clock d a in let w = brings_along m a in let e = entry_is m a in omega arith)
      (λ m a. counter_is m a ∙ sym (ap₂ (λ (l u : ℕ). keep_of (line_of A m a) l (count (entry A m) a) u) (line_is m a) (entry_is m a)))
