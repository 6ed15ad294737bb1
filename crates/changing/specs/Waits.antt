-- What an add, a remove and a reset leave of the waiting removes, as merging's loop over two lists of them does it.
use Rattle.std.specs.Prelude.{ℕ, ◌≡◌, refl, ◌≢◌, Bool, true, false, List, [], ◌∷◌, T}
use Rattle.std.proofs.Common.{sym, ap, ◌∙◌, subst, arith, ltb→lt}
use Rattle.std.proofs.lemmas.Bool.{false≢true, lt-leb}
use Rattle.std.proofs.Math.Option.{Option, none, some}
use Rattle.std.proofs.Math.Dec.{eqb-zero-suc}
use Rattle.tables.specs.Table.{Normal, All, get, pick, pick_both, is_some, row_at, key_at, by_row, all_at, ext}
use Rattle.tables.specs.Zip.{get_zip, normal_zip}
use Rattle.dots.specs.Dot.{clocks}
use Rattle.dots.specs.declared.Dot.{Dot}
use Rattle.dots.specs.Clock.{Clock, normal, covers, filled, applied, reset_by}
use Rattle.dots.specs.ClockLaws.{dot_proper, normal_empty, normal_from, reset_normal}
use Rattle.replica.specs.Replica.{Wait, Replica, waits, holds}
use Rattle.replica.specs.Rules.{set_of, unite, join_waits, uncovered, settle, add, remove, rewait, reset_waits, reset}
use Rattle.replica.specs.WellFormed.{Fine, sound}
use Rattle.replica.proofs.WellFormedFacts.{sound_fine, fine_sound}
use Rattle.replica.specs.Waits.{GoodWait, Each}
use Rattle.replica.proofs.WaitsFacts.{unite_none, unite_good, one_normal, joined_get, joined_normal}
use Rattle.replica.proofs.ListedFacts.{set_normal}
use Rattle.replica.proofs.Settle.{late_normal, late_get}
use Rattle.replica.proofs.ResetLaws.{was_reset}
use Rattle.changing.specs.KeptWaits.{kept_waits}

none_normal : Normal waits []
none_normal = record { asc = tt; proper = tt }

module _ (v : Clock) (xs ys : List Wait) where
  abbrev rule : Clock → Option (List ℕ) → Option (List ℕ) → Option (List ℕ)
  rule c x y = pick (covers v c) none (unite x y)

  kept_get : (c : Clock) → get waits (kept_waits v xs ys) c ≡ pick (covers v c) none (unite (get waits xs c) (get waits ys c))
  unfolding kept_waits unite
  kept_get c = get_zip waits rule xs ys (λ c. pick_both (covers v c) none) c

  kept_normal : Normal waits ys → Normal waits (kept_waits v xs ys)
  unfolding kept_waits
  kept_normal h = normal_zip waits rule xs ys h

-- ---- add: "those whose clock V covers are gone, the rest stay"

pub uncovered_is : (v : Clock) (ws : List Wait) → Normal waits ws → uncovered v ws ≡ kept_waits v ws []
uncovered_is v ws h = ext waits (uncovered v ws) (kept_waits v ws []) (late_normal v ws h) (kept_normal v ws [] none_normal)
    (λ c. late_get v ws h c ∙ sym (kept_get v ws [] c ∙ ap (pick (covers v c) none) (unite_none (get waits ws c))))

pub add_waits : (d : Dot) (ms : List ℕ) (A : Replica) → T (sound A) → covers A.clock (d ∷ []) ≡ false → (add d ms A).waiting ≡ kept_waits (applied A.clock d) A.waiting []
unfolding add settle
add_waits d ms A s new = rw new (uncovered_is (applied A.clock d) A.waiting (sound_fine A s).waiting_ok)

-- ---- two lists joined: the empty clock covers none that waits

abbrev pub Good : Wait → Type 0
Good w = GoodWait w.clock w.members

good_at : (ws : List Wait) → All Good ws → (k : Clock) → Each (GoodWait k) (get waits ws k)
good_at ws h k = by_row waits (Each (GoodWait k)) ws k (λ ms q. absurd (false≢true (ap is_some q))) there
  where
    there : (w : Wait) → row_at waits ws k ≡ some w → Each (GoodWait k) (some w.members)
    there w p ms q = let y : w.members ≡ ms = cc in rw (key_at waits ws k w p, ← y) (all_at waits Good ws h k w p)

covers_empty : (v k : Clock) → k ≡ [] → covers v k ≡ true
unfolding covers
covers_empty v k z = rw z

uncovers : (k : Clock) → Normal clocks k → k ≢ [] → covers [] k ≡ false
unfolding covers
uncovers [] n ne = absurd (ne refl)
uncovers (d ∷ c) n ne = rw (lt-leb d.counter 0 (ltb→lt 0 d.counter (dot_proper d n.proper.0)))

joined_each : (xs ys : List Wait) → Normal waits ys → ((k : Clock) → Each (GoodWait k) (get waits xs k)) → ((k : Clock) → Each (GoodWait k) (get waits ys k)) → join_waits xs ys ≡ kept_waits [] xs ys
joined_each xs ys n f g = ext waits (join_waits xs ys) (kept_waits [] xs ys) (joined_normal xs ys n) (kept_normal [] xs ys n)
    (λ k. joined_get xs ys k ∙ sym (kept_get [] xs ys k ∙ go k (unite (get waits xs k) (get waits ys k)) (unite_good k (get waits xs k) (get waits ys k) (f k) (g k))))
  where
    go : (k : Clock) (o : Option (List ℕ)) → Each (GoodWait k) o → pick (covers [] k) none o ≡ o
    go k none e = pick_both (covers [] k) none
    go k (some ms) e = let w = e ms refl in rw (uncovers k w.0 w.1)

pub joined_is : (xs ys : List Wait) → Normal waits ys → All Good xs → All Good ys → join_waits xs ys ≡ kept_waits [] xs ys
joined_is xs ys n f g = joined_each xs ys n (good_at xs f) (good_at ys g)

-- ---- remove: "If V doesn't cover c, the remove waits, joined to one with an equal clock. .. Other waiting removes aren't looked at."

joined_none : (ws : List Wait) → Normal waits ws → join_waits ws [] ≡ ws
joined_none ws n = ext waits (join_waits ws []) ws (joined_normal ws [] none_normal) n (λ k. joined_get ws [] k ∙ unite_none (get waits ws k))

pub remove_waits : (c : Clock) (ms : List ℕ) (A : Replica) → T (normal c) → T (sound A) → (b : Bool) → covers A.clock c ≡ b
    → (remove c ms A).waiting ≡ kept_waits [] A.waiting (pick b [] (record { clock = c; members = set_of ms } ∷ []))
unfolding remove
remove_waits c ms A nc s true e = rw e (sym (joined_none A.waiting h.waiting_ok) ∙ joined_each A.waiting [] none_normal h.late (good_at [] tt))
  where
    h : Fine A
    h = sound_fine A s
remove_waits c ms A nc s false e = rw e (joined_each A.waiting (w ∷ []) (one_normal w) (sound_fine A s).late (good_at (w ∷ []) ((normal_from c nc, filled, set_normal ms), tt)))
  where
    w : Wait
    w = record { clock = c; members = set_of ms }

    filled : c ≢ []
    filled z = false≢true (sym e ∙ covers_empty A.clock c z)

-- ---- reset: one after the other from the last on, each joined to those after it unless its clock went empty

-- the waiting removes of a replica of nothing else
alone : (ws : List Wait) → Normal waits ws → All Good ws → Fine (record { clock = []; entries = []; waiting = ws })
unfolding holds
alone ws n h = record {
  clock_ok = normal_empty;
  each = λ m. normal_empty;
  entries_ok = record { asc = tt; proper = tt };
  waiting_ok = n;
  within = λ m a. omega arith;
  late = good_at ws h;
  free = λ m a k t u. subst T (eqb-zero-suc k) t;
}

reset_fine : (c : Clock) (ws : List Wait) → Normal waits ws → All Good ws → Fine (reset c (record { clock = []; entries = []; waiting = ws }))
reset_fine c ws n h = let A : Replica = record { clock = []; entries = []; waiting = ws } in sound_fine (reset c A) (was_reset c A (fine_sound A (alone ws n h))).is_sound

pub resets_normal : (c : Clock) (ws : List Wait) → Normal waits ws → All Good ws → Normal waits (reset_waits c ws)
unfolding reset
resets_normal c ws n h = (reset_fine c ws n h).waiting_ok

resets_good : (c : Clock) (ws : List Wait) → Normal waits ws → All Good ws → (k : Clock) → Each (GoodWait k) (get waits (reset_waits c ws) k)
unfolding reset
resets_good c ws n h = (reset_fine c ws n h).late

pub resets_first : (c : Clock) (w : Wait) (ws : List Wait) → Normal waits (w ∷ ws) → Good w → All Good ws
    → reset_waits c (w ∷ ws) ≡ pick (filled (reset_by c w.clock)) (kept_waits [] (record { clock = reset_by c w.clock; members = w.members } ∷ []) (reset_waits c ws)) (reset_waits c ws)
unfolding reset_waits rewait filled
resets_first c w ws n g h = go (reset_by c w.clock) refl
  where
    tail_normal : Normal waits ws
    tail_normal = record { asc = n.asc.1; proper = n.proper.1 }

    go : (x : Clock) → reset_by c w.clock ≡ x → rewait x w.members (reset_waits c ws) ≡ pick (filled x) (kept_waits [] (record { clock = x; members = w.members } ∷ []) (reset_waits c ws)) (reset_waits c ws)
    go [] e = refl
    go (d ∷ x) e = joined_each (record { clock = d ∷ x; members = w.members } ∷ []) (reset_waits c ws) (resets_normal c ws tail_normal h)
        (good_at (record { clock = d ∷ x; members = w.members } ∷ []) ((subst (Normal clocks) e (reset_normal c w.clock g.0), (λ z. false≢true (ap filled (sym z))), g.2), tt))
        (resets_good c ws tail_normal h)
