-- What is proved of specs/Fitting.antt.
use Prim.Native.Nat.{ℕ, ◌<◌, ◌^◌, max, compare}
use Rattle.std.specs.Prelude.{◌≡◌, refl, Bool, true, false, ◌||◌, List, [], ◌∷◌, map}
use Rattle.std.proofs.Common.{sym, ◌∙◌, arith}
use Rattle.std.proofs.Math.Path.{ap, subst}
use Rattle.std.proofs.lemmas.Bool.{false≢true}
use Rattle.std.proofs.Math.Option.{Option, none, some}
use Rattle.tables.specs.Table.{Kind, All, get, join, union, pick, collect, find, is_some, all_map, all_both, all_collect, all_sift, by_row, all_at, at_all, find_key, find_all}
use Rattle.tables.specs.Order.{nat_order}
use Rattle.tables.specs.Zip.{zip}
use Rattle.dots.specs.declared.Dot.{Dot}
use Rattle.dots.specs.Dot.{actor_of, clocks}
use Rattle.dots.specs.Clock.{Clock, count, covers, covers_dot, merged, applied, reset_by}
use Rattle.replica.proofs.Lists.{all_zip, all_mapped}
use Rattle.replica.proofs.ListedFacts.{set_listed, set_normal}
use Rattle.replica.specs.Replica.{Entry, Wait, Replica, entry?, entries, waits, member_sets, entry}
use Rattle.replica.specs.Rules.{set_of, unite, join_waits, remove_from, removes_from, settle, takes, add, remove, stay, stay_at, staying, together, merge, rewait, reset_waits, reset}
use Rattle.replica.specs.History.{Add, Remove, apply, Event, Apply, MergeWith, MergeInto, Reset, step}
use Rattle.layout.specs.Fits.{FitMembers, FitsClock, FitsRow, FitsWait, Fits}
use Rattle.claims.specs.Fitting.{FitsEvent}

-- ---- tables

-- keys that have P and values that have Q make rows that have both
module _ (S : Kind) (P : S.Key → Type 0) (Q : S.Val → Type 0) where
  abbrev Both : S.Row → Type 0
  Both r = P (S.key r) × Q (S.val (some r))

  made : (k : S.Key) (v : S.Val) (r : S.Row) → S.row k v ≡ some r → P k → Q v → Both r
  made k v r e p q = (subst P (sym (S.key_row k v r e)) p, subst Q (sym (S.val_row k v) ∙ ap S.val e) q)

  all_join : (f : S.Key → S.Val) (xs ys : List S.Row) → ((k : S.Key) → Q (f k)) → All Both xs → All Both ys → All Both (join S f xs ys)
  unfolding zip
  all_join f xs ys q hx hy =
      all_both (λ r. P (S.key r)) (λ r. Q (S.val (some r))) Both (join S f xs ys) (λ r p v. (p, v))
      (all_zip S P (λ k v w. f k) xs ys (all_map Both (λ r. P (S.key r)) xs (λ r h. h.0) hx) (all_map Both (λ r. P (S.key r)) ys (λ r h. h.0) hy))
      (all_collect (λ r. Q (S.val (some r))) (λ k. S.row k (f k)) (union S.cmp (map S.key xs) (map S.key ys)) (λ k r e. subst Q (sym (S.val_row k (f k)) ∙ ap S.val e) (q k)))

  value : (t : List S.Row) → Q (S.val none) → All Both t → (k : S.Key) → Q (get S t k)
  value t n h k = by_row S Q t k n (λ r e. (all_at S Both t h k r e).1)

  all_zipped : (f : S.Key → S.Val → S.Val → S.Val) (xs ys : List S.Row) → Q (S.val none) → ((k : S.Key) (v w : S.Val) → Q v → Q w → Q (f k v w))
      → All Both xs → All Both ys → All Both (zip S f xs ys)
  unfolding zip
  all_zipped f xs ys n q hx hy = all_join (λ k. f k (get S xs k) (get S ys k)) xs ys (λ k. q k (get S xs k) (get S ys k) (value xs n hx k) (value ys n hy k)) hx hy

-- a test of rows leaves what all of them have
all_left : {R : Type 0} (P : R → Type 0) (out : R → Bool) (rs : List R) → All P rs → All P (collect (λ r. pick (out r) none (some r)) rs)
all_left {R} P out rs h = all_sift P P (λ r. pick (out r) none (some r)) rs (λ r q p e. subst P (go (out r) r q e) p) h
  where
    go : (b : Bool) (r q : R) → pick b none (some r) ≡ some q → r ≡ q
    go true r q e = absurd (false≢true (ap is_some e))
    go false r q e = cc

-- ---- clocks

abbrev Small : ℕ → Type 0
Small k = k < 2 ^ 32

abbrev Counter : ℕ → Type 0
Counter n = n < 2 ^ 64

count_fits : (c : Clock) (a : ℕ) → FitsClock c → Counter (count c a)
count_fits c a h = value clocks Small Counter c (omega arith) h a

merged_fits : (c d : Clock) → FitsClock c → FitsClock d → FitsClock (merged c d)
unfolding merged
merged_fits c d h g = all_zipped clocks Small Counter (λ a. max) c d (omega arith) (λ k v w p q. omega arith) h g

reset_clock_fits : (c x : Clock) → FitsClock x → FitsClock (reset_by c x)
unfolding reset_by
reset_clock_fits c x h = all_left (λ d. Small (actor_of d) × Counter d.counter) (covers_dot c) x h

-- ---- entries

entry_fits : (es : List Entry) (m : ℕ) → All FitsRow es → FitsClock (get entries es m)
entry_fits es m h = value entries Small FitsClock es tt h m

-- an argument list says no member that is not in it
set_fits : (ms : List ℕ) → FitMembers ms → FitMembers (set_of ms)
set_fits ms h = at_all member_sets Small (set_of ms) (set_normal ms) (λ m e p. go m (find compare (λ j. j) m ms) refl (sym (set_listed ms m) ∙ ap is_some e))
  where
    go : (m : ℕ) (o : Option ℕ) → find compare (λ j. j) m ms ≡ o → is_some o ≡ true → Small m
    go m none e t = absurd (false≢true t)
    go m (some k) e t = subst Small (sym (find_key compare nat_order (λ j. j) m ms k e)) (find_all compare nat_order (λ j. j) Small m ms k h e)

removed_fits : (w : Wait) (es : List Entry) → All FitsRow es → All FitsRow (remove_from w es)
unfolding remove_from
removed_fits w es h = all_sift FitsRow FitsRow (λ e. pick (get member_sets w.members e.member) (entry? e.member (reset_by w.clock e.clock)) (some e)) es
    (λ e x p u. go (get member_sets w.members e.member) e x p u) h
  where
    go : (b : Bool) (e x : Entry) → FitsRow e → pick b (entry? e.member (reset_by w.clock e.clock)) (some e) ≡ some x → FitsRow x
    go true e x p u = made entries Small FitsClock e.member (reset_by w.clock e.clock) x u p.0 (reset_clock_fits w.clock e.clock p.1)
    go false e x p u = let s : e ≡ x = cc in subst FitsRow s p

removes_fits : (ws : List Wait) (es : List Entry) → All FitsRow es → All FitsRow (removes_from ws es)
unfolding removes_from
removes_fits [] es h = h
removes_fits (w ∷ ws) es h = removes_fits ws (remove_from w es) (removed_fits w es h)

takes_fits : (d : Dot) (ms : List ℕ) (es : List Entry) → FitsClock (d ∷ []) → FitMembers ms → All FitsRow es → All FitsRow (takes d ms es)
unfolding takes
takes_fits d ms es fd fm h =
    all_zipped entries Small FitsClock (λ m. merged) es (map (λ m. record { member = m; clock = d ∷ [] }) (set_of ms)) tt (λ k v w p q. merged_fits v w p q) h
    (all_mapped FitsRow (λ m. record { member = m; clock = d ∷ [] }) (set_of ms) (all_map Small (λ m. Small m × FitsClock (d ∷ [])) (set_of ms) (λ m p. (p, fd)) (set_fits ms fm)))

staying_fits : (A B : Replica) → All FitsRow A.entries → All FitsRow B.entries → All FitsRow (staying A B)
unfolding staying stay_at
staying_fits A B h g = all_join entries Small FitsClock (λ m. join clocks (stay_at A B m) (entry A m) (entry B m)) A.entries B.entries (λ m. clock m) h g
  where
    one : (b c : Bool) (x y : ℕ) → Counter x → Counter y → Counter (pick b x (pick c y 0))
    one true c x y p q = p
    one false true x y p q = q
    one false false x y p q = omega arith

    clock : (m : ℕ) → FitsClock (join clocks (stay_at A B m) (entry A m) (entry B m))
    clock m = all_join clocks Small Counter (stay_at A B m) (entry A m) (entry B m)
        (λ a. one (stay A B m a (count (entry A m) a)) (stay A B m a (count (entry B m) a)) (count (entry A m) a) (count (entry B m) a)
        (count_fits (entry A m) a (entry_fits A.entries m h)) (count_fits (entry B m) a (entry_fits B.entries m g)))
        (entry_fits A.entries m h) (entry_fits B.entries m g)

-- ---- waiting removes

abbrev FitsSome : Option (List ℕ) → Type 0
FitsSome none = Unit {0}
FitsSome (some ms) = FitMembers ms

unite_fits : (x y : Option (List ℕ)) → FitsSome x → FitsSome y → FitsSome (unite x y)
unfolding unite
unite_fits none y p q = q
unite_fits (some x) none p q = p
unite_fits (some x) (some y) p q = all_zip member_sets Small (λ m. ◌||◌) x y p q

joined_fits : (xs ys : List Wait) → All FitsWait xs → All FitsWait ys → All FitsWait (join_waits xs ys)
unfolding join_waits
joined_fits xs ys h g = all_zipped waits FitsClock FitsSome (λ c. unite) xs ys tt (λ k v w p q. unite_fits v w p q) h g

resets_fit : (c : Clock) (ws : List Wait) → All FitsWait ws → All FitsWait (reset_waits c ws)
unfolding reset_waits rewait
resets_fit c [] h = tt
resets_fit c (w ∷ ws) h = go (reset_by c w.clock) (reset_clock_fits c w.clock h.0.0) (resets_fit c ws h.1)
  where
    go : (x : Clock) → FitsClock x → All FitsWait (reset_waits c ws) → All FitsWait (rewait x w.members (reset_waits c ws))
    go [] p r = r
    go (d ∷ x) p r = joined_fits (record { clock = d ∷ x; members = w.members } ∷ []) (reset_waits c ws) ((p, h.0.1), tt) r

-- ---- replicas

settle_fits : (A : Replica) → Fits A → Fits (settle A)
unfolding settle
settle_fits A h = record {
  clock_fits = h.clock_fits;
  entries_fit = removes_fits A.waiting A.entries h.entries_fit;
  waiting_fit = all_left FitsWait (λ w. covers A.clock w.clock) A.waiting h.waiting_fit;
}

add_fits : (d : Dot) (ms : List ℕ) (A : Replica) → FitsClock (d ∷ []) → FitMembers ms → Fits A → Fits (add d ms A)
unfolding add applied
add_fits d ms A fd fm h = go (covers A.clock (d ∷ []))
  where
    B : Replica
    B = record { clock = applied A.clock d; entries = takes d ms A.entries; waiting = A.waiting }

    go : (b : Bool) → Fits (pick b A (settle B))
    go true = h
    go false = settle_fits B (record { clock_fits = merged_fits A.clock (d ∷ []) h.clock_fits fd; entries_fit = takes_fits d ms A.entries fd fm h.entries_fit; waiting_fit = h.waiting_fit })

remove_fits : (c : Clock) (ms : List ℕ) (A : Replica) → FitsClock c → FitMembers ms → Fits A → Fits (remove c ms A)
unfolding remove
remove_fits c ms A fc fm h = record {
  clock_fits = h.clock_fits;
  entries_fit = removed_fits w A.entries h.entries_fit;
  waiting_fit = go (covers A.clock c);
}
  where
    w : Wait
    w = record { clock = c; members = set_of ms }

    go : (b : Bool) → All FitsWait (pick b A.waiting (join_waits A.waiting (w ∷ [])))
    go true = h.waiting_fit
    go false = joined_fits A.waiting (w ∷ []) h.waiting_fit ((fc, set_fits ms fm), tt)

merge_fits : (A B : Replica) → Fits A → Fits B → Fits (merge A B)
unfolding merge
merge_fits A B h g = settle_fits (together A B) (record {
  clock_fits = merged_fits A.clock B.clock h.clock_fits g.clock_fits;
  entries_fit = staying_fits A B h.entries_fit g.entries_fit;
  waiting_fit = joined_fits A.waiting B.waiting h.waiting_fit g.waiting_fit;
})

reset_fits : (c : Clock) (A : Replica) → Fits A → Fits (reset c A)
unfolding reset
reset_fits c A h = record {
  clock_fits = reset_clock_fits c A.clock h.clock_fits;
  entries_fit = all_sift FitsRow FitsRow (λ e. entry? e.member (reset_by c e.clock)) A.entries
      (λ e x p u. made entries Small FitsClock e.member (reset_by c e.clock) x u p.0 (reset_clock_fits c e.clock p.1)) h.entries_fit;
  waiting_fit = resets_fit c A.waiting h.waiting_fit;
}

pub step_fits : (e : Event) (A : Replica) → FitsEvent e → Fits A → Fits (step e A)
unfolding step apply
step_fits (Apply (Add d ms)) A f h = add_fits d ms A f.0 f.1 h
step_fits (Apply (Remove c ms)) A f h = remove_fits c ms A f.0 f.1 h
step_fits (MergeWith B) A f h = merge_fits A B h f
step_fits (MergeInto B) A f h = merge_fits B A f h
step_fits (Reset c) A f h = reset_fits c A h
