-- What stays of the entries of two replicas: along some actors, what each side has for an actor and which of it stays. A merge goes along the
-- merged clock's actors.
use Prim.Native.Nat.{ℕ, zero, suc, ◌≤◌, ◌<◌, max, compare}
use Rattle.std.specs.Prelude.{◌≡◌, ◌⊎◌, Bool, List, [], map, leb}
use Rattle.std.proofs.Math.Path.{refl, sym, ap}
use Rattle.std.proofs.Common.{◌∙◌, inl, inr, arith, eq-eqb, ne_eqb, eqb-true, le-leb, ltb-true, ltb-false}
use Rattle.std.proofs.Math.Bool.{true, false, or-true}
use Rattle.std.proofs.lemmas.Bool.{false≢true, eqb-false, lt-leb}
use Rattle.std.proofs.Math.Option.{Option, none, some}
use Rattle.std.proofs.Math.Dec.{eqb, ltb}
use Rattle.tables.specs.Order.{nat_order}
use Rattle.tables.specs.Table.{join, Normal, Proper, has, find, find_has, find_all, is_some, pick, pick_all, ext, normal_join, get_join}
use Rattle.tables.specs.Zip.{zip, by_lt}
use Rattle.tables.specs.Walk.{Sub, walked, walked_join}
use Rattle.dots.specs.declared.Dot.{Dot}
use Rattle.dots.specs.Dot.{dots, clocks, dot?, counter_of, actor_of}
use Rattle.dots.specs.Clock.{Clock, count, merged}
use Rattle.dots.specs.ClockLaws.{merged_count, merged_normal, normal_empty}
use Rattle.replica.specs.OneDot.{lives}
use Rattle.replica.specs.Replica.{Entry, Replica, entries, entry, holds, seen, killed}
use Rattle.replica.specs.Rules.{stay, merge}
use Rattle.replica.specs.WellFormed.{Fine}
use Rattle.replica.specs.Merged.{live}
use Rattle.replica.specs.ByDots.{live_at, by_dots}
use Rattle.replica.proofs.ByDotsFacts.{literal}
use Rattle.replica.specs.Kills.{kills_of}
use Rattle.replica.proofs.KillsFacts.{killed_number}

-- up to which counter a replica has seen the actor's dots, or has a waiting remove that takes them from the member
unfoldable pub line_of : Replica → ℕ → ℕ → ℕ
line_of A m a = max (count A.clock a) (kills_of A.waiting m a)

-- what stays of the counters u and w that two entries have for an actor, each beside the other side's line
unfoldable pub keep_of : ℕ → ℕ → ℕ → ℕ → ℕ
keep_of la lb u w = pick (eqb u w) u (pick (ltb lb u) u (pick (ltb la w) w 0))

-- the entry of a member, along the actors
unfoldable pub kept_clock : List ℕ → Replica → Replica → ℕ → Clock → Clock → Clock
kept_clock vs A B m x y = walked dots (λ a. keep_of (line_of A m a) (line_of B m a)) vs x y

unfoldable pub kept_entries : List ℕ → Replica → Replica → List Entry
kept_entries vs A B = zip entries (kept_clock vs A B) A.entries B.entries

-- ---- one counter: u is the entry's, v the clock's, k the kill number; K says whether a dot is killed

pub record Side (u v k : ℕ) (K : ℕ → Bool) : Type 0 where
  pub within : u ≤ v
  pub free : 0 < u → k < u
  pub number : (n : ℕ) → K (suc n) ≡ leb (suc n) k

killed_no : (u k n : ℕ) (K : ℕ → Bool) → ((n : ℕ) → K (suc n) ≡ leb (suc n) k) → u ≡ n → 0 < u → k < u → K n ≡ false
killed_no u k zero K f e l h = absurd (omega arith)
killed_no u k (suc n) K f e l h = f n ∙ lt-leb (suc n) k (omega arith)

killed_yes : (u k : ℕ) (K : ℕ → Bool) → ((n : ℕ) → K (suc n) ≡ leb (suc n) k) → 0 < u → u ≤ k → K u ≡ true
killed_yes zero k K f l h = absurd (omega arith)
killed_yes (suc n) k K f l h = f n ∙ le-leb (suc n) k h

-- a dot that one side alone holds
dead_first : (sA sB kA kB : Bool) → (sB ≡ true) ⊎ (kB ≡ true) → lives true false sA sB kA kB ≡ false
dead_first sA true kA kB h = refl
dead_first sA false kA true h = rw or-true
dead_first sA false kA false (inl e) = absurd (false≢true e)
dead_first sA false kA false (inr e) = absurd (false≢true e)

dead_second : (sA sB kA kB : Bool) → (sA ≡ true) ⊎ (kA ≡ true) → lives false true sA sB kA kB ≡ false
dead_second true sB kA kB h = refl
dead_second false sB true kB h = refl
dead_second false sB false kB (inl e) = absurd (false≢true e)
dead_second false sB false kB (inr e) = absurd (false≢true e)

module _ (u w va vb ka kb : ℕ) (KA KB : ℕ → Bool) (p : Side u va ka KA) (q : Side w vb kb KB) where
  abbrev L : ℕ → Bool
  L n = lives (eqb u n) (eqb w n) (leb n va) (leb n vb) (KA n) (KB n)

  same_lives : u ≡ w → pick (L u) u (pick (L w) w 0) ≡ u
  same_lives e = go u refl
    where
      go : (n : ℕ) → u ≡ n → pick (L u) u (pick (L w) w 0) ≡ u
      go zero z = pick_all (L u) (L w) z (sym e ∙ z) ∙ sym z
      go (suc n) z =
          let l : 0 < u = omega arith in
          rw (eq-eqb u u refl, eq-eqb w u (sym e), killed_no u ka u KA p.number refl l (p.free l), killed_no w kb u KB q.number (sym e) (omega arith) (q.free (omega arith)))

  first_lives : (u ≡ w → ⊥) → max vb kb < u → L u ≡ true
  first_lives d l =
      rw (eq-eqb u u refl, ne_eqb w u (λ z. d (sym z)), lt-leb u vb (omega arith), killed_no u ka u KA p.number refl (omega arith) (p.free (omega arith)), killed_no u kb u KB q.number refl (omega arith) (omega arith))

  first_dies : (u ≡ w → ⊥) → u ≤ max vb kb → L u ≡ false
  first_dies d l =
      rw (eq-eqb u u refl, ne_eqb w u (λ z. d (sym z)))
      (dead_first (leb u va) (leb u vb) (KA u) (KB u) (by_lt vb u (λ h. inr (killed_yes u kb KB q.number (omega arith) (omega arith))) (λ h. inl (le-leb u vb h))))

  second_lives : (u ≡ w → ⊥) → max va ka < w → L w ≡ true
  second_lives d l =
      rw (ne_eqb u w d, eq-eqb w w refl, lt-leb w va (omega arith), killed_no w ka w KA p.number refl (omega arith) (omega arith), killed_no w kb w KB q.number refl (omega arith) (q.free (omega arith)))

  second_dies : (u ≡ w → ⊥) → w ≤ max va ka → L w ≡ false
  second_dies d l =
      rw (ne_eqb u w d, eq-eqb w w refl)
      (dead_second (leb w va) (leb w vb) (KA w) (KB w) (by_lt va w (λ h. inr (killed_yes w ka KA p.number (omega arith) (omega arith))) (λ h. inl (le-leb w va h))))

  pub keep_lives : keep_of (max va ka) (max vb kb) u w ≡ pick (L u) u (pick (L w) w 0)
  unfolding keep_of
  keep_lives = go (eqb u w) refl (ltb (max vb kb) u) refl (ltb (max va ka) w) refl
    where
      go : (e : Bool) → eqb u w ≡ e → (f : Bool) → ltb (max vb kb) u ≡ f → (g : Bool) → ltb (max va ka) w ≡ g
          → pick e u (pick f u (pick g w 0)) ≡ pick (L u) u (pick (L w) w 0)
      go true e f ef g eg = sym (same_lives (eqb-true u w e))
      go false e true ef g eg = rw (first_lives (eqb-false u w e) (ltb-true (max vb kb) u ef))
      go false e false ef true eg = rw (first_dies (eqb-false u w e) (ltb-false (max vb kb) u ef), second_lives (eqb-false u w e) (ltb-true (max va ka) w eg))
      go false e false ef false eg = rw (first_dies (eqb-false u w e) (ltb-false (max vb kb) u ef), second_dies (eqb-false u w e) (ltb-false (max va ka) w eg))

-- ---- of two well-formed replicas

pub side : (A : Replica) → Fine A → (m a : ℕ) → Side (count (entry A m) a) (count A.clock a) (kills_of A.waiting m a) (killed A m a)
unfolding holds
side A h m a = record {
  within = h.within m a;
  free = λ l. go (count (entry A m) a) refl l;
  number = killed_number A m a;
}
  where
    go : (u : ℕ) → count (entry A m) a ≡ u → 0 < u → kills_of A.waiting m a < u
    go zero e l = absurd (omega arith)
    go (suc n) e l = by_lt (kills_of A.waiting m a) (suc n) (λ k. k)
        (λ k. absurd (h.free m a n (rw (eq-eqb (count (entry A m) a) (suc n) e) tt) (rw (killed_number A m a n, le-leb (suc n) (kills_of A.waiting m a) k) tt)))

pub keep_live : (A B : Replica) → Fine A → Fine B → (m a : ℕ) → keep_of (line_of A m a) (line_of B m a) (count (entry A m) a) (count (entry B m) a) ≡ live_at A B m a
unfolding line_of live_at live stay holds seen
keep_live A B h g m a =
    keep_lives (count (entry A m) a) (count (entry B m) a) (count A.clock a) (count B.clock a) (kills_of A.waiting m a) (kills_of B.waiting m a) (killed A m a) (killed B m a) (side A h m a) (side B g m a)

-- a row is there exactly where its counter is not zero
has_count : (c : Clock) (k : ℕ) → Normal clocks c → has compare k (map actor_of c) ≡ true → count c k ≡ 0 → ⊥
has_count c k n h z = go (find compare actor_of k c) refl (find_has compare nat_order actor_of k c ∙ h)
  where
    go : (o : Option Dot) → find compare actor_of k c ≡ o → is_some o ≡ true → ⊥
    go none e t = false≢true t
    go (some d) e t =
        let p = find_all compare nat_order actor_of (Proper clocks) k c d n.proper e in
        let q : d.counter ≡ 0 = sym (ap counter_of e) ∙ z in
        false≢true (ap is_some (sym (ap (dot? (actor_of d)) q) ∙ p))

count_has : (c : Clock) (k : ℕ) → (count c k ≡ 0 → ⊥) → has compare k (map actor_of c) ≡ true
count_has c k h = go (find compare actor_of k c) refl
  where
    go : (o : Option Dot) → find compare actor_of k c ≡ o → has compare k (map actor_of c) ≡ true
    go none e = absurd (h (ap counter_of e))
    go (some d) e = sym (find_has compare nat_order actor_of k c) ∙ ap is_some e

keep_zero : (la lb : ℕ) → keep_of la lb 0 0 ≡ 0
unfolding keep_of
keep_zero la lb = refl

-- where the actors of v have all that two clocks count, what stays along them is said counter by counter
abbrev pub Along : Clock → Clock → Type 0
Along v x = (a : ℕ) → count v a ≡ 0 → count x a ≡ 0

along_sub : (v x : Clock) → Normal clocks x → Along v x → Sub dots (map actor_of v) x
along_sub v x n h = λ a t. count_has v a (λ z. has_count x a n t (h a z))

pub kept_join : (v : Clock) (A B : Replica) (m : ℕ) (x y : Clock) → Normal clocks v → Normal clocks x → Normal clocks y → Along v x → Along v y
    → kept_clock (map actor_of v) A B m x y ≡ join clocks (λ a. keep_of (line_of A m a) (line_of B m a) (count x a) (count y a)) x y
unfolding kept_clock
kept_join v A B m x y nv nx ny ax ay =
    walked_join dots (λ a. keep_of (line_of A m a) (line_of B m a)) v x y nv ny nx.asc (along_sub v x nx ax) (along_sub v y ny ay)
    (λ a z. rw (ax a z, ay a z) (keep_zero (line_of A m a) (line_of B m a)))
    (λ a p q. rw (p, q) (keep_zero (line_of A m a) (line_of B m a)))

-- what a walk along some actors meets of a clock
abbrev pub met_along : List ℕ → Clock → Clock
met_along vs x = walked dots (λ a u w. u) vs x []

-- of a clock that the actors of v have all of, it meets the whole
pub met_whole : (v x : Clock) → Normal clocks v → Normal clocks x → Along v x → met_along (map actor_of v) x ≡ x
met_whole v x nv nx h =
    walked_join dots (λ a u w. u) v x [] nv normal_empty nx.asc (along_sub v x nx h) (λ a t. absurd (false≢true t)) h (λ a p q. p)
    ∙ ext clocks (join clocks (count x) x []) x (normal_join clocks (count x) x [] normal_empty) nx (get_join clocks (count x) x [] (λ a p q. p))

module _ (A B : Replica) (h : Fine A) (g : Fine B) where
  abbrev both : Clock
  both = merged A.clock B.clock

  both_along : (x : Clock) → ((a : ℕ) → count x a ≤ max (count A.clock a) (count B.clock a)) → Along both x
  both_along x l a z = let p = l a in let r = merged_count A.clock B.clock a in omega arith

  kept_is : (m : ℕ) → kept_clock (map actor_of both) A B m (entry A m) (entry B m) ≡ join clocks (live_at A B m) (entry A m) (entry B m)
  kept_is m =
      kept_join both A B m (entry A m) (entry B m) (merged_normal A.clock B.clock g.clock_ok) (h.each m) (g.each m)
      (both_along (entry A m) (λ a. let p = h.within m a in omega arith)) (both_along (entry B m) (λ a. let p = g.within m a in omega arith))
      ∙ (λ i. join clocks (λ a. keep_live A B h g m a i) (entry A m) (entry B m))

  -- the entries of the merge
  pub entries_kept : (merge A B).entries ≡ kept_entries (map actor_of (merged A.clock B.clock)) A B
  unfolding kept_entries zip by_dots
  entries_kept = ap (λ (R : Replica). R.entries) (literal A B h g) ∙ sym (λ i. join entries (λ m. kept_is m i) A.entries B.entries)
