-- The loop over the entries of two images.
use Prim.Native.Nat.{ℕ, zero, suc, ◌+◌, ◌*◌, ◌%◌, ◌≤◌, ◌<◌, min}
use mathlib.Core.Path.{◌≡◌, refl, sym, ap, ap₂, ◌∙◌, subst}
use mathlib.Core.Logic.{◌⊎◌, inl, inr}
use mathlib.Core.Bool.{Bool, true, false}
use mathlib.Core.List.{List, [], ◌∷◌}
use native.Mathlib.Omega.{arith}
use native.Mathlib.Nat.{add-zero, zero-add}
use lib.Dec.{eqb}
use lib.ListN.{length, get_or, drop, length-append}
use lib.Seq.{sets, length-sets}
use borrow.Author.Tests.{eqb-true, le-ltb}
use Rattle.tables.specs.Table.{All, pick, cons?}
use Rattle.tables.specs.Zip.{zip, said, past, Rise, rise_past, zip_step, zip_nil, tail}
use Rattle.tables.specs.Walk.{walked}
use Rattle.dots.specs.Dot.{dots, dot?}
use Rattle.dots.specs.Clock.{Clock}
use Rattle.replica.specs.Replica.{Entry, Replica, entry?, entry_rows, entries}
use Rattle.layout.specs.Fields.{u32_at}
use Rattle.layout.specs.Lists.{list_at, bytes_of}
use Rattle.layout.proofs.Form.{length_list_at}
use Rattle.layout.specs.Rows.{row_in, row_at, row_end, rows_at, rows_end_at, encode_row, encode_rows}
use Rattle.merging.specs.declared.entries.Rows.{Rows}
use Rattle.merging.specs.Ahead.{key_ahead, front_ahead, wrote, length_cons, bytes_cons}
use Rattle.changing.specs.Kept.{keep_of, line_of, kept_clock, kept_entries}
use Rattle.merging.specs.Keeping.{lines_from, kept_along}
use Rattle.merging.specs.Rowing.{Side, Ready, turn_entry, MergedRow, WroteRows}
use Rattle.merging.proofs.WholeSteps.{actors_from, actors_all}

-- ---- the lines of a member

keep_same : (la la' lb lb' u w : ℕ) → (u ≡ 0) ⊎ (lb ≡ lb') → (w ≡ 0) ⊎ (la ≡ la') → keep_of la lb u w ≡ keep_of la' lb' u w
unfolding keep_of
keep_same la la' lb lb' u w (inl p) (inl q) = rw (p, q)
keep_same la la' lb lb' u w (inl p) (inr q) = rw (p, q, le-ltb lb 0 (omega arith), le-ltb lb' 0 (omega arith))
keep_same la la' lb lb' u w (inr p) (inl q) = rw (p, q, le-ltb la 0 (omega arith), le-ltb la' 0 (omega arith))
keep_same la la' lb lb' u w (inr p) (inr q) = rw (p, q)

-- what a side reads for an actor, or that it has no dots
abbrev pub Or : Clock → (ℕ → Type 0) → Type 0
Or x P = (x ≡ []) ⊎ ((i : ℕ) → P i)

module _ (vs ka : List ℕ) (ja : ℕ) (kb : List ℕ) (ib N : ℕ) (f g : ℕ → ℕ) where
  abbrev pub Ours : ℕ → Type 0
  Ours i = i < N → get_or ka (ja + i) 0 ≡ f (get_or vs i 0)

  abbrev pub Theirs : ℕ → Type 0
  Theirs i = i < N → get_or kb (ib + i) 0 ≡ g (get_or vs i 0)

  or_past : (x : Clock) (P : ℕ → Type 0) (a : ℕ) → Or x P → Or (past dots a x) P
  or_past x P a (inl e) = inl (rw e)
  or_past x P a (inr h) = inr h

  or_said : (x : Clock) (P : ℕ → Type 0) (a k : ℕ) {l l' : ℕ} → (P k → l ≡ l') → Or x P → (said dots a x ≡ 0) ⊎ (l ≡ l')
  or_said x P a k h (inl e) = inl (rw e)
  or_said x P a k h (inr p) = inr (h (p k))

  pub lines_walked : (k n : ℕ) (x y : Clock) → k + n ≤ N → Or x Theirs → Or y Ours
      → kept_along (lines_from vs ka ja kb ib k n) x y ≡ walked dots (λ a. keep_of (f a) (g a)) (actors_from vs k n) x y
  unfolding lines_from kept_along walked
  lines_walked k zero x y h p q = refl
  lines_walked k (suc n) x y h p q =
      let a = get_or vs k 0 in
      ap₂ cons? (ap (dot? a) (keep_same _ _ _ _ (said dots a x) (said dots a y) (or_said x Theirs a k (λ z. z (omega arith)) p) (or_said y Ours a k (λ z. z (omega arith)) q)))
      (lines_walked (k + 1) n (past dots a x) (past dots a y) (omega arith) (or_past x Theirs a p) (or_past y Ours a q))

-- ---- the invariant

abbrev pub rows_left : List ℕ → Replica → Replica → List ℕ → List ℕ → Rows → List Entry
rows_left cs A B s t w = zip entries (kept_clock cs A B) (rows_at s w.x.at w.x.left) (rows_at t w.y.at w.y.left)

pub record Rowing (cs : List ℕ) (A B : Replica) (s t : List ℕ) (m k at : ℕ) (ea eb : ℕ) (out₀ out : List ℕ) (w : Rows) : Type 0 where
  pub left : rows_at s w.x.at w.x.left ≡ drop w.x.gone A.entries
  pub right : rows_at t w.y.at w.y.left ≡ drop w.y.gone B.entries
  pub left_edge : rows_end_at s w.x.at w.x.left ≡ ea
  pub right_edge : rows_end_at t w.y.at w.y.left ≡ eb
  pub left_step : w.x.gone + w.x.left ≡ m
  pub right_step : w.y.gone + w.y.left ≡ k
  pub left_rise : Rise entry_rows (rows_at s w.x.at w.x.left)
  pub right_rise : Rise entry_rows (rows_at t w.y.at w.y.left)
  pub room : w.at ≤ at + 200 * (w.x.gone + w.y.gone)
  pub few : w.n ≤ w.x.gone + w.y.gone
  pub size : length out ≡ length out₀
  pub count : w.n + length (rows_left cs A B s t w) ≡ length (kept_entries cs A B)
  pub ends : w.at + length (encode_rows (rows_left cs A B s t w)) ≡ at + length (encode_rows (kept_entries cs A B))
  pub store : sets out w.at (encode_rows (rows_left cs A B s t w)) ≡ sets out₀ at (encode_rows (kept_entries cs A B))

keyed : (s : List ℕ) (p : ℕ) → entry_rows.key (row_at s p) ≡ u32_at s p
unfolding row_in
keyed s p = refl

length_some : (e : ℕ) (K : Clock) → length (cons? (entry? e K) []) ≤ 1
length_some e [] = omega arith
length_some e (d ∷ K) = omega arith

pub drop_tail : (es : List Entry) (i : ℕ) → tail (drop i es) ≡ drop (suc i) es
drop_tail [] zero = refl
drop_tail (e ∷ es) zero = refl
drop_tail [] (suc i) = refl
drop_tail (e ∷ es) (suc i) = drop_tail es i

-- a walk of rows goes on by as many as were met
past_drop : (es xs : List Entry) (i i' m m' low : ℕ) → xs ≡ drop i es → length xs ≡ m → i' + m' ≡ i + m → length (past entry_rows low xs) ≡ m' → past entry_rows low xs ≡ drop i' es
past_drop es [] i i' m m' low e l s p = let z : i ≡ i' = omega arith in rw z at e
past_drop es (x ∷ xs) i i' m m' low e l s p = go (eqb x.member low) p
  where
    go : (b : Bool) → length (pick b xs (x ∷ xs)) ≡ m' → pick b xs (x ∷ xs) ≡ drop i' es
    go true p = let z : suc i ≡ i' = omega arith in rw (← z) (ap tail e ∙ drop_tail es i)
    go false p = let z : i ≡ i' = omega arith in rw (← z) e

-- the lines that the turn reads for the member low
lines_at : (A : Replica) (s : List ℕ) (p m : ℕ) (vs k : List ℕ) (es : List Entry) → Side A s p m vs k es
    → (low j : ℕ) (rows : List Entry) → rows ≡ drop j es → j + length rows ≤ 64
    → Or (said entry_rows low rows) (λ i. i < length vs → get_or k (16 * (j % 64) + i) 0 ≡ line_of A low (get_or vs i 0))
lines_at A s p m vs k es h low j [] e f = inl refl
lines_at A s p m vs k es h low j (r ∷ rows) e f = go (eqb r.member low) refl
  where
    go : (b : Bool) → eqb r.member low ≡ b → Or (pick b r.clock []) (λ i. i < length vs → get_or k (16 * (j % 64) + i) 0 ≡ line_of A low (get_or vs i 0))
    go false b = inl refl
    go true b = inr (λ i l.
        let z : j % 64 ≡ j = omega arith in
        let y : r.member ≡ low = eqb-true r.member low b in
        rw (z, ← y) (h.lines j i r rows (sym e) l))

all_drop : {R : Type 0} (P : R → Type 0) (i : ℕ) (rs : List R) → All P rs → All P (drop i rs)
all_drop P zero rs h = h
all_drop P (suc i) [] h = tt
all_drop P (suc i) (r ∷ rs) h = all_drop P i rs h.1

module _ (A B : Replica) (s t vs ka kb : List ℕ) (u : Rows) (R : Ready A B s t vs ka kb u) where
  -- the turn's entry is the kept one
  turn_kept : (low : ℕ) (w : Rows) (xs ys : List Entry) → xs ≡ drop w.x.gone A.entries → ys ≡ drop w.y.gone B.entries → w.x.gone + length xs ≤ 64 → w.y.gone + length ys ≤ 64
      → turn_entry vs ka kb low w xs ys ≡ entry? low (kept_clock vs A B low (said entry_rows low xs) (said entry_rows low ys))
  unfolding kept_clock
  turn_kept low w xs ys ex ey fx fy = ap (entry? low)
      (lines_walked vs ka (16 * (w.y.gone % 64)) kb (16 * (w.x.gone % 64)) (length vs) (line_of A low) (line_of B low) 0 (length vs) (said entry_rows low xs) (said entry_rows low ys) (omega arith)
      (lines_at B t u.y.at u.y.left vs kb A.entries R.theirs low w.x.gone xs ex fx)
      (lines_at A s u.x.at u.x.left vs ka B.entries R.ours low w.y.gone ys ey fy)
      ∙ ap (λ (l : List ℕ). walked dots (λ a. keep_of (line_of A low a) (line_of B low a)) l (said entry_rows low xs) (said entry_rows low ys)) (actors_all vs))

  pub rows_begin : (out : List ℕ) → Rowing vs A B s t u.x.left u.y.left u.at (rows_end_at s u.x.at u.x.left) (rows_end_at t u.y.at u.y.left) out out u
  unfolding kept_entries
  rows_begin out = subst (λ (w : Rows). Rowing vs A B s t u.x.left u.y.left u.at (rows_end_at s u.x.at u.x.left) (rows_end_at t u.y.at u.y.left) out out w) (sym R.start) (
      let a = R.ours.rows in let b = R.theirs.rows in
      record {
        left = a;
        right = b;
        left_edge = refl;
        right_edge = refl;
        left_step = zero-add u.x.left;
        right_step = zero-add u.y.left;
        left_rise = R.ours.rise;
        right_rise = R.theirs.rise;
        room = omega arith;
        few = omega arith;
        size = refl;
        count = rw (a, b, zero-add);
        ends = rw (a, b);
        store = rw (a, b);
      })

  module _ {out₀ out : List ℕ} {w : Rows} (z : Rowing vs A B s t u.x.left u.y.left u.at (rows_end_at s u.x.at u.x.left) (rows_end_at t u.y.at u.y.left) out₀ out w) where
    pub rows_again : (out' : List ℕ) (w' : Rows) → MergedRow s t vs ka kb (min (key_ahead s w.x.at w.x.left) (key_ahead t w.y.at w.y.left)) out w out' w'
        → Rowing vs A B s t u.x.left u.y.left u.at (rows_end_at s u.x.at u.x.left) (rows_end_at t u.y.at u.y.left) out₀ out' w'
    rows_again out' w' d =
        let small = d.small in
        let low = min (key_ahead s w.x.at w.x.left) (key_ahead t w.y.at w.y.left) in
        let xs = rows_at s w.x.at w.x.left in
        let ys = rows_at t w.y.at w.y.left in
        let h = kept_clock vs A B in
        let o = entry? low (h low (said entry_rows low xs) (said entry_rows low ys)) in
        let lx = length_list_at row_at row_end s w.x.at w.x.left in
        let ly = length_list_at row_at row_end t w.y.at w.y.left in
        let ls = z.left_step in let rs = z.right_step in let fa = R.ours.few in let fb = R.theirs.few in
        let e : turn_entry vs ka kb low w xs ys ≡ o = turn_kept low w xs ys z.left z.right (omega arith) (omega arith) in
        let step : zip entries h xs ys ≡ cons? o (rows_left vs A B s t w') =
        zip_step entry_rows h 4294967296 low xs ys z.left_rise z.right_rise small (ap₂ min (front_ahead entry_rows row_at row_end keyed s w.x.at w.x.left) (front_ahead entry_rows row_at row_end keyed t w.y.at w.y.left))
        ∙ ap (cons? o) (ap₂ (zip entries h) (sym d.left) (sym d.right)) in
        let one = length_some low (h low (said entry_rows low xs) (said entry_rows low ys)) in
        let mv = d.moves in let fw = z.few in let sh = d.short in let ro = z.room in
        let cn : w'.n ≡ w.n + length (cons? o []) = rw e at d.count in
        let en : w'.at ≡ w.at + length (encode_rows (cons? o [])) = rw e at d.ends in
        let by : out' ≡ sets out w.at (encode_rows (cons? o [])) = rw e at d.bytes in
        record {
          left = d.left ∙ past_drop A.entries xs w.x.gone w'.x.gone w.x.left w'.x.left low z.left lx d.left_step (ap length (sym d.left) ∙ length_list_at row_at row_end s w'.x.at w'.x.left);
          right = d.right ∙ past_drop B.entries ys w.y.gone w'.y.gone w.y.left w'.y.left low z.right ly d.right_step (ap length (sym d.right) ∙ length_list_at row_at row_end t w'.y.at w'.y.left);
          left_edge = d.left_edge ∙ z.left_edge;
          right_edge = d.right_edge ∙ z.right_edge;
          left_step = d.left_step ∙ z.left_step;
          right_step = d.right_step ∙ z.right_step;
          left_rise = rw d.left (rise_past entry_rows low xs z.left_rise);
          right_rise = rw d.right (rise_past entry_rows low ys z.right_rise);
          room = omega arith;
          few = omega arith;
          size = ap length by ∙ length-sets out w.at (encode_rows (cons? o [])) ∙ z.size;
          count = let f = length_cons encode_row o (rows_left vs A B s t w') in let g = ap length step in let c = z.count in omega arith;
          ends = let f : length (encode_rows (cons? o (rows_left vs A B s t w'))) ≡ length (encode_rows (cons? o [])) + length (encode_rows (rows_left vs A B s t w')) = ap length (bytes_cons encode_row o (rows_left vs A B s t w')) ∙ simp length-append in
              let g = ap (λ (l : List Entry). length (encode_rows l)) step in let c = z.ends in omega arith;
          store = rw (by, en) (wrote encode_row out w.at o (rows_left vs A B s t w')) ∙ ap (λ (l : List Entry). sets out w.at (encode_rows l)) (sym step) ∙ z.store;
        }

    pub rows_end : w.x.left + w.y.left ≡ 0 → WroteRows out₀ u.at (kept_entries vs A B) out w.n w.at
    unfolding list_at bytes_of
    rows_end e =
        let em : w.x.left ≡ 0 = omega arith in
        let ek : w.y.left ≡ 0 = omega arith in
        let fw = z.few in let ro = z.room in let ls = z.left_step in let rs = z.right_step in let fa = R.ours.few in let fb = R.theirs.few in
        let nil : rows_left vs A B s t w ≡ [] = rw (em, ek) (zip_nil entries (kept_clock vs A B)) in
        record {
          count = rw (nil, add-zero) at z.count;
          ends = rw (nil, add-zero) at z.ends;
          few = omega arith;
          room = omega arith;
          bytes = rw nil at z.store;
        }
