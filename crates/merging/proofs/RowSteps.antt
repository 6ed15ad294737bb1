-- One turn of the loop over the entries of two images: what is read of each side, and what is written.
use Prim.Native.Nat.{ℕ, zero, suc, ◌+◌, ◌*◌, ◌-◌, ◌%◌, ◌≤◌, ◌<◌, min}
use mathlib.Core.Path.{◌≡◌, refl, sym, ap, ap₂, ◌∙◌, subst}
use mathlib.Core.Bool.{Bool, true, false}
use mathlib.Core.List.{List, [], ◌∷◌, ◌++◌, append_assoc}
use native.Mathlib.Omega.{arith}
use native.Mathlib.Nat.{add-zero, add-suc, suc-add}
use lib.Dec.{eqb}
use lib.ListN.{length, set, take, drop, length-append}
use lib.Seq.{sets, set_comm}
use borrow.Author.Tests.{eq-eqb, ne_eqb}
use Rattle.tables.specs.Table.{pick, cons?}
use Rattle.tables.specs.Walk.{walked}
use Rattle.tables.specs.Zip.{said, past, by_lt}
use Rattle.dots.specs.Clock.{Clock}
use Rattle.replica.specs.Replica.{Entry, entry?, entry_rows}
use Rattle.layout.specs.Fields.{u32_at, le32}
use Rattle.layout.proofs.FieldsFacts.{length_le32}
use Rattle.layout.specs.Lists.{list_at, end_after, bytes_of}
use Rattle.layout.specs.Clock.{dots_at, encode_dots, clock_in, clock_end_in, encode_clock_in}
use Rattle.layout.specs.Rows.{row_in, row_end_in, row_at, row_end, rows_at, rows_end_at, encode_rows, encode_row_in}
use Rattle.merging.specs.declared.entries.Dots.{Dots}
use Rattle.merging.specs.declared.entries.Hand.{Hand}
use Rattle.merging.specs.declared.entries.Rows.{Rows}
use Rattle.merging.specs.Ahead.{key_ahead, hits, Met, said_ahead, past_ahead}
use Rattle.merging.specs.Keeping.{KeptDots, Line, lines_from, kept_along}
use Rattle.changing.specs.Kept.{met_along}
use Rattle.merging.specs.Rowing.{Goes, RowsAhead, TookRow, MergedRow}
use Rattle.merging.proofs.AheadSteps.{met_none, met_yes, met_no}
use Rattle.merging.proofs.KeepSteps.{length_dots}
use Rattle.merging.proofs.WholeSteps.{lines_part}

-- ---- a run of stores before another

sets_set : (l : List ℕ) (i j x : ℕ) (ys : List ℕ) → i < j → sets (set l i x) j ys ≡ set (sets l j ys) i x
sets_set l i j x [] h = refl
sets_set l i j x (y ∷ ys) h = ap (λ (m : List ℕ). sets m (suc j) ys) (set_comm l i j x y (λ e. omega arith)) ∙ sets_set (set l j y) i (suc j) x ys (omega arith)

pub sets_before : (l : List ℕ) (i : ℕ) (xs ys : List ℕ) → sets (sets l (i + length xs) ys) i xs ≡ sets l i (xs ++ ys)
sets_before l i [] ys = rw add-zero
sets_before l i (x ∷ xs) ys =
    ap (λ (m : List ℕ). sets m (suc i) xs) (sym (sets_set l i (i + suc (length xs)) x ys (omega arith)))
    ∙ ap (λ (j : ℕ). sets (sets (set l i x) j ys) (suc i) xs) (add-suc i (length xs) ∙ sym (suc-add i (length xs)))
    ∙ sets_before (set l i x) (suc i) xs ys

-- ---- one side

keyed : (s : List ℕ) (p : ℕ) → entry_rows.key (row_at s p) ≡ u32_at s p
unfolding row_in
keyed s p = refl

pub row_end_is : (s : List ℕ) (p : ℕ) → row_end s p ≡ p + 8 + 12 * u32_at s (p + 4)
unfolding row_end_in clock_end_in
row_end_is s p = omega arith

pub end_ge : (s : List ℕ) (p m : ℕ) → p ≤ rows_end_at s p m
unfolding end_after
end_ge s p zero = omega arith
end_ge s p (suc m) = let h = end_ge s (row_end s p) m in let e = row_end_is s p in omega arith

end_suc : (s : List ℕ) (p m : ℕ) → rows_end_at s (row_end s p) m ≡ rows_end_at s p (suc m)
unfolding end_after
end_suc s p m = refl

end_step : (s : List ℕ) (p m : ℕ) → row_end s p ≤ rows_end_at s p (suc m)
unfolding end_after
end_step s p m = end_ge s (row_end s p) m

-- the row at p of m, where the member low is met (i = 1), has xs dots
pub record RowSide (s : List ℕ) (p m low i xs : ℕ) : Type 0 where
  pub one : i ≤ 1
  pub fits : i ≤ m
  pub start : p ≤ rows_end_at s p m
  pub room : p + 8 * i + 12 * xs ≤ rows_end_at s p m
  pub rows : rows_at s (p + 8 * i + 12 * xs) (m - i) ≡ past entry_rows low (rows_at s p m)
  pub edge : rows_end_at s (p + 8 * i + 12 * xs) (m - i) ≡ rows_end_at s p m
  pub dots : dots_at s (p + 8 * i) xs ≡ said entry_rows low (rows_at s p m)

side_by : (s : List ℕ) (p m low : ℕ) → low < 4294967296 → (b : Bool) → eqb (key_ahead s p m) low ≡ b → pick b 1 0 ≤ m
    → RowSide s p m low (pick b 1 0) (pick (eqb (pick b 1 0) 0) 0 (u32_at s (p + 4)))
unfolding row_in clock_in list_at
side_by s p m low small false e f =
    let z : p + 8 * 0 + 12 * 0 ≡ p = omega arith in
    let y : m - 0 ≡ m = omega arith in
    let g = end_ge s p m in
    record {
      one = omega arith;
      fits = omega arith;
      start = g;
      room = omega arith;
      rows = rw (z, y) (sym (past_ahead entry_rows row_at row_end keyed s p low small m ∙ rw e (rw y)));
      edge = rw (z, y);
      dots = sym (said_ahead entry_rows row_at row_end keyed s p low small m ∙ rw e);
    }
side_by s p zero low small true e f = absurd (omega arith)
side_by s p (suc m) low small true e f =
    let z : p + 8 * 1 + 12 * u32_at s (p + 4) ≡ row_end s p = let q = row_end_is s p in omega arith in
    let y : suc m - 1 ≡ m = omega arith in
    let w : p + 4 + 4 ≡ p + 8 = omega arith in
    let g = end_ge s (row_end s p) m in
    let q = row_end_is s p in
    record {
      one = omega arith;
      fits = omega arith;
      start = end_ge s p (suc m);
      room = rw z (end_step s p m);
      rows = rw z (sym (past_ahead entry_rows row_at row_end keyed s p low small (suc m) ∙ rw e));
      edge = rw (z, y) (end_suc s p m);
      dots = sym (said_ahead entry_rows row_at row_end keyed s p low small (suc m) ∙ rw (e, w));
    }

pub row_side : (s : List ℕ) (p m low i xs : ℕ) → low < 4294967296 → Met s p m low i → xs ≡ pick (eqb i 0) 0 (u32_at s (p + 4)) → RowSide s p m low i xs
row_side s p m low i xs small h e =
    let q = h.is small in
    rw (e, q) (side_by s p m low small (eqb (key_ahead s p m) low) refl (rw q at h.fits))

-- a walk along the actors meets all dots of the row
meets_none : (cs : List ℕ) → met_along cs [] ≡ []
unfolding walked
meets_none [] = refl
meets_none (c ∷ cs) = meets_none cs

goes_said : (cs : List ℕ) (low : ℕ) (es : List Entry) → Goes cs es → met_along cs (said entry_rows low es) ≡ said entry_rows low es
goes_said cs low [] g = meets_none cs
goes_said cs low (e ∷ es) g = go (eqb e.member low)
  where
    go : (b : Bool) → met_along cs (pick b e.clock []) ≡ pick b e.clock []
    go true = g.0
    go false = meets_none cs

pub row_goes : (cs s : List ℕ) (low : ℕ) (h h' : Hand) (d : Dots) → RowsAhead s h.at h.left cs → TookRow s low h h' d → met_along cs (dots_at s d.at d.left) ≡ dots_at s d.at d.left
row_goes cs s low h h' d r t = rw t.dots (goes_said cs low (rows_at s h.at h.left) r.goes)

-- ---- a step of a hand

-- the next row ends inside
pub row_inside : (s : List ℕ) (p m : ℕ) → 0 < m → p + 8 + 12 * u32_at s (p + 4) ≤ rows_end_at s p m
row_inside s p zero h = absurd (omega arith)
row_inside s p (suc m) h = let e = row_end_is s p in let f = end_step s p m in omega arith

module _ (s : List ℕ) (low : ℕ) (h : Hand) (small : low < 4294967296) where
  took_row : (h' : Hand) (d : Dots) (i : ℕ) → Met s h.at h.left low i → d.at ≡ h.at + 8 * i → d.left ≡ pick (eqb i 0) 0 (u32_at s (h.at + 4))
      → h'.at ≡ h.at + 8 * i + 12 * d.left → h'.left ≡ h.left - i → h'.gone ≡ h.gone + i → TookRow s low h h' d
  took_row h' d i m da dl ha hl hg =
      let a = row_side s h.at h.left low i d.left small m dl in
      let f = a.fits in
      record {
        rows = rw (ha, hl) a.rows;
        edge = rw (ha, hl) a.edge;
        dots = rw da a.dots;
        inside = rw da a.room;
        step = omega arith;
        on = omega arith;
        hit = λ e. let one : ◌≡◌ {A = ℕ} i 1 = m.is small ∙ rw (eq-eqb (key_ahead s h.at h.left) low e) in omega arith;
      }

  pub row_none : h.left ≡ 0 → TookRow s low h h (record { at = h.at; left = 0 })
  row_none e = took_row h (record { at = h.at; left = 0 }) 0 (met_none s h.at h.left low small e) (omega arith) refl (omega arith) (omega arith) (omega arith)

  pub row_other : (h.left ≡ 0 → ⊥) → (u32_at s h.at ≡ low → ⊥) → TookRow s low h h (record { at = h.at; left = 0 })
  row_other g e = took_row h (record { at = h.at; left = 0 }) 0 (met_no s h.at h.left low small g e) (omega arith) refl (omega arith) (omega arith) (omega arith)

  pub row_this : (h.left ≡ 0 → ⊥) → u32_at s h.at ≡ low → (h' : Hand) (d : Dots) → d.at ≡ h.at + 8 → d.left ≡ u32_at s (h.at + 4) → h'.at ≡ h.at + 8 + 12 * d.left → h'.left + 1 ≡ h.left → h'.gone ≡ h.gone + 1
      → TookRow s low h h' d
  row_this g e h' d da dl ha hl hg = took_row h' d 1 (met_yes s h.at h.left low small g e) (omega arith) dl (omega arith) (omega arith) hg

-- one of the two sides is met
pub met_one : (s : List ℕ) (p m : ℕ) (t : List ℕ) (q k low i j : ℕ) → low ≡ min (key_ahead s p m) (key_ahead t q k) → low < 4294967296 → Met s p m low i → Met t q k low j → 0 < i + j
met_one s p m t q k low i j e small a b =
    let x = a.is small in
    let y = b.is small in
    by_lt (key_ahead s p m) (key_ahead t q k)
    (λ h. let z : ◌≡◌ {A = ℕ} (hits (key_ahead s p m) low) 1 = rw (eq-eqb (key_ahead s p m) low (omega arith)) in omega arith)
    (λ h. let z : ◌≡◌ {A = ℕ} (hits (key_ahead t q k) low) 1 = rw (eq-eqb (key_ahead t q k) low (omega arith)) in omega arith)

-- ---- the row that is written

pub record RowPut (out : List ℕ) (at low : ℕ) (K : Clock) (out' : List ℕ) (long n : ℕ) : Type 0 where
  pub count : n ≡ length (cons? (entry? low K) [])
  pub ends : long ≡ length (encode_rows (cons? (entry? low K) []))
  pub bytes : out' ≡ sets out at (encode_rows (cons? (entry? low K) []))

append-nil : (l : List ℕ) → l ++ [] ≡ l
append-nil [] = refl
append-nil (x ∷ l) = ap (λ (r : List ℕ). x ∷ r) (append-nil l)

pub row_put : (out : List ℕ) (at low : ℕ) (K : Clock) (c : ℕ) (out' out'' : List ℕ) → KeptDots out (at + 8) K out' c
    → out'' ≡ sets out' at (pick (eqb c 0) [] (le32 low ++ le32 c)) → RowPut out at low K out'' (pick (eqb c 0) 0 (8 + 12 * c)) (pick (eqb c 0) 0 1)
unfolding bytes_of encode_row_in encode_clock_in
row_put out at low [] c out' out'' k e = let z = k.count in rw z (record { count = refl; ends = refl; bytes = (rw z at e) ∙ k.bytes })
row_put out at low (d ∷ K) c out' out'' k e =
    let z = k.count in
    let y = ne_eqb (suc (length K)) 0 (λ x. omega arith) in
    let l : length (le32 low ++ le32 (suc (length K))) ≡ 8 = simp (length-append, length_le32) in
    let f : out'' ≡ sets out at ((le32 low ++ le32 (suc (length K))) ++ encode_dots (d ∷ K)) =
    (rw (z, y) at e) ∙ ap (λ (m : List ℕ). sets m at (le32 low ++ le32 (suc (length K)))) (k.bytes ∙ ap (λ (j : ℕ). sets out (at + j) (encode_dots (d ∷ K))) (sym l))
    ∙ sets_before out at (le32 low ++ le32 (suc (length K))) (encode_dots (d ∷ K)) in
    let r : encode_rows (cons? (entry? low (d ∷ K)) []) ≡ (le32 low ++ le32 (suc (length K))) ++ encode_dots (d ∷ K) =
    append-nil (le32 low ++ (le32 (suc (length K)) ++ encode_dots (d ∷ K))) ∙ sym (append_assoc (le32 low) (le32 (suc (length K))) (encode_dots (d ∷ K))) in
    let h = length_dots (d ∷ K) in
    rw (z, y) (record { count = refl; ends = rw r (sym (length-append (le32 low ++ le32 (suc (length K))) (encode_dots (d ∷ K)) ∙ ap₂ ◌+◌ l h)); bytes = f ∙ ap (sets out at) (sym r) })

-- ---- the turn

module _ (s t vs ka kb out : List ℕ) (w : Rows) (low : ℕ) (least : low ≡ min (key_ahead s w.x.at w.x.left) (key_ahead t w.y.at w.y.left)) (small : low < 4294967296) where
  pub merged_row : (x' y' : Hand) (dx dy : Dots) (c : ℕ) (mid out' : List ℕ) (w' : Rows) → TookRow s low w.x x' dx → TookRow t low w.y y' dy
      → c ≤ 16 → KeptDots out (w.at + 8) (kept_along (lines_from vs ka (16 * (w.y.gone % 64)) kb (16 * (w.x.gone % 64)) 0 (length vs)) (dots_at s dx.at dx.left) (dots_at t dy.at dy.left)) mid c
      → w'.x ≡ x' → w'.y ≡ y' → w'.at ≡ w.at + pick (eqb c 0) 0 (8 + 12 * c) → w'.n ≡ w.n + pick (eqb c 0) 0 1 → out' ≡ sets mid w.at (pick (eqb c 0) [] (le32 low ++ le32 c))
      → MergedRow s t vs ka kb (min (key_ahead s w.x.at w.x.left) (key_ahead t w.y.at w.y.left)) out w out' w'
  merged_row x' y' dx dy c mid out' w' a b cf kd ex ey el en eo =
      let kd' = rw (a.dots, b.dots) at kd in
      let r = row_put out w.at low _ c mid out' kd' eo in
      let ax = a.on in let bx = b.on in let sx = a.step in let sy = b.step in
      subst (λ (l : ℕ). MergedRow s t vs ka kb l out w out' w') least record {
        small = small;
        left = rw ex a.rows;
        right = rw ey b.rows;
        left_edge = rw ex a.edge;
        right_edge = rw ey b.edge;
        left_step = rw ex sx;
        right_step = rw ey sy;
        moves = rw (ex, ey) (by_lt (key_ahead s w.x.at w.x.left) (key_ahead t w.y.at w.y.left) (λ h. let g = a.hit (omega arith) in omega arith) (λ h. let g = b.hit (omega arith) in omega arith));
        count = en ∙ ap (λ (x : ℕ). w.n + x) r.count;
        ends = el ∙ ap (λ (x : ℕ). w.at + x) r.ends;
        short = rw el (short (eqb c 0) c cf);
        bytes = r.bytes;
      }
    where
      short : (b : Bool) (c : ℕ) → c ≤ 16 → w.at + pick b 0 (8 + 12 * c) ≤ w.at + 200
      short true c h = omega arith
      short false c h = omega arith

-- ---- numbers of the turn

-- a part of 16 numbers of each side's lines serves as the lines from its place on
pub part_kept : (vs ka : List ℕ) (a : ℕ) (kb : List ℕ) (b : ℕ) → length vs ≤ 16 → (out : List ℕ) (p : ℕ) (x y : Clock) (out' : List ℕ) (c : ℕ)
    → KeptDots out p (kept_along (lines_from vs (take (a + 16 - a) (drop a ka)) 0 (take (b + 16 - b) (drop b kb)) 0 0 (length vs)) x y) out' c → KeptDots out p (kept_along (lines_from vs ka a kb b 0 (length vs)) x y) out' c
part_kept vs ka a kb b few out p x y out' c k =
    let e = lines_part vs ka a (a + 16 - a) kb b (b + 16 - b) 0 (length vs) (omega arith) (omega arith) in
    subst (λ (ls : List Line). KeptDots out p (kept_along ls x y) out' c) e k

pub head_short : (c long : ℕ) → c ≤ 16 → long ≡ pick (eqb c 0) 0 (8 + 12 * c) → long ≤ 200
head_short c long h e = rw e (go (eqb c 0))
  where
    go : (b : Bool) → pick b 0 (8 + 12 * c) ≤ 200
    go true = omega arith
    go false = omega arith
