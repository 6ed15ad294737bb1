-- What stays of one image's entries beside a side that has none: a line's reach, the dots of an entry, one row.
use Prim.Native.Nat.{ℕ, zero, suc, ◌+◌, ◌*◌, ◌-◌, ◌≤◌, ◌<◌}
use mathlib.Core.Path.{◌≡◌, refl, sym, ap, ◌∙◌, subst}
use mathlib.Core.Logic.{inl}
use mathlib.Core.Bool.{Bool, true, false}
use mathlib.Core.Option.{Option, none, some}
use mathlib.Core.List.{List, [], ◌∷◌}
use native.Mathlib.Omega.{arith}
use native.Mathlib.Nat.{zero-add}
use native.Mathlib.Numerals.{add-one}
use lib.Dec.{eqb}
use lib.ListN.{length, get_or, take, drop, length-append, length-take}
use lib.Seq.{sets, slice, get_or-take}
use Rattle.std.proofs.Common.{length-drop}
use Rattle.tables.specs.Table.{pick, cons?}
use Rattle.tables.specs.Zip.{past, tail}
use Rattle.tables.specs.Walk.{walked, length_walked}
use Rattle.dots.specs.declared.Dot.{Dot}
use Rattle.dots.specs.Dot.{dots, dot?, actor_of}
use Rattle.dots.specs.Clock.{Clock}
use Rattle.replica.specs.Replica.{Entry, entry?}
use Rattle.layout.specs.Fields.{Bytes, u32_at}
use Rattle.layout.specs.Lists.{list_at, end_after}
use Rattle.layout.specs.Clock.{narrow, dot_end_in, dot_at, dots_at, encode_dots, clock_in}
use Rattle.layout.specs.Rows.{row_in, row_end, rows_at, rows_end_at, encode_row, encode_rows}
use Rattle.layout.proofs.Form.{length_list_at}
use Rattle.merging.specs.declared.entries.Dots.{Dots}
use Rattle.merging.specs.declared.entries.Hand.{Hand}
use Rattle.merging.specs.declared.entries.Places.{Places}
use Rattle.merging.specs.declared.entries.Rows.{Rows}
use Rattle.changing.specs.Kept.{met_along}
use Rattle.merging.specs.Ahead.{wrote, length_cons, bytes_cons}
use Rattle.merging.specs.Keeping.{KeptDot, KeptDots, Line, lines_from, kept_along, Above}
use Rattle.merging.specs.Rowing.{RowsAhead}
use Rattle.merging.specs.Sifting.{line_for, Reach, sifted, sifted_rows, rows_ahead, Moved, Sifted}
use Rattle.merging.proofs.KeepSteps.{Keeping, keep_begin, keep_again}
use Rattle.merging.proofs.WholeSteps.{actors_from, actors_all, above_left, above_more, stays_left, lines_part, dots_slice, none_there}
use Rattle.merging.proofs.RowSteps.{row_end_is, end_ge, RowPut, head_short}

-- ---- a line's reach

-- a line of entry i lies inside
pub line_room : (own : Bool) (i size : ℕ) → i < 64 → pick own 1024 16 ≤ size → line_for own i + 16 ≤ size
line_room true i size h w = omega arith
line_room false i size h w = omega arith

-- the line of entry i
module _ (l : List ℕ) (own : Bool) (i : ℕ) (line : List ℕ) (e : line ≡ take 16 (drop (line_for own i) l)) where
  pub line_long : i < 64 → pick own 1024 16 ≤ length l → length line ≡ 16
  line_long h w = let r = line_room own i (length l) h w in rw e (simp (length-take, length-drop) (omega arith))

  -- has the numbers of its place
  pub line_sifted : (vs : List ℕ) (x : Clock) → length vs ≤ 16 → sifted vs line 0 x ≡ sifted vs l (line_for own i) x
  line_sifted vs x few = rw e (ap (λ (ls : List Line). kept_along ls x []) (lines_part vs l (line_for own i) 16 l (line_for own i) 16 0 (length vs) (omega arith) (omega arith)))

  pub line_kept : (vs : List ℕ) → length vs ≤ 16 → (x : Clock) (out : List ℕ) (p : ℕ) (out' : List ℕ) (c : ℕ) → KeptDots out p (sifted vs line 0 x) out' c → KeptDots out p (sifted vs l (line_for own i) x) out' c
  line_kept vs few x out p out' c k = subst (λ (ds : Clock). KeptDots out p ds out' c) (line_sifted vs x few) k

  -- and reaches as far as the one for all, where there is one
  pub line_reach : (n h : ℕ) → n ≤ 16 → own ≡ false → Reach l 0 n h → Reach line 0 n h
  line_reach n h few o r = record {
    within = r.within;
    zeros = λ j a b. let z = r.zeros j a b in rw (e, o, zero-add) (get_or-take 16 l j 0 (omega arith) ∙ rw zero-add at z);
  }

-- an entry whose dots are above the line as far as it reaches stays whole
pub reach_stays : (vs l : List ℕ) (h : ℕ) (x : Clock) → Reach l 0 (length vs) h → met_along vs x ≡ x → Above vs l 0 0 h x → sifted vs l 0 x ≡ x
reach_stays vs l h x r m a = stays_left vs l 0 l 0 x [] m (inl (refl, above_more vs l 0 0 h (length vs) x (λ i p q. r.zeros i (omega arith) (omega arith)) r.within a))

-- ---- the dots of an entry

met_few : (cs : List ℕ) (x : Clock) → length (met_along cs x) ≤ length x
unfolding walked
met_few [] x = omega arith
met_few (a ∷ cs) [] = met_few cs []
met_few (a ∷ cs) (d ∷ x) = go (eqb (actor_of d) a) d.counter (met_few cs x) (met_few cs (d ∷ x))
  where
    one : (o : Option Dot) (c : Clock) → length (cons? o c) ≤ suc (length c)
    one none c = omega arith
    one (some r) c = omega arith

    go : (b : Bool) (n : ℕ) → length (met_along cs x) ≤ length x → length (met_along cs (d ∷ x)) ≤ suc (length x) → length (cons? (dot? a (pick b n 0)) (met_along cs (pick b x (d ∷ x)))) ≤ suc (length x)
    go true n p q = let o = one (dot? a n) (met_along cs x) in omega arith
    go false n p q = q

-- what a walk meets after one actor
met_past : (a : ℕ) (cs : List ℕ) (x : Clock) → met_along (a ∷ cs) x ≡ x → met_along cs (past dots a x) ≡ past dots a x
unfolding walked
met_past a cs [] e = e
met_past a cs (d ∷ x) e = go (eqb (actor_of d) a) d.counter e
  where
    go : (b : Bool) (n : ℕ) → cons? (dot? a (pick b n 0)) (met_along cs (pick b x (d ∷ x))) ≡ d ∷ x → met_along cs (pick b x (d ∷ x)) ≡ pick b x (d ∷ x)
    go true zero e = let l = ap length e in let f = met_few cs x in absurd (omega arith)
    go true (suc n) e = ap tail e
    go false n e = e

length_actors : (vs : List ℕ) (k n : ℕ) → length (actors_from vs k n) ≡ n
length_actors vs k zero = refl
length_actors vs k (suc n) = ap suc (length_actors vs (k + 1) n)

-- the walk along a line stands before actor j
pub record Along (s vs l : List ℕ) (p e : ℕ) (out₀ : List ℕ) (whole : Clock) (out : List ℕ) (k : Places) (j : ℕ) : Type 0 where
  pub keeping : Keeping s s vs l 0 l 0 (length vs) p e 0 out₀ whole out k j
  pub alone : dots_at s k.y.at k.y.left ≡ []
  pub met : met_along (actors_from vs j (length vs - j)) (dots_at s k.x.at k.x.left) ≡ dots_at s k.x.at k.x.left

pub along_begin : (s vs l : List ℕ) (p : ℕ) (x : Dots) (out : List ℕ) → met_along vs (dots_at s x.at x.left) ≡ dots_at s x.at x.left
    → Along s vs l p (x.at + 12 * x.left) out (sifted vs l 0 (dots_at s x.at x.left)) out (record { x = x; y = record { at = 0; left = 0 }; n = 0 }) 0
along_begin s vs l p x out m =
    let e : dots_at s 0 0 ≡ [] = none_there s 0 0 refl in
    let z : length vs - 0 ≡ length vs = omega arith in
    record {
      keeping = rw e at (keep_begin s s vs l 0 l 0 (length vs) p (record { x = x; y = record { at = 0; left = 0 }; n = 0 }) out refl);
      alone = e;
      met = rw (z, actors_all vs) m;
    }

module _ {s vs l : List ℕ} {p e : ℕ} {out₀ : List ℕ} {whole : Clock} {out : List ℕ} {k : Places} {j : ℕ} (z : Along s vs l p e out₀ whole out k j) where
  pub along_again : j < length vs → (out' : List ℕ) (k' : Places) → KeptDot s s (get_or vs j 0) (get_or l j 0) (get_or l j 0) out p k out' k' → Along s vs l p e out₀ whole out' k' (j + 1)
  along_again lt out' k' d =
      let m : length vs - j ≡ suc (length vs - (j + 1)) = omega arith in
      record {
        keeping = keep_again z.keeping lt out' k' (rw zero-add d);
        alone = d.right ∙ ap (past dots (get_or vs j 0)) z.alone;
        met = rw d.left (met_past (get_or vs j 0) (actors_from vs (j + 1) (length vs - (j + 1))) (dots_at s k.x.at k.x.left) (rw m at z.met));
      }

  -- past the line's reach the rest stays
  pub along_end : Reach l 0 (length vs) j → Bytes s → e ≤ length s → (out' : List ℕ) → out' ≡ sets out (p + 12 * k.n) (slice k.x.at (k.x.at + 12 * k.x.left) s)
      → (k.n + k.x.left ≤ length vs) × KeptDots out₀ p whole out' (k.n + k.x.left)
  unfolding Above
  along_end r b room out' o =
      let n = length vs in
      let x = dots_at s k.x.at k.x.left in
      let within = r.within in
      let edge = z.keeping.left_edge in
      let a = above_more vs l 0 j 0 (n - j) x (λ i p q. r.zeros i (omega arith) (omega arith)) (omega arith) tt in
      let rest : kept_along (lines_from vs l 0 l 0 j (n - j)) x (dots_at s k.y.at k.y.left) ≡ x = rw z.alone (above_left vs l 0 l 0 j (n - j) x a ∙ z.met) in
      let long : length x ≡ k.x.left = length_list_at dot_at (dot_end_in narrow) s k.x.at k.x.left in
      let few : length x ≤ n - j = let w = length_walked dots (λ a u w. u) (actors_from vs j (n - j)) x [] in let g = ap length z.met in let v = length_actors vs j (n - j) in omega arith in
      let c : k.n + length x ≡ length whole = rw rest at z.keeping.count in
      let t : sets out (p + 12 * k.n) (encode_dots x) ≡ sets out₀ p (encode_dots whole) = rw rest at z.keeping.store in
      let kn = z.keeping.few in (
        omega arith,
        record {
          count = omega arith;
          bytes = o ∙ ap (sets out (p + 12 * k.n)) (dots_slice s k.x.at k.x.left b (omega arith)) ∙ t;
        },
      )

-- ---- one row

pub record FirstRow (s : List ℕ) (p m xs : ℕ) (cs : List ℕ) : Type 0 where
  pub rows : rows_at s p m ≡ record { member = u32_at s p; clock = dots_at s (p + 8) xs } ∷ rows_at s (p + 8 + 12 * xs) (m - 1)
  pub edge : rows_end_at s (p + 8 + 12 * xs) (m - 1) ≡ rows_end_at s p m
  pub inside : p + 8 + 12 * xs ≤ length s
  pub small : p + 8 + 12 * xs < 4294967296
  pub met : met_along cs (dots_at s (p + 8) xs) ≡ dots_at s (p + 8) xs
  pub few : xs ≤ length cs

pub first_row : (s : List ℕ) (p m xs : ℕ) (cs : List ℕ) → 0 < m → xs ≡ u32_at s (p + 4) → RowsAhead s p m cs → FirstRow s p m xs cs
unfolding row_in clock_in list_at end_after
first_row s p zero xs cs h e a = absurd (omega arith)
first_row s p (suc m) xs cs h e a =
    let q : row_end s p ≡ p + 8 + 12 * xs = let f = row_end_is s p in omega arith in
    let i : p + 4 + 4 ≡ p + 8 = omega arith in
    let y : suc m - 1 ≡ m = omega arith in
    let g = end_ge s (row_end s p) m in
    let room = a.room in let edge = a.edge in
    let met : met_along cs (dots_at s (p + 8) xs) ≡ dots_at s (p + 8) xs = rw (i, ← e) at a.goes.0 in
    let w = length_walked dots (λ a u w. u) cs (dots_at s (p + 8) xs) [] in
    let l = length_list_at dot_at (dot_end_in narrow) s (p + 8) xs in
    let f = ap length met in
    record {
      rows = rw (i, ← e, y, q);
      edge = rw (y, q);
      inside = omega arith;
      small = omega arith;
      met = met;
      few = omega arith;
    }

-- a hand after the next row
pub next_hand : (h h' : Hand) (xs : ℕ) → h'.at ≡ h.at + 8 + 12 * xs → h'.left + 1 ≡ h.left → h'.gone ≡ h.gone + 1 → h' ≡ record { at = h.at + 8 + 12 * xs; left = h.left - 1; gone = h.gone + 1 }
next_hand h h' xs ea el eg = let f : h'.left ≡ h.left - 1 = omega arith in λ i. record { at = ea i; left = f i; gone = eg i }

-- the head of the next row lies inside
pub head_inside : (s : List ℕ) (p m : ℕ) (cs : List ℕ) → 0 < m → RowsAhead s p m cs → (p + 8 ≤ length s) × (p < 4294967296)
head_inside s p m cs h a = let r = first_row s p m (u32_at s (p + 4)) cs h refl a in let i = r.inside in let e = r.small in (omega arith, omega arith)

module _ (s vs l : List ℕ) (own : Bool) (w : Rows) (xs : ℕ) (r : FirstRow s w.x.at w.x.left xs vs) (any : 0 < w.x.left) where
  -- what stays of it
  abbrev pub row_of : Option Entry
  row_of = entry? (u32_at s w.x.at) (sifted vs l (line_for own w.x.gone) (dots_at s (w.x.at + 8) xs))

  abbrev pub row_past : ℕ → ℕ → Rows
  row_past long one = record w { x = record { at = w.x.at + 8 + 12 * xs; left = w.x.left - 1; gone = w.x.gone + 1 }; at = w.at + long; n = w.n + one }

  pub ahead_step : (long one : ℕ) → rows_ahead s vs l own w ≡ cons? row_of (rows_ahead s vs l own (row_past long one))
  unfolding sifted_rows
  ahead_step long one = rw (r.rows, add-one)

  pub row_moved : (long one : ℕ) → long ≤ 200 → one ≡ length (cons? row_of []) → Moved s vs l own w (row_past long one)
  row_moved long one short e =
      let a = length_cons encode_row row_of (rows_ahead s vs l own (row_past long one)) in
      let g = ap length (ahead_step long one) in
      let o = row_one row_of in
      record {
        edge = r.edge;
        goes = λ h. (rw r.rows at h).1;
        step = omega arith;
        on = omega arith;
        room = omega arith;
        few = omega arith;
        count = omega arith;
      }
    where
      row_one : (o : Option Entry) → length (cons? o []) ≤ 1
      row_one none = omega arith
      row_one (some e) = omega arith

  pub row_sifted : (out out' : List ℕ) (long one : ℕ) → long ≤ 200 → RowPut out w.at (u32_at s w.x.at) (sifted vs l (line_for own w.x.gone) (dots_at s (w.x.at + 8) xs)) out' long one
      → Sifted s vs l own out w out' (row_past long one)
  row_sifted out out' long one short put =
      let rest = rows_ahead s vs l own (row_past long one) in
      let step = ahead_step long one in
      record {
        moved = row_moved long one short put.count;
        ends = let f : length (encode_rows (cons? row_of rest)) ≡ length (encode_rows (cons? row_of [])) + length (encode_rows rest) = ap length (bytes_cons encode_row row_of rest) ∙ simp length-append in
            let g = ap (λ (es : List Entry). length (encode_rows es)) step in let q = put.ends in omega arith;
        store = rw (put.bytes, put.ends) (wrote encode_row out w.at row_of rest) ∙ ap (λ (es : List Entry). sets out w.at (encode_rows es)) (sym step);
      }

-- the row that a turn writes, as its numbers have it
module _ {s vs l : List ℕ} {own : Bool} (w : Rows) {xs : ℕ} (r : FirstRow s w.x.at w.x.left xs vs) (any : 0 < w.x.left) (w' : Rows) (c : ℕ) (few : c ≤ 16) where
  pub row_written : {h' : Hand} → h' ≡ record { at = w.x.at + 8 + 12 * xs; left = w.x.left - 1; gone = w.x.gone + 1 } → w'.x ≡ h' → w'.y ≡ w.y → w'.at ≡ w.at + pick (eqb c 0) 0 (8 + 12 * c) → w'.n ≡ w.n + pick (eqb c 0) 0 1
      → {out out' : List ℕ} → RowPut out w.at (u32_at s w.x.at) (sifted vs l (line_for own w.x.gone) (dots_at s (w.x.at + 8) xs)) out' (pick (eqb c 0) 0 (8 + 12 * c)) (pick (eqb c 0) 0 1)
      → (w.x.gone < w'.x.gone) × Sifted s vs l own out w out' w'
  row_written eh ex ey el en {out} {out'} put =
      let e : w' ≡ row_past s vs l own w xs r any (pick (eqb c 0) 0 (8 + 12 * c)) (pick (eqb c 0) 0 1) = λ i. record { x = (ex ∙ eh) i; y = ey i; at = el i; n = en i } in
      rw e (omega arith, row_sifted s vs l own w xs r any out out' _ _ (head_short c _ few refl) put)
