-- What stays of one image's entries beside a side that has none: the rows ahead, a run of rows that stay as they are, and what all of it is.
use Prim.Native.Nat.{ℕ, suc, ◌+◌, ◌*◌, ◌-◌, ◌≤◌, ◌<◌}
use mathlib.Core.Path.{◌≡◌, refl, sym, ap, ap₂, ◌∙◌, subst}
use mathlib.Core.Logic.{inl, inr}
use mathlib.Core.Bool.{Bool}
use mathlib.Core.Option.{some}
use mathlib.Core.List.{List, [], ◌∷◌, ◌++◌, append_assoc}
use native.Mathlib.Omega.{arith}
use native.Mathlib.Nat.{add-zero, zero-add}
use lib.ListN.{length, get_or, take, drop, length-append}
use lib.Seq.{sets, slice, slice_empty, length-slice, take-add, drop_at, drop-append-le, length-take-le}
use Rattle.tables.specs.Table.{cons?}
use Rattle.tables.specs.Zip.{zip, tail, Rise, zip_nil, zip_left}
use Rattle.tables.specs.Walk.{walked}
use Rattle.tables.specs.Stores.{sets_append}
use Rattle.dots.specs.Dot.{dots}
use Rattle.dots.specs.Clock.{Clock}
use Rattle.replica.specs.Replica.{Entry, Replica, entry?, entry_rows, entries}
use Rattle.layout.specs.Fields.{Bytes, u32_at}
use Rattle.layout.specs.Lists.{list_at, bytes_of}
use Rattle.layout.specs.Clock.{narrow, dot_end_in, dot_at, dots_at, clock_in}
use Rattle.layout.specs.Rows.{row_in, row_at, row_end, rows_at, encode_row, encode_rows}
use Rattle.layout.proofs.Form.{length_list_at}
use Rattle.layout.proofs.Parts.{row_laws}
use Rattle.merging.specs.declared.entries.Hand.{Hand}
use Rattle.merging.specs.declared.entries.Rows.{Rows}
use Rattle.changing.specs.Kept.{keep_of, line_of, kept_clock, kept_entries}
use Rattle.merging.specs.Rowing.{WroteRows}
use Rattle.merging.specs.Sifting.{line_for, sifted, sifted_rows, rows_ahead, Moved, Passed, Sifted}
use Rattle.merging.proofs.WholeSteps.{actors_all}
use Rattle.merging.proofs.RowSteps.{row_end_is}
use Rattle.merging.proofs.RowLoop.{lines_walked, drop_tail}
use Rattle.merging.proofs.CopySteps.{copied_is}
use Rattle.merging.proofs.SiftSteps.{FirstRow, row_of, row_past, ahead_step, row_moved}

-- ---- the rows ahead

module _ {s vs l : List ℕ} {own : Bool} where
  pub moved_none : {w : Rows} → Moved s vs l own w w
  moved_none = record { edge = refl; goes = λ h. h; step = refl; on = omega arith; room = omega arith; few = omega arith; count = refl }

  pub moved_on : {u w w' : Rows} → Moved s vs l own u w → Moved s vs l own w w' → Moved s vs l own u w'
  moved_on a b =
      let sa = a.step in let sb = b.step in let ao = a.on in let bo = b.on in let ar = a.room in let br = b.room in let af = a.few in let bf = b.few in
      record {
        edge = b.edge ∙ a.edge;
        goes = λ h. b.goes (a.goes h);
        step = omega arith;
        on = omega arith;
        room = omega arith;
        few = omega arith;
        count = b.count ∙ a.count;
      }

  pub sifted_on : {out₀ out out' : List ℕ} {u w w' : Rows} → Sifted s vs l own out₀ u out w → Sifted s vs l own out w out' w' → Sifted s vs l own out₀ u out' w'
  sifted_on a b = record { moved = moved_on a.moved b.moved; ends = b.ends ∙ a.ends; store = b.store ∙ a.store }

  pub sifted_end : {out₀ out : List ℕ} {u w : Rows} → u.x.left ≤ 64 → u.x.gone ≡ 0 → u.n ≡ 0 → w.x.left ≡ 0
      → Sifted s vs l own out₀ u out w → WroteRows out₀ u.at (sifted_rows vs l own 0 (rows_at s u.x.at u.x.left)) out w.n w.at
  unfolding list_at sifted_rows bytes_of
  sifted_end {u = u} {w = w} few first none e z =
      let o = z.moved in let os = o.step in let oo = o.on in let on = o.room in let of = o.few in
      let nil : rows_ahead s vs l own w ≡ [] = rw e in
      rw (← first) (record {
        count = (rw (nil, add-zero, none) at o.count) ∙ zero-add _;
        ends = rw (nil, add-zero) at z.ends;
        few = omega arith;
        room = omega arith;
        bytes = rw nil at z.store;
      })

-- ---- a run of rows that stay as they are

slice_join : (a b c : ℕ) (s : List ℕ) → a ≤ b → b ≤ c → c ≤ length s → slice a b s ++ slice b c s ≡ slice a c s
slice_join a b c s h k q =
    let d = c - b in
    let e : c ≡ b + d = omega arith in
    let l : length (take b s) ≡ b = length-take-le b s (omega arith) in
    rw (e, take-add b d s) (ap (λ (x : List ℕ). drop a (take b s) ++ x) (drop_at (take b s) (take d (drop b s)) b l) ∙ sym (drop-append-le a (take b s) (take d (drop b s)) (omega arith)))

row_copied : (s : List ℕ) (p xs : ℕ) → xs ≡ u32_at s (p + 4) → Bytes s → p + 8 + 12 * xs ≤ length s → slice p (p + 8 + 12 * xs) s ≡ encode_row (record { member = u32_at s p; clock = dots_at s (p + 8) xs })
unfolding row_in clock_in
row_copied s p xs e b h =
    let q : row_end s p ≡ p + 8 + 12 * xs = let f = row_end_is s p in omega arith in
    let i : p + 4 + 4 ≡ p + 8 = omega arith in
    let row : row_at s p ≡ record { member = u32_at s p; clock = dots_at s (p + 8) xs } = rw (i, ← e) in
    copied_is s p (p + 8 + 12 * xs) _ (rw row at (row_laws.stands s p b (rw q h))) (omega arith) (sym q ∙ (rw row at (row_laws.span s p)))

entry_some : (m : ℕ) (c : Clock) → 0 < length c → entry? m c ≡ some (record { member = m; clock = c })
entry_some m [] h = absurd (omega arith)
entry_some m (d ∷ c) h = refl

module _ {s vs l : List ℕ} {own : Bool} where
  pub passed_none : {w : Rows} → w.x.at ≤ length s → Passed s vs l own w w
  passed_none {w} h = record { moved = moved_none; start = omega arith; inside = h; at = refl; bytes = ap (λ (x : List ℕ). x ++ encode_rows (rows_ahead s vs l own w)) (sym (slice_empty w.x.at s)) }

  -- one more row
  pub passed_on : {u w : Rows} (xs : ℕ) (h' : Hand) → h' ≡ record { at = w.x.at + 8 + 12 * xs; left = w.x.left - 1; gone = w.x.gone + 1 } → Passed s vs l own u w → (r : FirstRow s w.x.at w.x.left xs vs) → 0 < w.x.left → length vs ≤ 16 → Bytes s → xs ≡ u32_at s (w.x.at + 4)
      → (0 < xs) × (sifted vs l (line_for own w.x.gone) (dots_at s (w.x.at + 8) xs) ≡ dots_at s (w.x.at + 8) xs)
      → Passed s vs l own u (record w { x = h'; at = w.at + (8 + 12 * xs); n = w.n + 1 })
  unfolding bytes_of
  passed_on {u} {w} xs h' eh z r any few b e h = subst (λ (x : Hand). Passed s vs l own u (record w { x = x; at = w.at + (8 + 12 * xs); n = w.n + 1 })) (sym eh) (
      let row : Entry = record { member = u32_at s w.x.at; clock = dots_at s (w.x.at + 8) xs } in
      let inside = r.inside in let z0 = z.start in let za = z.at in
      let long : length (dots_at s (w.x.at + 8) xs) ≡ xs = length_list_at dot_at (dot_end_in narrow) s (w.x.at + 8) xs in
      let dots = h.0 in
      let o : row_of s vs l own w xs r any ≡ some row = rw h.1 (entry_some (u32_at s w.x.at) (dots_at s (w.x.at + 8) xs) (omega arith)) in
      let short : xs ≤ 16 = let f = r.few in omega arith in
      let rest = encode_rows (rows_ahead s vs l own (row_past s vs l own w xs r any (8 + 12 * xs) 1)) in
      let step : encode_rows (rows_ahead s vs l own w) ≡ slice w.x.at (w.x.at + 8 + 12 * xs) s ++ rest =
      ap (λ (es : List Entry). encode_rows es) (rw o at (ahead_step s vs l own w xs r any (8 + 12 * xs) 1)) ∙ ap (λ (x : List ℕ). x ++ rest) (sym (row_copied s w.x.at xs e b inside)) in
      record {
        moved = moved_on z.moved (row_moved s vs l own w xs r any (8 + 12 * xs) 1 (omega arith) (rw o refl));
        start = omega arith;
        inside = inside;
        at = omega arith;
        bytes = z.bytes ∙ ap (λ (x : List ℕ). slice u.x.at w.x.at s ++ x) step ∙ sym (append_assoc (slice u.x.at w.x.at s) (slice w.x.at (w.x.at + 8 + 12 * xs) s) rest)
            ∙ ap (λ (x : List ℕ). x ++ rest) (slice_join u.x.at w.x.at (w.x.at + 8 + 12 * xs) s z0 (omega arith) inside);
      })

  -- copied as they stand
  pub passed_sifted : {w w' : Rows} (out out' : List ℕ) → Passed s vs l own w w' → out' ≡ sets out w.at (slice w.x.at w'.x.at s) → Sifted s vs l own out w out' w'
  passed_sifted {w} {w'} out out' z e =
      let run = slice w.x.at w'.x.at s in
      let rest = encode_rows (rows_ahead s vs l own w') in
      let long : length run ≡ w'.x.at - w.x.at = length-slice w.x.at w'.x.at s z.inside in
      let start = z.start in let at = z.at in
      let place : w'.at ≡ w.at + length run = omega arith in
      record {
        moved = z.moved;
        ends = let f : length (encode_rows (rows_ahead s vs l own w)) ≡ length run + length rest = ap length z.bytes ∙ length-append run rest in omega arith;
        store = rw (e, place) (sym (sets_append out w.at run rest)) ∙ ap (sets out w.at) (sym z.bytes);
      }

-- ---- they are the entries that stay of two sides

module _ (A B : Replica) (vs l : List ℕ) (own : Bool)
    (lines : (j i : ℕ) (e : Entry) (rest : List Entry) → drop j A.entries ≡ e ∷ rest → i < length vs → get_or l (line_for own j + i) 0 ≡ line_of B e.member (get_or vs i 0)) where
  kept_rows : (es : List Entry) (i : ℕ) → es ≡ drop i A.entries → Rise entry_rows es → sifted_rows vs l own i es ≡ zip entries (kept_clock vs A B) es []
  unfolding sifted_rows kept_clock
  kept_rows [] i e r = sym (zip_nil entries (kept_clock vs A B))
  kept_rows (x ∷ es) i e r =
      let m = x.member in
      ap₂ cons?
      (ap (entry? m)
      (lines_walked vs l (line_for own i) l (line_for own i) (length vs) (line_of A m) (line_of B m) 0 (length vs) x.clock [] (omega arith) (inr (λ j h. lines i j x es (sym e) h)) (inl refl)
      ∙ ap (λ (cs : List ℕ). walked dots (λ a. keep_of (line_of A m a) (line_of B m a)) cs x.clock []) (actors_all vs)))
      (kept_rows es (suc i) (ap tail e ∙ drop_tail A.entries i) r.1)
      ∙ sym (zip_left entries (kept_clock vs A B) x es [] r.0 tt)

  pub sifted_kept : B.entries ≡ [] → Rise entry_rows A.entries → sifted_rows vs l own 0 A.entries ≡ kept_entries vs A B
  unfolding kept_entries
  sifted_kept e r = kept_rows A.entries 0 refl r ∙ ap (λ (es : List Entry). zip entries (kept_clock vs A B) A.entries es) (sym e)
