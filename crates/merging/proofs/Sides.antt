-- What the loop over entries starts from, of two sides that are held.
use Prim.Native.Nat.{ℕ, zero, suc, ◌+◌, ◌*◌, ◌≤◌, ◌<◌, max}
use mathlib.Core.Path.{◌≡◌, refl, sym, ap, ap₂, ◌∙◌}
use mathlib.Core.Bool.{Bool, true, false}
use mathlib.Core.List.{List, [], ◌∷◌, map}
use native.Mathlib.Omega.{arith}
use native.Mathlib.Nat.{zero-add}
use lib.ListN.{length, take, drop, get_or, replicate, length-map, length-replicate, length-take}
use lib.Seq.{take_all}
use Rattle.tables.specs.Zip.{Rise}
use Rattle.dots.specs.Dot.{dots, actor_of}
use Rattle.clocks.specs.declared.VClock.{VClock}
use Rattle.clocks.specs.VClock.{dots_of}
use Rattle.replica.specs.Replica.{Entry, Wait}
use Rattle.replica.specs.Kills.{kills_of}
use Rattle.layout.specs.Fields.{u32_at}
use Rattle.layout.specs.Clock.{dots_at, clock_in}
use Rattle.layout.specs.Rows.{row_at, row_end, rows_at}
use Rattle.layout.specs.Image.{image_in, image_of, entries_start, entries_count}
use Rattle.layout.proofs.Form.{length_list_at}
use Rattle.kills.specs.Lines.{kill_table, members_of, waits_of}
use Rattle.kills.specs.Laws.{kill_numbers}
use Rattle.image.specs.declared.Image.{Image}
use Rattle.merging.specs.declared.entries.Rows.{Rows}
use Rattle.changing.specs.Kept.{line_of, kept_entries}
use Rattle.merging.specs.Rowing.{Goes, RowsAhead, Side, starts, Ready}
use Rattle.merging.specs.Sifting.{line_for, sifted_rows}
use Rattle.merging.specs.Draft.{Counts, Held}
use Rattle.merging.proofs.DraftSteps.{number_at}
use Rattle.merging.proofs.SiftLoop.{sifted_kept}

drop_here : (f : Entry → ℕ) (es : List Entry) (j : ℕ) (e : Entry) (rest : List Entry) → drop j es ≡ e ∷ rest → (j < length es) × (get_or (map f es) j 0 ≡ f e)
drop_here f es zero e rest p = (let l = ap length p in omega arith, ap (λ (l : List Entry). get_or (map f l) 0 0) p)
drop_here f [] (suc j) e rest p = let l = ap length p in absurd (omega arith)
drop_here f (x ∷ es) (suc j) e rest p = let r = drop_here f es j e rest p in (let l = r.0 in omega arith, r.1)

held_count : (s : List ℕ) (x : Image) → Held s x → length (image_of s).entries ≡ x.entries
unfolding image_in
held_count s x H = length_list_at row_at row_end s (entries_start s) (entries_count s) ∙ sym H.number

-- the counters of the clock that stands at byte 24
clock_counts : (s vs : List ℕ) (m : ℕ) (va : List ℕ) → m ≡ u32_at s 24 → Counts (dots_at s 28 m) vs va → Counts (image_of s).clock vs va
unfolding image_in clock_in
clock_counts s vs m va e c = rw e at c

-- a part of some places, which has all that count, tells the same
members_part : (t ps : List ℕ) (n : ℕ) → n ≤ 64 → members_of t (take n ps) 64 ≡ members_of t ps n
unfolding members_of
members_part t ps n few = rw (take_all 64 (take n ps) (simp length-take (omega arith)))

waits_part : (s starts ps : List ℕ) (n : ℕ) → length starts ≤ 16 → starts ≡ take n ps → waits_of s starts 16 ≡ waits_of s ps n
unfolding waits_of
waits_part s starts ps n few e = rw (take_all 16 starts few, e)

-- the lines of one side: actors vs, and k, the kill lines that its waiting removes have for the entries of the other, from its clock's counters va on
module _ (v : VClock) (vs : List ℕ) (few : length vs ≤ 16) (rise : Rise dots (dots_of v)) (actors : vs ≡ map (λ d. actor_of d) (dots_of v)) where
  -- where the other has none, no waiting remove counts
  pub record Killed (s : List ℕ) (x : Image) (t : List ℕ) (y : Image) (va k starts : List ℕ) : Type 0 where
    pub short : length starts ≤ 16
    pub all_count : 0 < y.entries → starts ≡ take x.waits x.starts
    pub table : k ≡ kill_table (dots_of v) (members_of t (take y.entries y.places) 64) (waits_of s starts 16) va (replicate 1024 0)

  lines_of : (s : List ℕ) (x : Image) (t : List ℕ) (y : Image) (va k starts : List ℕ) → length va ≡ 16 → Held s x → Held t y → Counts (image_of s).clock vs va → Killed s x t y va k starts
      → (j i : ℕ) (e : Entry) (rest : List Entry) → drop j (image_of t).entries ≡ e ∷ rest → i < length vs → get_or k (16 * j + i) 0 ≡ line_of (image_of s) e.member (get_or vs i 0)
  unfolding line_of
  lines_of s x t y va k starts wide H G c z j i e rest d h =
      let ms = map (λ e. e.member) (image_of t).entries in
      let r = drop_here (λ e. e.member) (image_of t).entries j e rest d in
      let lm : length ms ≡ length (image_of t).entries = simp length-map in
      let n : length vs ≡ length (dots_of v) = ap length actors ∙ simp length-map in
      let m = held_count t y G in
      let few_entries = G.few in
      let l = r.0 in
      let all = z.all_count (omega arith) in
      ap (λ (l : List ℕ). get_or l (16 * j + i) 0) (z.table ∙ ap₂ (λ (a : List ℕ) (b : List Wait). kill_table (dots_of v) a b va (replicate 1024 0)) (members_part t y.places y.entries G.few ∙ G.members) (waits_part s starts x.starts x.waits z.short all ∙ H.waiting))
      ∙ kill_numbers (dots_of v) ms rise G.rise (omega arith) va (replicate 1024 0) wide (rw (length-replicate {A = ℕ} 1024 0) (omega arith)) (image_of s).waiting H.ordered j i (omega arith) (omega arith)
      ∙ ap₂ max (c.is i h) (ap₂ (kills_of (image_of s).waiting) r.1 (sym (ap (λ (l : List ℕ). get_or l i 0) actors ∙ number_at (λ d. actor_of d) refl (dots_of v) i)))

  -- the rows of one side
  pub rows_of : (s : List ℕ) (x : Image) (p : ℕ) → Held s x → p ≡ u32_at s 8 → Goes (map (λ d. actor_of d) (dots_of v)) (image_of s).entries → RowsAhead s p x.entries vs
  unfolding image_in
  rows_of s x p H ep g = let n = H.number in let o = H.edge in record { edge = rw (ep, n) (omega arith); room = rw (ep, n) H.room; goes = rw (ep, n, actors) g }

  side_of : (s : List ℕ) (x : Image) (p : ℕ) (k : List ℕ) (es : List Entry) → Held s x → p ≡ u32_at s 8 → Goes (map (λ d. actor_of d) (dots_of v)) (image_of s).entries
      → ((j i : ℕ) (e : Entry) (rest : List Entry) → drop j es ≡ e ∷ rest → i < length vs → get_or k (16 * j + i) 0 ≡ line_of (image_of s) e.member (get_or vs i 0))
      → Side (image_of s) s p x.entries vs k es
  unfolding image_in
  side_of s x p k es H ep g l =
      let n = H.number in
      record {
        rows = rw (ep, n);
        few = H.few;
        ahead = rows_of s x p H ep g;
        rise = rw (ep, n) H.rise;
        lines = l;
      }

  pub ready_of : (s : List ℕ) (x : Image) (t : List ℕ) (y : Image) (p q m k : ℕ) (va vb ka kb ca cb : List ℕ) → length va ≡ 16 → length vb ≡ 16 → Held s x → Held t y → p ≡ u32_at s 8 → q ≡ u32_at t 8
      → Goes (map (λ d. actor_of d) (dots_of v)) (image_of s).entries → Goes (map (λ d. actor_of d) (dots_of v)) (image_of t).entries
      → m ≡ u32_at s 24 → k ≡ u32_at t 24 → Counts (dots_at s 28 m) vs va → Counts (dots_at t 28 k) vs vb → Killed s x t y va ka ca → Killed t y s x vb kb cb
      → (w : Rows) (at : ℕ) → w ≡ starts p x.entries q y.entries at → Ready (image_of s) (image_of t) s t vs ka kb w
  ready_of s x t y p q m k va vb ka kb na nb wa wb H G ep eq ga gb em ek ca cb za zb w at f = rw f (record {
    start = refl;
    ours = side_of s x p ka (image_of t).entries H ep ga (lines_of s x t y va ka na wa H G (clock_counts s vs m va em ca) za);
    theirs = side_of t y q kb (image_of s).entries G eq gb (lines_of t y s x vb kb nb wb G H (clock_counts t vs k vb ek cb) zb);
    few = few;
  })

  -- ---- where the second side t has no entries

  -- one line serves all entries where no remove waits
  one_line : (t : List ℕ) (y : Image) (vb : List ℕ) → Held t y → y.waits ≡ 0 → Counts (image_of t).clock vs vb → (m i : ℕ) → i < length vs → get_or vb i 0 ≡ line_of (image_of t) m (get_or vs i 0)
  unfolding line_of waits_of kills_of
  one_line t y vb G e c m i h =
      let none : (image_of t).waiting ≡ [] = sym G.waiting ∙ rw e in
      c.is i h ∙ rw none (omega arith)

  module _ (s : List ℕ) (x : Image) (t : List ℕ) (y : Image) (p : ℕ) (H : Held s x) (G : Held t y) (ep : p ≡ u32_at s 8) (none : y.entries ≡ 0) where
    no_rows : (image_of t).entries ≡ []
    no_rows = go (image_of t).entries (held_count t y G ∙ none)
      where
        go : (es : List Entry) → length es ≡ 0 → es ≡ []
        go [] e = refl
        go (r ∷ es) e = absurd (omega arith)

    kept_of : (l : List ℕ) (own : Bool) → ((j i : ℕ) (e : Entry) (rest : List Entry) → drop j (image_of s).entries ≡ e ∷ rest → i < length vs → get_or l (line_for own j + i) 0 ≡ line_of (image_of t) e.member (get_or vs i 0))
        → sifted_rows vs l own 0 (rows_at s p x.entries) ≡ kept_entries (map (λ d. actor_of d) (dots_of v)) (image_of s) (image_of t)
    unfolding image_in
    kept_of l own lines =
        let n = H.number in
        rw (ep, n) (sifted_kept (image_of s) (image_of t) vs l own lines no_rows H.rise) ∙ ap (λ (cs : List ℕ). kept_entries cs (image_of s) (image_of t)) actors

    pub one_kept : (k : ℕ) (vb : List ℕ) → y.waits ≡ 0 → k ≡ u32_at t 24 → Counts (dots_at t 28 k) vs vb
        → sifted_rows vs vb false 0 (rows_at s p x.entries) ≡ kept_entries (map (λ d. actor_of d) (dots_of v)) (image_of s) (image_of t)
    one_kept k vb e ek c = kept_of vb false (λ j i r rest d h. rw (zero-add i) (one_line t y vb G e (clock_counts t vs k vb ek c) r.member i h))

    pub own_kept : (k : ℕ) (vb kb cb : List ℕ) → length vb ≡ 16 → k ≡ u32_at t 24 → Counts (dots_at t 28 k) vs vb → Killed t y s x vb kb cb
        → sifted_rows vs kb true 0 (rows_at s p x.entries) ≡ kept_entries (map (λ d. actor_of d) (dots_of v)) (image_of s) (image_of t)
    own_kept k vb kb cb wide ek c z = kept_of kb true (lines_of t y s x vb kb cb wide G H (clock_counts t vs k vb ek c) z)
