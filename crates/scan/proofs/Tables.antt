-- One turn of the loops over entries and over waiting removes, and what each ending says of the whole.
use Rattle.std.specs.Prelude.{Some, None}
use Prim.Native.Nat.{ℕ, suc, ◌+◌, ◌≤◌, ◌<◌}
use mathlib.Core.Path.{◌≡◌, sym, ◌∙◌}
use mathlib.Core.Bool.{true, false, ◌&&◌, and-false}
use mathlib.Core.List.{List, []}
use native.Mathlib.Omega.{arith}
use native.Mathlib.Numerals.{add-one}
use lib.Dec.{leb→le}
use lib.ListN.{length, set, replicate}
use lib.Seq.{sets}
use borrow.Author.Tests.{le-leb, lt-leb}
use Rattle.dots.specs.Clock.{Clock}
use Rattle.dots.specs.Rising.{true_from}
use Rattle.replica.specs.Limits.{full}
use Rattle.layout.specs.Fields.{u32_at}
use Rattle.layout.specs.Lists.{starts_at, end_after, list_at}
use Rattle.layout.specs.Clock.{narrow, clock_in, clock_at}
use Rattle.layout.specs.Rows.{row_end, places_at, rows_end_at, wait_end, wait_places_at, waits_end_at}
use Rattle.layout.specs.Good.{good_waits_in, good_waits, chain, wait_tests}
use Rattle.layout.proofs.KitFacts.{each_from, stands, starts_step, end_step, first_wait}
use Rattle.fields.proofs.Steps.{u32_past}
use Rattle.scan.specs.Scan.{DotsIn, laid_tests, row_ends, laid_rows, wait_ends, rows_table, waits_table}
use Rattle.scan.proofs.Steps.{none_of, chain_last, row_some, wait_some}

-- ---- one turn, for any kind: `end` is where a thing ends

module _ (end : List ℕ → ℕ → ℕ) (s : List ℕ) (p k j next : ℕ) (e : k ≡ j + 1) (n : next ≡ end s p) where
  pub end_turn : end_after end s next j ≡ end_after end s p k
  end_turn = rw n (sym (end_step end s p k j e))

  pub places_turn : (places : List ℕ) (i : ℕ) → sets (set places i p) (i + 1) (starts_at end s next j) ≡ sets places i (starts_at end s p k)
  places_turn places i = rw (n, starts_step end s p k j e, add-one)

module _ (s : List ℕ) (p low k j : ℕ) (e : k ≡ j + 1) where
  step : laid_rows s p low k ≡ (chain (laid_tests s p low) true && laid_rows s (row_end s p) (u32_at s p + 1) j)
  unfolding laid_rows
  step = rw (e, add-one j) (chain_last (laid_tests s p low) (laid_rows s (row_end s p) (u32_at s p + 1) j))

  pub rows_stop : None ≡ row_ends s p low → laid_rows s p low k ≡ false
  unfolding row_ends
  rows_stop w = step ∙ rw (none_of (chain (laid_tests s p low) true) (row_end s p) w)

  pub rows_turn : (next : ℕ) → Some next ≡ row_ends s p low → laid_rows s next (u32_at s p + 1) j ≡ laid_rows s p low k
  rows_turn next w = let r = row_some s p low next w in rw r.1 (sym (step ∙ rw r.0))

module _ (s : List ℕ) (p : ℕ) (last : Clock) (k j : ℕ) (e : k ≡ j + 1) where
  step_wait : good_waits s p last k ≡ (chain (wait_tests narrow full s p last) true && good_waits s (wait_end s p) (clock_at s p) j)
  unfolding good_waits_in
  step_wait = rw (e, add-one j) (chain_last (wait_tests narrow full s p last) (good_waits s (wait_end s p) (clock_at s p) j))

  pub waits_stop : None ≡ wait_ends s p last → good_waits s p last k ≡ false
  unfolding wait_ends
  waits_stop w = step_wait ∙ rw (none_of (chain (wait_tests narrow full s p last) true) (wait_end s p) w)

  pub waits_turn : (next : ℕ) → Some next ≡ wait_ends s p last → good_waits s next (clock_at s p) j ≡ good_waits s p last k
  waits_turn next w = let r = wait_some s p last next w in rw r.1 (sym (step_wait ∙ rw r.0))

-- an entry that is laid, and the ones after it
pub record EntryLaid (s : List ℕ) (p low n : ℕ) : Type 0 where
  pub inside : row_end s p ≤ length s
  pub others : laid_rows s (row_end s p) (u32_at s p + 1) n ≡ true

pub first_laid : (s : List ℕ) (p low n : ℕ) → laid_rows s p low (suc n) ≡ true → EntryLaid s p low n
unfolding laid_rows
first_laid s p low n e =
    let r = laid_rows s (row_end s p) (u32_at s p + 1) n in
    let h = each_from (laid_tests s p low) r (rw e tt) in
    record { inside = leb→le (row_end s p) (length s) h.1.1.1.0; others = true_from r h.1.1.1.1 }

-- what stands ends inside
pub row_inside : (s : List ℕ) (p low next : ℕ) → Some next ≡ row_ends s p low → next ≤ length s
unfolding laid_rows
row_inside s p low next w = let r = row_some s p low next w in rw r.1 (first_laid s p low 0 r.0).inside

pub wait_inside : (s : List ℕ) (p : ℕ) (last : Clock) (next : ℕ) → Some next ≡ wait_ends s p last → next ≤ length s
unfolding good_waits_in
wait_inside s p last next w = let r = wait_some s p last next w in rw r.1 (first_wait s p last 0 r.0).inside

pub wait_in : (s : List ℕ) (p : ℕ) (last : Clock) (next : ℕ) → Some next ≡ wait_ends s p last → DotsIn s p
unfolding good_waits_in
wait_in s p last next w = let r = wait_some s p last next w in record { room = λ h. (stands s p (first_wait s p last 0 r.0).clock_good).room }

pub none_in : (s : List ℕ) → DotsIn s (length s)
none_in s = let e = u32_past s (length s) (omega arith) in record { room = λ h. absurd (omega arith) }

-- the clock past the end is the empty one
pub none_past : (s : List ℕ) → clock_at s (length s) ≡ []
unfolding clock_in list_at
none_past s = rw (u32_past s (length s) (omega arith))

-- ---- the whole

module _ (s : List ℕ) (at n : ℕ) where
  pub rows_many : 64 < n → None ≡ rows_table s at n
  unfolding rows_table
  rows_many h = rw (lt-leb n 64 h)

  pub rows_long : 4294967295 < length s → None ≡ rows_table s at n
  unfolding rows_table
  rows_long h = simp (lt-leb (length s) 4294967295 h, and-false)

  pub rows_past : length s < at → None ≡ rows_table s at n
  unfolding rows_table
  rows_past h = simp (lt-leb at (length s) h, and-false)

  pub rows_bad : laid_rows s at 0 n ≡ false → None ≡ rows_table s at n
  unfolding rows_table
  rows_bad h = simp (h, and-false)

  pub waits_many : 16 < n → None ≡ waits_table s at n
  unfolding waits_table
  waits_many h = rw (lt-leb n 16 h)

  pub waits_long : 4294967295 < length s → None ≡ waits_table s at n
  unfolding waits_table
  waits_long h = simp (lt-leb (length s) 4294967295 h, and-false)

  pub waits_past : length s < at → None ≡ waits_table s at n
  unfolding waits_table
  waits_past h = simp (lt-leb at (length s) h, and-false)

  pub waits_bad : good_waits s at [] n ≡ false → None ≡ waits_table s at n
  unfolding waits_table
  waits_bad h = simp (h, and-false)

  module _ (hl : length s ≤ 4294967295) (ha : at ≤ length s) where
    pub rows_good : n ≤ 64 → (p low k i : ℕ) (places : List ℕ) → k ≤ 0 → laid_rows s p low k ≡ laid_rows s at 0 n → rows_end_at s p k ≡ rows_end_at s at n
        → sets places i (places_at s p k) ≡ sets (replicate 64 0) 0 (places_at s at n) → Some (record { next = p; places = places }) ≡ rows_table s at n
    unfolding rows_table laid_rows end_after starts_at
    rows_good hn p low k i places z g h q =
        let e : k ≡ 0 = omega arith in
        let g' : laid_rows s at 0 n ≡ true = sym g ∙ rw e in
        let h' : rows_end_at s at n ≡ p = sym h ∙ rw e in
        let q' : sets (replicate 64 0) 0 (places_at s at n) ≡ places = sym q ∙ rw e in
        rw (le-leb n 64 hn, le-leb (length s) 4294967295 hl, le-leb at (length s) ha, g', h', q')

    pub waits_good : n ≤ 16 → (p k i : ℕ) (last : Clock) (places : List ℕ) → k ≤ 0 → good_waits s p last k ≡ good_waits s at [] n → waits_end_at s p k ≡ waits_end_at s at n
        → sets places i (wait_places_at s p k) ≡ sets (replicate 16 0) 0 (wait_places_at s at n) → Some (record { next = p; places = places }) ≡ waits_table s at n
    unfolding waits_table good_waits_in end_after starts_at
    waits_good hn p k i last places z g h q =
        let e : k ≡ 0 = omega arith in
        let g' : good_waits s at [] n ≡ true = sym g ∙ rw e in
        let h' : waits_end_at s at n ≡ p = sym h ∙ rw e in
        let q' : sets (replicate 16 0) 0 (wait_places_at s at n) ≡ places = sym q ∙ rw e in
        rw (le-leb n 16 hn, le-leb (length s) 4294967295 hl, le-leb at (length s) ha, g', h', q')
