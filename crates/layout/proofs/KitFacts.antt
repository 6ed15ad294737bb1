-- What is proved of specs/Kit.antt.
use Rattle.std.specs.Prelude.{◌≡◌, Bool, true, T, length, get_or, take, drop}
use Rattle.std.proofs.Math.Path.{refl, ap}
use Rattle.std.proofs.Common.{sym, arith, mul-zero, mul-suc, leb→le, ltb→lt, length-append, take_at, le-leb}
use mathlib.Core.List.{List, [], ◌∷◌, ◌++◌, append_assoc}
use Prim.Native.Nat.{ℕ, suc, zero, ◌+◌, ◌*◌, ◌≤◌, ◌<◌}
use Rattle.std.proofs.Math.Numerals.{add-one}
use Rattle.tables.specs.Table.{Normal}
use Rattle.tables.specs.Truth.{and_l, and_r, and_i}
use Rattle.tables.specs.Ascending.{is_lt}
use Rattle.dots.specs.Dot.{clocks}
use Rattle.dots.specs.Clock.{Clock, cmp_clock}
use Rattle.dots.specs.Rising.{rising, rising_normal, true_from}
use Rattle.replica.specs.Replica.{Entry, Wait}
use Rattle.replica.specs.Limits.{full}
use Rattle.layout.specs.Fields.{u32_at, le32}
use Rattle.layout.proofs.FieldsFacts.{length_le32, length_le64}
use Rattle.layout.specs.Lists.{list_at, starts_at, end_after, bytes_of}
use Rattle.layout.specs.Clock.{narrow, dot_in, clock_in, clock_end_in, clock_at, clock_end, encode_clock_in, encode_clock, encode_dots, encode_dot, encode_dot_in}
use Rattle.layout.specs.Rows.{row_end_in, row_at, row_end, rows_at, places_at, encode_row_in, encode_row, wait_end_in, wait_end, wait_at_place, waits_at, wait_places_at, encode_wait_in, encode_wait, members_at, encode_members}
use Rattle.layout.specs.Good.{chain, named_tests, clock_tests, row_tests, wait_tests, rising_members, good_members_in, good_members, good_clock_in, good_clock, good_rows_in, good_rows, good_waits_in, good_waits}
use Rattle.layout.proofs.Held.{Holds}
use Rattle.layout.proofs.Form.{Form, Faithful, length_list_at, span_list}
use Rattle.layout.specs.Kit.{Each, Stands, Named, EntryStands, WaitStands}

-- ---- one turn from the front

module _ (end : List ℕ → ℕ → ℕ) (s : List ℕ) (p k j : ℕ) (e : k ≡ j + 1) where
  pub list_step : {R : Type 0} (here : List ℕ → ℕ → R) → list_at here end s p k ≡ here s p ∷ list_at here end s (end s p) j
  unfolding list_at
  list_step here = rw (e, add-one)

  pub starts_step : starts_at end s p k ≡ p ∷ starts_at end s (end s p) j
  unfolding starts_at
  starts_step = rw (e, add-one)

  pub end_step : end_after end s p k ≡ end_after end s (end s p) j
  unfolding end_after
  end_step = rw (e, add-one)

-- ---- one turn at the back

module _ (end : List ℕ → ℕ → ℕ) (s : List ℕ) where
  pub end_next : (p n : ℕ) → end_after end s p (n + 1) ≡ end s (end_after end s p n)
  unfolding end_after
  end_next p n = rw add-one (go p n)
    where
      go : (p n : ℕ) → end_after end s p (suc n) ≡ end s (end_after end s p n)
      go p zero = refl
      go p (suc n) = go (end s p) n

  pub starts_next : (p n : ℕ) → starts_at end s p (n + 1) ≡ starts_at end s p n ++ end_after end s p n ∷ []
  unfolding starts_at end_after
  starts_next p n = rw add-one (go p n)
    where
      go : (p n : ℕ) → starts_at end s p (suc n) ≡ starts_at end s p n ++ end_after end s p n ∷ []
      go p zero = refl
      go p (suc n) = ap (λ (l : List ℕ). p ∷ l) (go (end s p) n)

  pub length_starts_at : (p n : ℕ) → length (starts_at end s p n) ≡ n
  unfolding starts_at
  length_starts_at p zero = refl
  length_starts_at p (suc n) = ap suc (length_starts_at (end s p) n)

  -- the place of thing i is where the i before it end, and thing i stands there
  pub place_end : (p n i : ℕ) → i < n → get_or (starts_at end s p n) i 0 ≡ end_after end s p i
  unfolding starts_at end_after
  place_end p zero i h = absurd (omega arith)
  place_end p (suc n) zero h = refl
  place_end p (suc n) (suc i) h = place_end (end s p) n i (omega arith)

  module _ {R : Type 0} (here : List ℕ → ℕ → R) where
    pub list_next : (p n : ℕ) → list_at here end s p (n + 1) ≡ list_at here end s p n ++ here s (end_after end s p n) ∷ []
    unfolding list_at end_after
    list_next p n = rw add-one (go p n)
      where
        go : (p n : ℕ) → list_at here end s p (suc n) ≡ list_at here end s p n ++ here s (end_after end s p n) ∷ []
        go p zero = refl
        go p (suc n) = ap (λ (l : List R). here s p ∷ l) (go (end s p) n)

    pub place_list : (p n i : ℕ) (d : R) → i < n → get_or (list_at here end s p n) i d ≡ here s (get_or (starts_at end s p n) i 0)
    unfolding list_at starts_at
    place_list p zero i d h = absurd (omega arith)
    place_list p (suc n) zero d h = refl
    place_list p (suc n) (suc i) d h = place_list (end s p) n i d (omega arith)

pub bytes_join : {R : Type 0} (put : R → List ℕ) (xs ys : List R) → bytes_of put (xs ++ ys) ≡ bytes_of put xs ++ bytes_of put ys
unfolding bytes_of
bytes_join put [] ys = refl
bytes_join put (x ∷ xs) ys = rw (bytes_join put xs ys, append_assoc)

pub place_row : (s : List ℕ) (p n i : ℕ) (d : Entry) → i < n → get_or (rows_at s p n) i d ≡ row_at s (get_or (places_at s p n) i 0)
place_row s p n i d h = place_list row_end s row_at p n i d h

pub place_wait : (s : List ℕ) (p n i : ℕ) (d : Wait) → i < n → get_or (waits_at s p n) i d ≡ wait_at_place s (get_or (wait_places_at s p n) i 0)
place_wait s p n i d h = place_list wait_end s wait_at_place p n i d h

-- each of n things ends where the last does, or before
pub place_inside : {R : Type 0} (F : Form R) {Fits : R → Type 0} → Faithful F Fits → (s : List ℕ) (p n i : ℕ) → i < n
    → F.end s (get_or (starts_at F.end s p n) i 0) ≤ end_after F.end s p n
unfolding starts_at end_after
place_inside F L s p zero i h = absurd (omega arith)
place_inside F L s p (suc n) zero h = let e = span_list F L s (F.end s p) n in omega arith
place_inside F L s p (suc n) (suc i) h = place_inside F L s (F.end s p) n i (omega arith)

-- the part of the bytes that holds e is e
pub part_is : (s : List ℕ) (p : ℕ) (e : List ℕ) → Holds s p e → take (length e) (drop p s) ≡ e
part_is s p e h = rw h (take_at e (drop (p + length e) s) (length e) refl)

-- ---- lengths

pub length_clock_at : (s : List ℕ) (at : ℕ) → length (clock_at s at) ≡ u32_at s at
unfolding clock_in
length_clock_at s at = length_list_at (dot_in narrow) (λ s p. p + 12) s (at + 4) (u32_at s at)

-- things of one width
pub length_steady : {R : Type 0} (put : R → List ℕ) (w : ℕ) (rs : List R) → ((r : R) → length (put r) ≡ w) → length (bytes_of put rs) ≡ w * length rs
unfolding bytes_of
length_steady put w [] h = sym (mul-zero w)
length_steady put w (r ∷ rs) h = let e = mul-suc w (length rs) in let k = h r in simp (length-append, length_steady put w rs h) (omega arith)

pub length_encode_dots : (c : Clock) → length (encode_dots c) ≡ 12 * length c
unfolding encode_dot_in
length_encode_dots c = length_steady encode_dot 12 c (λ d. simp (length-append, length_le32, length_le64))

pub length_encode_members : (ms : List ℕ) → length (encode_members ms) ≡ 4 * length ms
length_encode_members ms = length_steady le32 4 ms length_le32

pub length_encode_clock : (c : Clock) → length (encode_clock c) ≡ 4 + 12 * length c
unfolding encode_clock_in
length_encode_clock c = simp (length-append, length_le32, length_encode_dots)

pub length_encode_row : (e : Entry) → length (encode_row e) ≡ 8 + 12 * length e.clock
unfolding encode_row_in
length_encode_row e = simp (length-append, length_le32, length_encode_clock) (omega arith)

pub length_encode_wait : (w : Wait) → length (encode_wait w) ≡ 8 + 12 * length w.clock + 4 * length w.members
unfolding encode_wait_in
length_encode_wait w = simp (length-append, length_le32, length_encode_clock, length_encode_members) (omega arith)

pub each_from : (ts : List Bool) (b : Bool) → T (chain ts b) → Each ts b
each_from [] b h = h
each_from (t ∷ ts) b h = (and_l t (chain ts b) h, each_from ts b (and_r t (chain ts b) h))

pub each_to : (ts : List Bool) (b : Bool) → Each ts b → T (chain ts b)
each_to [] b h = h
each_to (t ∷ ts) b h = and_i t (chain ts b) h.0 (each_to ts b h.1)

pub stands : (s : List ℕ) (at : ℕ) → good_clock s at ≡ true → Stands s at
unfolding good_clock_in clock_end_in
stands s at e =
    let h = each_from (clock_tests narrow full s at) (rising 0 (clock_at s at)) (rw e tt) in
    record { count = leb→le (u32_at s at) 16 h.1.0; room = leb→le (at + (4 + 12 * u32_at s at)) (length s) h.1.1.0; rises = true_from (rising 0 (clock_at s at)) h.1.1.1 }

pub stands_good : (s : List ℕ) (at : ℕ) → Stands s at → good_clock s at ≡ true
unfolding good_clock_in clock_end_in
stands_good s at w =
    rw (le-leb (at + 4) (length s) (omega arith), le-leb (u32_at s at) 16 w.count, le-leb (at + (4 + 12 * u32_at s at)) (length s) w.room) w.rises

pub clock_room : (s : List ℕ) (at : ℕ) → Stands s at → clock_end s at ≤ length s
unfolding clock_end_in
clock_room s at w = w.room

pub clock_normal : (s : List ℕ) (at : ℕ) → good_clock s at ≡ true → Normal clocks (clock_at s at)
clock_normal s at h = rising_normal 0 (clock_at s at) (stands s at h).rises

pub named : (s : List ℕ) (q : ℕ) → good_members s q ≡ true → Named s q
unfolding good_members_in
named s q e =
    let r = rising_members 0 (members_at s (q + 4) (u32_at s q)) in
    let h = each_from (named_tests 32 s q) r (rw e tt) in
    record { few = leb→le (u32_at s q) 32 h.1.0; room = leb→le (q + (4 + 4 * u32_at s q)) (length s) h.1.1.0; rises = true_from r h.1.1.1 }

pub first_row : (s : List ℕ) (p low n : ℕ) → good_rows s p low (suc n) ≡ true → EntryStands s p low n
unfolding good_rows_in row_end_in
first_row s p low n e =
    let r = good_rows s (row_end s p) (u32_at s p + 1) n in
    let h = each_from (row_tests narrow full s p low) r (rw e tt) in
    let g = true_from (good_clock s (p + 4)) h.1.1.0 in
    record {
      above = leb→le low (u32_at s p) h.1.0;
      clock_good = g;
      held = ltb→lt 0 (u32_at s (p + 4)) h.1.1.1.0;
      inside = clock_room s (p + 4) (stands s (p + 4) g);
      others = true_from r h.1.1.1.1;
    }

pub first_wait : (s : List ℕ) (p : ℕ) (last : Clock) (n : ℕ) → good_waits s p last (suc n) ≡ true → WaitStands s p last n
unfolding good_waits_in wait_end_in
first_wait s p last n e =
    let r = good_waits s (wait_end s p) (clock_at s p) n in
    let h = each_from (wait_tests narrow full s p last) r (rw e tt) in
    let m = true_from (good_members s (clock_end s p)) h.1.1.0 in
    record {
      clock_good = true_from (good_clock s p) h.0;
      later = true_from (is_lt (cmp_clock last (clock_at s p))) h.1.0;
      members_good = m;
      inside = (named s (clock_end s p) m).room;
      others = true_from r h.1.1.1;
    }

-- ---- at each place

-- the entry there passes, whatever came before
pub place_entry : (s : List ℕ) (p low n i : ℕ) → good_rows s p low n ≡ true → i < n
    → (good_clock s (get_or (places_at s p n) i 0 + 4) ≡ true) × (0 < u32_at s (get_or (places_at s p n) i 0 + 4)) × (row_end s (get_or (places_at s p n) i 0) ≤ length s)
unfolding starts_at
place_entry s p low zero i g h = absurd (omega arith)
place_entry s p low (suc n) zero g h = let f = first_row s p low n g in (f.clock_good, f.held, f.inside)
place_entry s p low (suc n) (suc i) g h = place_entry s (row_end s p) (u32_at s p + 1) n i (first_row s p low n g).others (omega arith)

pub place_good : (s : List ℕ) (p low n i : ℕ) → good_rows s p low n ≡ true → i < n → good_clock s (get_or (places_at s p n) i 0 + 4) ≡ true
place_good s p low n i g h = (place_entry s p low n i g h).0

-- the waiting remove there passes
pub place_waits : (s : List ℕ) (p : ℕ) (last : Clock) (n i : ℕ) → good_waits s p last n ≡ true → i < n
    → (good_clock s (get_or (wait_places_at s p n) i 0) ≡ true) × (good_members s (clock_end s (get_or (wait_places_at s p n) i 0)) ≡ true) × (wait_end s (get_or (wait_places_at s p n) i 0) ≤ length s)
unfolding starts_at
place_waits s p last zero i g h = absurd (omega arith)
place_waits s p last (suc n) zero g h = let f = first_wait s p last n g in (f.clock_good, f.members_good, f.inside)
place_waits s p last (suc n) (suc i) g h = place_waits s (wait_end s p) (clock_at s p) n i (first_wait s p last n g).others (omega arith)

-- places lie before the end of the bytes
pub place_low : (s : List ℕ) (p low n i : ℕ) → good_rows s p low n ≡ true → i < n → get_or (places_at s p n) i 0 + 8 ≤ length s
unfolding row_end_in clock_end_in
place_low s p low n i g h = let k = (place_entry s p low n i g h).2 in omega arith

pub wait_place_low : (s : List ℕ) (p : ℕ) (last : Clock) (n i : ℕ) → good_waits s p last n ≡ true → i < n → get_or (wait_places_at s p n) i 0 + 8 ≤ length s
unfolding wait_end_in clock_end_in
wait_place_low s p last n i g h = let k = (place_waits s p last n i g h).2 in omega arith
