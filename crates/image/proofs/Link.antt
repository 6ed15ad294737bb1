-- The walk along v says what an entry owes: v covers it, and every waiting remove spares it.
use Prim.Native.Nat.{ℕ, zero, suc, ◌+◌, ◌*◌, ◌≤◌, ◌<◌, min, compare, Ordering}
use mathlib.Core.Path.{◌≡◌, refl, sym, ap, ap₂, ◌∙◌, subst}
use mathlib.Core.Bool.{Bool, true, false, ◌&&◌}
use mathlib.Core.List.{List, [], ◌∷◌, map}
use native.Mathlib.Omega.{arith}
use native.Mathlib.Nat.{add-zero, zero-add}
use lib.Dec.{leb, ltb, eqb, T, ltb→lt}
use lib.ListN.{length, take, get_or, replicate, length-map, length-replicate, get_or-replicate, get_or-map}
use lib.Seq.{sets}
use borrow.Author.Tests.{lt-leb, lt-ltb, ltb-true, eq-eqb, ne_eqb}
use Rattle.std.specs.Prelude.{Option, Some, None, Ok, Err, ok_or}
use Rattle.tables.specs.Order.{nat_order, nat_lt, gt_lt}
use Rattle.tables.specs.Table.{pick, every, All, Asc, Below, Normal, below_trans}
use Rattle.tables.specs.Zip.{get_none}
use Rattle.dots.specs.declared.Dot.{Dot}
use Rattle.dots.specs.Dot.{clocks, actor_of, no_dot}
use Rattle.dots.specs.Clock.{Clock, count, covers}
use Rattle.dots.specs.Covering.{count_same, count_other}
use Rattle.dots.specs.Rising.{true_from, both_left, both_right}
use Rattle.dots.specs.ClockLaws.{dot_proper}
use Rattle.clocks.specs.VClock.{dots_of, vclock, dots_vclock}
use Rattle.replica.specs.Replica.{Entry, Replica}
use Rattle.replica.specs.Kills.{kills_of}
use Rattle.replica.proofs.KillsFacts.{spared_number}
use Rattle.layout.specs.Fields.{u32_at}
use Rattle.layout.specs.Lists.{list_at, starts_at}
use Rattle.layout.specs.Clock.{clock_at, clock_end}
use Rattle.layout.specs.Rows.{row_at, row_in, row_end, rows_at, places_at, wait_in, wait_at_place, wait_end, waits_at, wait_places_at, waits_end_at, members_at}
use Rattle.layout.specs.Image.{image_in, image_of, good_image}
use Rattle.layout.specs.Good.{good_clock, good_members, good_rows, good_waits, good_entry, good_contents, checks_in}
use Rattle.layout.specs.Kit.{Stands}
use Rattle.layout.proofs.KitFacts.{stands, named, clock_normal, place_row, place_good, first_wait, length_starts_at, length_clock_at, each_from}
use Rattle.layout.proofs.Form.{length_list_at}
use Rattle.layout.proofs.Checks.{rows_rise, members_rise, passed}
use Rattle.scan.specs.Scan.{laid_rows}
use Rattle.scan.proofs.Tables.{first_laid}
use Rattle.kills.specs.Lines.{top_line, kill_table, members_of, wait_read, waits_of}
use Rattle.kills.specs.Laws.{Ordered, top_above, kill_numbers}
use Rattle.kills.proofs.Steps.{taken}
use Rattle.kills.proofs.Parts.{members_part, waits_part}
use Rattle.image.specs.Fits.{within, fits, fit_all, EachInside}
use Rattle.layout.proofs.MainFacts.{checked}
use Rattle.image.specs.declared.Image.{Image}
use Rattle.image.specs.Image.{image_of_bytes, check_image, laid_parts_tests, laid_parts, parts_image}
use Rattle.image.proofs.Steps.{contents_few}
use Rattle.image.proofs.Rise.{rise, all_rise, rows_are, parts_are}
use Rattle.image.proofs.Whole.{read_good, then_told, then_untold}

-- ---- one entry

covers_skip : (x : Dot) (v ds : Clock) → Below compare (actor_of x) (map (λ d. actor_of d) ds) → covers (x ∷ v) ds ≡ covers v ds
unfolding covers
covers_skip x v [] h = refl
covers_skip x v (d ∷ ds) h =
    let k = nat_lt (actor_of x) (actor_of d) h.0 in
    ap₂ ◌&&◌ (ap (leb d.counter) (count_other x v (actor_of d) (λ e. omega arith))) (covers_skip x v ds h.1)

count_low : (v : Clock) (a : ℕ) → Below compare a (map (λ d. actor_of d) v) → count v a ≡ 0
count_low v a h = get_none clocks v a h

covers_low : (v : Clock) (d : Dot) (ds : Clock) → 0 < d.counter → Below compare (actor_of d) (map (λ d. actor_of d) v) → covers v (d ∷ ds) ≡ false
unfolding covers
covers_low v d ds h b = rw (count_low v (actor_of d) b, lt-leb d.counter 0 h)

reorder : (a b c e : Bool) → (a && b && (c && e)) ≡ (a && c && (b && e))
reorder true true c e = refl
reorder true false true e = refl
reorder true false false e = refl
reorder false b c e = refl

module _ (t : List ℕ) (k : ℕ → ℕ) where
  above : Dot → Bool
  above d = ltb (k (actor_of d)) d.counter

  pub fits_is : (q : ℕ) (v ds : Clock) → Asc compare (map (λ d. actor_of d) v) → Asc compare (map (λ d. actor_of d) ds) → All (λ d. 0 < d.counter) ds
      → ((j : ℕ) → j < length v → get_or t (q + j) 0 ≡ k (actor_of (get_or v j no_dot))) → fits t q v ds ≡ (covers v ds && every (λ d. ltb (k (actor_of d)) d.counter) ds)
  unfolding fits covers
  fits_is q [] [] va da pos h = refl
  fits_is q [] (d ∷ ds) va da pos h = rw (lt-leb d.counter 0 pos.0)
  fits_is q (x ∷ v) [] va da pos h = refl
  fits_is q (x ∷ v) (d ∷ ds) va da pos h =
      go (compare (actor_of d) (actor_of x)) refl (fits_is (suc q) v ds va.1 da.1 pos.1 shift) (fits_is (suc q) v (d ∷ ds) va.1 da pos shift)
    where
      shift : (j : ℕ) → j < length v → get_or t (suc q + j) 0 ≡ k (actor_of (get_or v j no_dot))
      shift j l = let e : suc q + j ≡ q + suc j = omega arith in rw e (h (suc j) (omega arith))

      go : (o : Ordering) → compare (actor_of d) (actor_of x) ≡ o → fits t (suc q) v ds ≡ (covers v ds && every (λ d. ltb (k (actor_of d)) d.counter) ds)
          → fits t (suc q) v (d ∷ ds) ≡ (covers v (d ∷ ds) && every (λ d. ltb (k (actor_of d)) d.counter) (d ∷ ds)) → fits t q (x ∷ v) (d ∷ ds) ≡ (covers (x ∷ v) (d ∷ ds) && every (λ d. ltb (k (actor_of d)) d.counter) (d ∷ ds))
      go Ordering.lt e i r =
          let l = nat_lt (actor_of d) (actor_of x) e in
          let b = below_trans compare nat_order (actor_of d) (actor_of x) (map (λ d. actor_of d) v) e va.0 in
          rw (ne_eqb (actor_of d) (actor_of x) (λ z. omega arith), covers_low (x ∷ v) d ds pos.0 (e, b))
          (r ∙ rw (covers_low v d ds pos.0 b))
      go Ordering.eq e i r =
          let s : actor_of d ≡ actor_of x = nat_order.same (actor_of d) (actor_of x) e in
          let b : Below compare (actor_of x) (map (λ d. actor_of d) ds) = subst (λ (a : ℕ). Below compare a (map (λ d. actor_of d) ds)) s da.0 in
          let z : get_or t q 0 ≡ k (actor_of d) = rw add-zero at (h 0 (omega arith)) ∙ ap k (sym s) in
          let c : count (x ∷ v) (actor_of d) ≡ x.counter = ap (count (x ∷ v)) s ∙ count_same x v in
          rw (eq-eqb (actor_of d) (actor_of x) s, z, i)
          (reorder (leb d.counter x.counter) (ltb (k (actor_of d)) d.counter) (covers v ds) (every (λ d. ltb (k (actor_of d)) d.counter) ds)
          ∙ ap (λ (w : Bool). w && every (λ d. ltb (k (actor_of d)) d.counter) (d ∷ ds)) (ap₂ ◌&&◌ (ap (leb d.counter) (sym c)) (sym (covers_skip x v ds b))))
      go Ordering.gt e i r =
          let g = gt_lt compare nat_order (actor_of d) (actor_of x) e in
          let l = nat_lt (actor_of x) (actor_of d) g in
          let b = below_trans compare nat_order (actor_of x) (actor_of d) (map (λ d. actor_of d) ds) g da.0 in
          rw (ne_eqb (actor_of d) (actor_of x) (λ z. omega arith), covers_skip x v (d ∷ ds) (g, b)) r

positive : (ds : Clock) → Normal clocks ds → All (λ d. 0 < d.counter) ds
positive [] n = tt
positive (d ∷ ds) n = (ltb→lt 0 d.counter (dot_proper d n.proper.0), positive ds (record { asc = n.asc.1; proper = n.proper.1 }))

-- ---- all entries

all_index : (t s : List ℕ) (v : Clock) (R : Replica) (d₀ : Entry) (i p n : ℕ)
    → ((m : ℕ) → m < n → fits t (16 * (i + m)) v (clock_at s (get_or (places_at s p n) m 0 + 4)) ≡ good_entry R (get_or (rows_at s p n) m d₀))
    → fit_all t s v true i (places_at s p n) ≡ every (good_entry R) (rows_at s p n)
unfolding fit_all starts_at list_at
all_index t s v R d₀ i p zero h = refl
all_index t s v R d₀ i p (suc n) h =
    ap₂ ◌&&◌ (rw add-zero at (h 0 (omega arith)))
    (all_index t s v R d₀ (suc i) (row_end s p) n (λ m l. let e : suc i + m ≡ i + suc m = omega arith in rw e (h (suc m) (omega arith))))

-- ---- a lower line

fits_lower : (t u : List ℕ) (q r : ℕ) (v ds : Clock) → ((j : ℕ) → j < length v → get_or u (r + j) 0 ≤ get_or t (q + j) 0) → fits t q v ds ≡ true → fits u r v ds ≡ true
unfolding fits
fits_lower t u q r [] [] h g = g
fits_lower t u q r [] (d ∷ ds) h g = g
fits_lower t u q r (x ∷ v) [] h g = g
fits_lower t u q r (x ∷ v) (d ∷ ds) h g =
    go (eqb (actor_of d) (actor_of x)) (fits_lower t u (suc q) (suc r) v ds shift) (fits_lower t u (suc q) (suc r) v (d ∷ ds) shift) g
  where
    shift : (j : ℕ) → j < length v → get_or u (suc r + j) 0 ≤ get_or t (suc q + j) 0
    shift j l = let e : suc r + j ≡ r + suc j = omega arith in let f : suc q + j ≡ q + suc j = omega arith in rw (e, f) (h (suc j) (omega arith))

    go : (b : Bool) → (fits t (suc q) v ds ≡ true → fits u (suc r) v ds ≡ true) → (fits t (suc q) v (d ∷ ds) ≡ true → fits u (suc r) v (d ∷ ds) ≡ true)
        → pick b (within d.counter x (get_or t q 0) && fits t (suc q) v ds) (fits t (suc q) v (d ∷ ds)) ≡ true
        → pick b (within d.counter x (get_or u r 0) && fits u (suc r) v ds) (fits u (suc r) v (d ∷ ds)) ≡ true
    go true i r' e =
        let covered = leb d.counter x.counter in
        let over = ltb (get_or t q 0) d.counter in
        let w = both_left (covered && over) (fits t (suc q) v ds) e in
        let k = ltb-true (get_or t q 0) d.counter (both_right covered over w) in
        let l = rw (add-zero r, add-zero q) at (h 0 (omega arith)) in
        rw (both_left covered over w, lt-ltb (get_or u r 0) d.counter (omega arith)) (i (both_right (covered && over) (fits t (suc q) v ds) e))
    go false i r' e = r' e

all_lower : (t u s : List ℕ) (v : Clock) (i : ℕ) (ps : List ℕ) → ((m j : ℕ) → m < length ps → j < length v → get_or u (16 * (i + m) + j) 0 ≤ get_or t j 0) → fit_all t s v false i ps ≡ true → fit_all u s v true i ps ≡ true
unfolding fit_all
all_lower t u s v i [] h g = g
all_lower t u s v i (p ∷ ps) h g =
    let first = fits t 0 v (clock_at s (p + 4)) in
    let others = fit_all t s v false (suc i) ps in
    rw (fits_lower t u 0 (16 * i) v (clock_at s (p + 4)) (λ j l. rw (zero-add j) (rw add-zero at (h 0 j (omega arith) l))) (both_left first others g))
    (all_lower t u s v (suc i) ps (λ m j k l. let e : suc i + m ≡ i + suc m = omega arith in rw e (h (suc m) j (omega arith) l)) (both_right first others g))

-- ---- what is read at the places is what stands there

members_are : (s : List ℕ) (p n : ℕ) → map (λ q. u32_at s q) (places_at s p n) ≡ map (λ e. e.member) (rows_at s p n)
unfolding starts_at list_at row_in
members_are s p zero = refl
members_are s p (suc n) = ap (λ (l : List ℕ). u32_at s p ∷ l) (members_are s (row_end s p) n)

wait_is : (s : List ℕ) (p : ℕ) → good_clock s p ≡ true → good_members s (clock_end s p) ≡ true → wait_read s p ≡ wait_at_place s p
unfolding wait_read wait_in
wait_is s p g m =
    let w = named s (clock_end s p) m in
    let e : min (u32_at s (clock_end s p)) 64 ≡ u32_at s (clock_end s p) = omega (arith, w.few) in
    rw (read_good s p g, e)

waits_are : (s : List ℕ) (p : ℕ) (last : Clock) (n : ℕ) → good_waits s p last n ≡ true → map (λ q. wait_read s q) (wait_places_at s p n) ≡ waits_at s p n
unfolding starts_at list_at
waits_are s p last zero g = refl
waits_are s p last (suc n) g = let f = first_wait s p last n g in ap₂ ◌∷◌ (wait_is s p f.clock_good f.members_good) (waits_are s (wait_end s p) (clock_at s p) n f.others)

map_self : (ms : List ℕ) → map (λ m. m) ms ≡ ms
map_self [] = refl
map_self (m ∷ ms) = ap (λ (l : List ℕ). m ∷ l) (map_self ms)

pub waits_ordered : (s : List ℕ) (p : ℕ) (last : Clock) (n : ℕ) → good_waits s p last n ≡ true → All Ordered (waits_at s p n)
unfolding list_at wait_in
waits_ordered s p last zero g = tt
waits_ordered s p last (suc n) g =
    let f = first_wait s p last n g in (
      record { clock_asc = (clock_normal s p f.clock_good).asc; members_asc = rw (map_self (members_at s (clock_end s p + 4) (u32_at s (clock_end s p)))) (members_rise s (clock_end s p) f.members_good) },
      waits_ordered s (wait_end s p) (clock_at s p) n f.others,
    )

-- ---- the entries of an image whose parts are laid

place_inside : (s : List ℕ) (p low n i : ℕ) → laid_rows s p low n ≡ true → i < n → row_end s (get_or (places_at s p n) i 0) ≤ length s
unfolding starts_at
place_inside s p low zero i g h = absurd (omega arith)
place_inside s p low (suc n) zero g h = (first_laid s p low n g).inside
place_inside s p low (suc n) (suc i) g h = place_inside s (row_end s p) (u32_at s p + 1) n i (first_laid s p low n g).others (omega arith)

-- the places in the check's array, and the starts
abbrev places : List ℕ → ℕ → ℕ → List ℕ
places s start n = sets (replicate 64 0) 0 (places_at s start n)

abbrev starts : List ℕ → ℕ → ℕ → List ℕ
starts s start k = sets (replicate 16 0) 0 (wait_places_at s start k)

module _ (s : List ℕ) (start n : ℕ) (few : n ≤ 64) where
  taken_places : take n (places s start n) ≡ places_at s start n
  taken_places = taken (replicate 64 0) (places_at s start n) n (length_starts_at row_end s start n) few

  ms_are : members_of s (places s start n) n ≡ map (λ e. e.member) (rows_at s start n)
  unfolding members_of
  ms_are = rw taken_places (members_are s start n)

  length_taken : length (take n (places s start n)) ≡ n
  length_taken = ap length taken_places ∙ length_starts_at row_end s start n

  each_inside : laid_rows s start 0 n ≡ true → EachInside s (take n (places s start n)) (length (take n (places s start n)))
  each_inside g = let l = length_taken in record { each = λ i h. rw taken_places (place_inside s start 0 n i g (omega arith)) }

ws_are : (s : List ℕ) (start k : ℕ) → k ≤ 16 → good_waits s start [] k ≡ true → waits_of s (starts s start k) k ≡ waits_at s start k
unfolding waits_of
ws_are s start k few g = rw (taken (replicate 16 0) (wait_places_at s start k) k (length_starts_at wait_end s start k) few) (waits_are s start [] k g)

-- ---- and whose clocks rise

module _ (s : List ℕ) (start n wstart k : ℕ) (few : n ≤ 64) (waits_few : k ≤ 16) (cg : good_clock s 24 ≡ true) (rg : good_rows s start 0 n ≡ true) (wg : good_waits s wstart [] k ≡ true) where
  abbrev R : Replica
  R = record { clock = clock_at s 24; entries = rows_at s start n; waiting = waits_at s wstart k }

  clock_is : dots_of (vclock (clock_at s 24)) ≡ clock_at s 24
  clock_is = dots_vclock (clock_at s 24) (let w = stands s 24 cg in let e = length_clock_at s 24 in omega (arith, w.count))

  abbrev lines : List ℕ
  lines = kill_table (clock_at s 24) (map (λ e. e.member) (rows_at s start n)) (waits_at s wstart k) (replicate 16 0) (replicate 1024 0)

  length_members : length (map (λ e. e.member) (rows_at s start n)) ≡ n
  length_members = simp (length-map, length_list_at)

  member_at : (m : ℕ) → m < n → get_or (map (λ e. e.member) (rows_at s start n)) m 0 ≡ u32_at s (get_or (places_at s start n) m 0)
  unfolding row_in
  member_at m h = get_or-map (λ e. e.member) (rows_at s start n) m (record { member = 0; clock = [] }) ∙ ap (λ (e : Entry). e.member) (place_row s start n m (record { member = 0; clock = [] }) h)

  few_actors : length (clock_at s 24) ≤ 16
  few_actors = let w = stands s 24 cg in let q = length_clock_at s 24 in omega (arith, w.count)

  line_number : (m j : ℕ) → m < n → j < length (clock_at s 24) → get_or lines (16 * m + j) 0 ≡ kills_of (waits_at s wstart k) (get_or (map (λ e. e.member) (rows_at s start n)) m 0) (actor_of (get_or (clock_at s 24) j no_dot))
  line_number m j h l =
      let lm = length_members in
      let lv = few_actors in
      let r = kill_numbers (clock_at s 24) (map (λ e. e.member) (rows_at s start n)) (clock_normal s 24 cg).asc (rows_rise s start 0 n rg) lv (replicate 16 0) (replicate 1024 0) refl
      (rw (length-replicate {A = ℕ} 1024 0) (omega arith)) (waits_at s wstart k) (waits_ordered s wstart [] k wg) m j (omega arith) l in
      let z = get_or-replicate {A = ℕ} 16 j 0 0 (omega arith) in
      omega arith

  one : (m : ℕ) → m < n → fits lines (16 * (0 + m)) (clock_at s 24) (clock_at s (get_or (places_at s start n) m 0 + 4)) ≡ good_entry R (get_or (rows_at s start n) m (record { member = 0; clock = [] }))
  unfolding good_entry row_in
  one m h =
      let p = get_or (places_at s start n) m 0 in
      let e : Entry = row_at s p in
      let u = clock_at s 24 in
      let ms = map (λ e. e.member) (rows_at s start n) in
      let ws = waits_at s wstart k in
      let nc = clock_normal s (p + 4) (place_good s start 0 n m rg h) in
      let nv = clock_normal s 24 cg in
      let row : get_or (rows_at s start n) m (record { member = 0; clock = [] }) ≡ row_at s p = place_row s start n m (record { member = 0; clock = [] }) h in
      let z : 0 + m ≡ m = zero-add m in
      let kn : (j : ℕ) → j < length u → get_or lines (16 * m + j) 0 ≡ kills_of ws (u32_at s p) (actor_of (get_or u j no_dot)) =
      λ j l. line_number m j h l ∙ ap (λ (x : ℕ). kills_of ws x (actor_of (get_or u j no_dot))) (member_at m h) in
      rw (z, row) (fits_is lines (λ a. kills_of ws (u32_at s p) a) (16 * m) u (clock_at s (p + 4)) nv.asc nc.asc (positive (clock_at s (p + 4)) nc) kn
      ∙ ap (λ (b : Bool). covers u (clock_at s (p + 4)) && b) (sym (spared_number ws (row_at s p) (positive (clock_at s (p + 4)) nc))))

  pub entries_are : fit_all lines s (clock_at s 24) true 0 (places_at s start n) ≡ every (good_entry R) (rows_at s start n)
  entries_are = all_index lines s (clock_at s 24) R (record { member = 0; clock = [] }) 0 start n one

  -- entries above all waiting removes are good
  above_all : fit_all (top_line (clock_at s 24) (waits_at s wstart k)) s (clock_at s 24) false 0 (places_at s start n) ≡ true → every (good_entry R) (rows_at s start n) ≡ true
  above_all g =
      let long = length_starts_at row_end s start n in
      sym entries_are ∙ all_lower (top_line (clock_at s 24) (waits_at s wstart k)) lines s (clock_at s 24) 0 (places_at s start n)
      (λ m j h l.
      let e = zero-add m in
      let ms = map (λ e. e.member) (rows_at s start n) in
      let a = line_number m j (omega arith) l in
      let b = top_above (clock_at s 24) ms (clock_normal s 24 cg).asc (rows_rise s start 0 n rg) few_actors (waits_at s wstart k) (replicate 16 0) refl (waits_ordered s wstart [] k wg) (get_or ms m 0) j l in
      rw e (omega arith))
      g

  -- as the check has it
  fit_told : (t : List ℕ) → t ≡ kill_table (dots_of (vclock (clock_at s 24))) (members_of s (take n (places s start n)) 64) (waits_of s (take k (starts s wstart k)) 16) (replicate 16 0) (replicate 1024 0)
      → fit_all t s (clock_at s 24) true 0 (take n (places s start n)) ≡ every (good_entry R) (rows_at s start n)
  fit_told t e = rw (e, clock_is, members_part s (places s start n) n few, waits_part s (starts s wstart k) k waits_few, ms_are s start n few, ws_are s wstart k waits_few wg, taken_places s start n few) entries_are

  above_told : (t : List ℕ) → t ≡ top_line (dots_of (vclock (clock_at s 24))) (waits_of s (take k (starts s wstart k)) 16)
      → fit_all t s (clock_at s 24) false 0 (take n (places s start n)) ≡ true → every (good_entry R) (rows_at s start n) ≡ true
  above_told t e g = above_all (rw (e, clock_is, waits_part s (starts s wstart k) k waits_few, ws_are s wstart k waits_few wg, taken_places s start n few) at g)

-- ---- the whole check

record Sized (s : List ℕ) : Type 0 where
  few_entries : u32_at s 12 ≤ 64
  few_waits : u32_at s 20 ≤ 16
  clock_ok : good_clock s 24 ≡ true
  laid_ok : laid_rows s (u32_at s 8) 0 (u32_at s 12) ≡ true
  waits_ok : good_waits s (u32_at s 16) [] (u32_at s 20) ≡ true

sized : (s : List ℕ) → laid_parts s ≡ true → Sized s
unfolding laid_parts
sized s e =
    let t : T (laid_parts s) = rw e tt in
    let p = each_from (laid_parts_tests s) (eqb (waits_end_at s (u32_at s 16) (u32_at s 20)) (length s)) t in
    let f = contents_few s (true_from (good_contents s) p.0) in
    record {
      few_entries = f.0;
      few_waits = f.1;
      clock_ok = true_from (good_clock s 24) p.1.0;
      laid_ok = true_from (laid_rows s (u32_at s 8) 0 (u32_at s 12)) p.1.1.1.0;
      waits_ok = true_from (good_waits s (u32_at s 16) [] (u32_at s 20)) p.1.1.1.1.1.0;
    }

module _ (s : List ℕ) where
  told : (x : Image) → Some x ≡ parts_image s → (laid_parts s ≡ true) × (x ≡ image_of_bytes s)
  unfolding parts_image
  told x e = then_told (laid_parts s) (image_of_bytes s) x e

  abbrev Lines : Image → List ℕ → Type 0
  Lines x t = t ≡ kill_table (dots_of x.clock) (members_of s (take x.entries x.places) 64) (waits_of s (take x.waits x.starts) 16) (replicate 16 0) (replicate 1024 0)

  abbrev Top : Image → List ℕ → Type 0
  Top x t = t ≡ top_line (dots_of x.clock) (waits_of s (take x.waits x.starts) 16)

  abbrev Fit : Bool → Image → List ℕ → Bool → Type 0
  Fit own x t b = b ≡ fit_all t s (clock_at s 24) own 0 (take x.entries x.places)

  abbrev rises : Bool
  rises = rise s (places_at s (u32_at s 8) (u32_at s 12))

  module _ (g : laid_parts s ≡ true) (t : List ℕ) (b : Bool) where
    fit_rises : (own : Bool) → Fit own (image_of_bytes s) t b → b ≡ true → rises ≡ true
    unfolding image_of_bytes
    fit_rises own f y =
        let z = sized s g in
        all_rise t s (clock_at s 24) own 0 (places_at s (u32_at s 8) (u32_at s 12)) (stands s 24 z.clock_ok).rises (rw (taken_places s (u32_at s 8) (u32_at s 12) z.few_entries) at (sym f ∙ y))

    module _ (h : rises ≡ true) where
      rows_ok : good_rows s (u32_at s 8) 0 (u32_at s 12) ≡ true
      rows_ok = rows_are s (u32_at s 8) 0 (u32_at s 12) ∙ rw (sized s g).laid_ok h

      entries_told : Lines (image_of_bytes s) t → Fit true (image_of_bytes s) t b → b ≡ every (good_entry (image_of s)) (image_of s).entries
      unfolding image_of_bytes image_in
      entries_told l f =
          let z = sized s g in
          f ∙ fit_told s (u32_at s 8) (u32_at s 12) (u32_at s 16) (u32_at s 20) z.few_entries z.few_waits z.clock_ok rows_ok z.waits_ok t l

      entries_above : Top (image_of_bytes s) t → Fit false (image_of_bytes s) t b → b ≡ true → every (good_entry (image_of s)) (image_of s).entries ≡ true
      unfolding image_of_bytes image_in
      entries_above l f y =
          let z = sized s g in
          above_told s (u32_at s 8) (u32_at s 12) (u32_at s 16) (u32_at s 20) z.few_entries z.few_waits z.clock_ok rows_ok z.waits_ok t l (sym f ∙ y)

  -- what the code may ask of the parts
  pub record Asked (x : Image) : Type 0 where
    pub entries_few : x.entries ≤ 64
    pub waits_few : x.waits ≤ 16
    pub places_few : length (take x.entries x.places) ≤ 64
    pub clock_stands : Stands s 24
    pub inside : EachInside s (take x.entries x.places) (length (take x.entries x.places))

  pub asked : (x : Image) → Some x ≡ parts_image s → Asked x
  unfolding image_of_bytes
  asked x e =
      let r = told x e in
      let z = sized s r.0 in
      subst (λ (y : Image). Asked y) (sym r.1) (record { entries_few = z.few_entries; waits_few = z.few_waits; places_few = rw (length_taken s (u32_at s 8) (u32_at s 12) z.few_entries) z.few_entries; clock_stands = stands s 24 z.clock_ok; inside = each_inside s (u32_at s 8) (u32_at s 12) z.few_entries z.laid_ok })

  module _ (x : Image) (e : Some x ≡ parts_image s) (t : List ℕ) (b : Bool) where
    pub check_above : Top x t → Fit false x t b → b ≡ true → Some x ≡ check_image s
    unfolding check_image checks_in
    check_above l f y =
        let r = told x e in
        let f' = subst (λ (z : Image). Fit false z t b) r.1 f in
        let h = fit_rises r.0 t b false f' y in
        ap Some r.1 ∙ sym (rw (checked s, parts_are s, r.0, h, entries_above r.0 t b h (subst (λ (z : Image). Top z t) r.1 l) f' y))

    module _ (l : Lines x t) (f : Fit true x t b) where
      fit : rises ≡ true → b ≡ every (good_entry (image_of s)) (image_of s).entries
      fit h = let r = told x e in entries_told r.0 t b h (subst (λ (y : Image). Lines y t) r.1 l) (subst (λ (y : Image). Fit true y t b) r.1 f)

      pub check_good : b ≡ true → Some x ≡ check_image s
      unfolding check_image checks_in
      check_good y =
          let r = told x e in
          let h = fit_rises r.0 t b true (subst (λ (y : Image). Fit true y t b) r.1 f) y in
          ap Some r.1 ∙ sym (rw (checked s, parts_are s, r.0, h, sym (fit h) ∙ y))

      pub check_unfit : b ≡ false → None ≡ check_image s
      unfolding check_image checks_in
      check_unfit y = go rises refl
        where
          go : (c : Bool) → rises ≡ c → None ≡ check_image s
          go true h = sym (rw (checked s, parts_are s, (told x e).0, h, sym (fit h) ∙ y))
          go false h = sym (rw (checked s, parts_are s, (told x e).0, h))

  pub check_bad : None ≡ parts_image s → None ≡ check_image s
  unfolding check_image checks_in parts_image
  check_bad e = sym (rw (checked s, parts_are s, then_untold (laid_parts s) (image_of_bytes s) e))

-- ---- the calls

pub image_good : (s : List ℕ) (x : Image) → Some x ≡ check_image s → (good_image s ≡ true) × (x ≡ image_of_bytes s)
unfolding check_image
image_good s x e = then_told (good_image s) (image_of_bytes s) x e

pub image_bad : (s : List ℕ) → None ≡ check_image s → good_image s ≡ false
unfolding check_image
image_bad s e = then_untold (good_image s) (image_of_bytes s) e

-- the same where the call makes a refusal of it
pub ok_told : {A E : Type 0} (o : Option A) (e : E) (x : A) → Ok x ≡ ok_or o e → Some x ≡ o
ok_told (Some y) e x h = cc
ok_told None e x h = absurd (cc)

pub err_told : {A E : Type 0} (o : Option A) (e r : E) → Err r ≡ ok_or o e → (None ≡ o) × (r ≡ e)
err_told (Some y) e r h = absurd (cc)
err_told None e r h = (refl, cc)

-- what a caller may go by: the members at the places are the entries', and the waiting removes at the starts are the image's, each in order
pub record Stood (s : List ℕ) (x : Image) : Type 0 where
  pub members_stood : members_of s x.places x.entries ≡ map (λ e. e.member) (image_of s).entries
  pub waits_stood : waits_of s x.starts x.waits ≡ (image_of s).waiting
  pub waits_in_order : All Ordered (image_of s).waiting

pub stood : (s : List ℕ) (x : Image) → Some x ≡ check_image s → Stood s x
unfolding image_of_bytes image_in
stood s x e =
    let t = image_good s x e in
    let h = passed s t.0 in
    let y : x ≡ image_of_bytes s = t.1 in
    record {
      members_stood = ap (λ (z : Image). members_of s z.places z.entries) y ∙ ms_are s (u32_at s 8) (u32_at s 12) h.few_members;
      waits_stood = ap (λ (z : Image). waits_of s z.starts z.waits) y ∙ ws_are s (u32_at s 16) (u32_at s 20) h.few_waiting h.waits_good;
      waits_in_order = waits_ordered s (u32_at s 16) [] (u32_at s 20) h.waits_good;
    }
