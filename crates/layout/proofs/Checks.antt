-- The tests of one pass are the two stages: bytes pass exactly if they can be read and say a well-formed replica.
use Prim.Native.Nat.{ℕ, zero, suc, ◌+◌, ◌*◌, ◌≤◌, ◌<◌, compare}
use Rattle.std.specs.Prelude.{◌≡◌, Bool, true, ◌&&◌, leb, eqb, length}
use Rattle.std.proofs.Math.Path.{sym}
use mathlib.Core.List.{List, [], ◌∷◌, map}
use Rattle.std.proofs.Common.{arith, ltb→lt, lt→ltb}
use Rattle.std.proofs.Math.Dec.{T, leb→le, le→leb, eqb→eq}
use Rattle.tables.specs.Order.{lt_nat, nat_lt}
use Rattle.tables.specs.Truth.{and_r, and_i, bool_ext}
use Rattle.tables.specs.Table.{Normal, Asc, Below, All, every, every_all, all_every, all_map, all_both}
use Rattle.tables.specs.Ascending.{is_lt, before, ascending}
use Rattle.tables.proofs.AscendingFacts.{asc_from}
use Rattle.tables.specs.Zip.{Rise}
use Rattle.dots.specs.Dot.{clocks}
use Rattle.dots.specs.Clock.{Clock, covers, filled, cmp_clock, clock_order}
use Rattle.dots.specs.ClockLaws.{normal_from, normal_to}
use Rattle.dots.specs.Rising.{rising, rising_is, true_from}
use Rattle.replica.specs.Replica.{Entry, Wait, Replica, entry_rows}
use Rattle.replica.specs.WellFormed.{spared, sound, Fine}
use Rattle.replica.proofs.WellFormedFacts.{sound_fine}
use Rattle.replica.specs.Limits.{Limits, full, broken, well_formed}
use Rattle.layout.specs.Fields.{u32_at}
use Rattle.layout.specs.Lists.{list_at, end_after}
use Rattle.layout.specs.Clock.{Width, narrow, dot_in, dot_end_in, clock_in, clock_end_in}
use Rattle.layout.specs.Rows.{members_at, member_end, row_in, row_end_in, rows_at, wait_in, wait_end_in, waits_at}
use Rattle.layout.specs.Image.{version, zero_field, total_length, entries_start, entries_count, waits_start_at, waits_count, readable_in, image_in, image_of, readable, good_in, good_image}
use Rattle.layout.specs.Good.{named_tests, contents_tests, clock_tests, row_tests, wait_tests, parts_tests, rising_members, good_members_in, good_clock_in, good_rows_in, good_waits_in, good_contents_in, good_parts_in, good_entry, checks_in, checks, good_members, good_clock, good_rows, good_waits, good_parts}
use Rattle.layout.proofs.Form.{length_list_at, span_list}
use Rattle.layout.proofs.Parts.{Sound, sound_narrow, row_form, wait_form, faithful_clock, faithful_row, faithful_wait}
use Rattle.layout.proofs.KitFacts.{each_from, each_to}
use Rattle.layout.proofs.Round.{Readable, readable_from, readable_to, same}
use Rattle.layout.specs.Formed.{Formed, EntryFine, WaitFine}
use Rattle.layout.proofs.FormedFacts.{formed_from, formed_to}

-- ---- numbers that rise from low on

pub record Rises (low : ℕ) (ks : List ℕ) : Type 0 where
  pub from : All (λ k. low ≤ k) ks
  pub asc : Asc compare ks

rises_cons : (low k : ℕ) (ks : List ℕ) → low ≤ k → Rises (k + 1) ks → Rises low (k ∷ ks)
rises_cons low k ks h r = record { from = (h, all_map (λ j. k + 1 ≤ j) (λ j. low ≤ j) ks (λ j g. omega arith) r.from); asc = (below ks r.from, r.asc) }
  where
    below : (js : List ℕ) → All (λ j. k + 1 ≤ j) js → Below compare k js
    below [] g = tt
    below (j ∷ js) g = let l = g.0 in (lt_nat k j (omega arith), below js g.1)

rises_others : (low k : ℕ) (ks : List ℕ) → Rises low (k ∷ ks) → Rises (k + 1) ks
rises_others low k ks r = record { from = above ks r.asc.0; asc = r.asc.1 }
  where
    above : (js : List ℕ) → Below compare k js → All (λ j. k + 1 ≤ j) js
    above [] g = tt
    above (j ∷ js) g = let l = nat_lt k j g.0 in (omega arith, above js g.1)

asc_rises : (ks : List ℕ) → Asc compare ks → Rises 0 ks
asc_rises ks h = record { from = zeros ks; asc = h }
  where
    zeros : (js : List ℕ) → All (λ j. 0 ≤ j) js
    zeros [] = tt
    zeros (j ∷ js) = (omega arith, zeros js)

members_from : (low : ℕ) (ms : List ℕ) → T (rising_members low ms) → Rises low ms
unfolding rising_members
members_from low [] t = record { from = tt; asc = tt }
members_from low (m ∷ ms) t =
    let h = each_from (leb low m ∷ []) (rising_members (m + 1) ms) t in
    rises_cons low m ms (leb→le low m h.0) (members_from (m + 1) ms h.1)

members_to : (low : ℕ) (ms : List ℕ) → Rises low ms → T (rising_members low ms)
unfolding rising_members
members_to low [] r = tt
members_to low (m ∷ ms) r = and_i (leb low m) (rising_members (m + 1) ms) (le→leb low m r.from.0) (members_to (m + 1) ms (rises_others low m ms r))

-- ---- one clock, one list of members

filled_long : (c : Clock) → T (filled c) → 0 < length c
unfolding filled
filled_long [] t = absurd t
filled_long (d ∷ c) t = omega arith

long_filled : (c : Clock) → 0 < length c → T (filled c)
unfolding filled
long_filled [] h = absurd (omega arith)
long_filled (d ∷ c) h = tt

-- only a clock that is not empty comes after another
later_filled : (b c : Clock) → T (is_lt (cmp_clock b c)) → T (filled c)
unfolding filled
later_filled [] [] t = t
later_filled (d ∷ b) [] t = t
later_filled b (d ∷ c) t = tt

-- what the test of members says
record MembersFine (most : ℕ) (ms : List ℕ) : Type 0 where
  pub rises_ok : Asc compare ms
  pub named_ok : length ms ≤ most

module _ (most : ℕ) (s : List ℕ) (q : ℕ) where
  abbrev ms : List ℕ
  ms = members_at s (q + 4) (u32_at s q)

  length_ms : length (members_at s (q + 4) (u32_at s q)) ≡ u32_at s q
  length_ms = length_list_at u32_at member_end s (q + 4) (u32_at s q)

  named_from : T (good_members_in most s q) → MembersFine most (members_at s (q + 4) (u32_at s q))
  unfolding good_members_in
  named_from t =
      let h = each_from (named_tests most s q) (rising_members 0 ms) t in
      record { rises_ok = (members_from 0 ms h.1.1.1).asc; named_ok = rw length_ms (leb→le (u32_at s q) most h.1.0) }

  named_to : q + (4 + 4 * u32_at s q) ≤ length s → MembersFine most (members_at s (q + 4) (u32_at s q)) → T (good_members_in most s q)
  unfolding good_members_in
  named_to h f = each_to (named_tests most s q) (rising_members 0 ms) (
    le→leb (q + 4) (length s) (omega arith),
    (le→leb (u32_at s q) most (rw length_ms at f.named_ok), (le→leb (q + (4 + 4 * u32_at s q)) (length s) h, members_to 0 ms (asc_rises ms f.rises_ok))),
  )

filled_later : (c : Clock) → T (filled c) → T (is_lt (cmp_clock [] c))
unfolding filled
filled_later [] t = t
filled_later (d ∷ c) t = tt

module _ (A : Width) (l : Limits) where
  length_clock : (s : List ℕ) (at : ℕ) → length (clock_in A s at) ≡ u32_at s at
  unfolding clock_in
  length_clock s at = length_list_at (dot_in A) (dot_end_in A) s (at + 4) (u32_at s at)

  record ClockFine (c : Clock) : Type 0 where
    pub normal_ok : Normal clocks c
    pub few_ok : length c ≤ l.actors

  clock_from : (s : List ℕ) (at : ℕ) → T (good_clock_in A l s at) → ClockFine (clock_in A s at)
  unfolding good_clock_in
  clock_from s at t =
      let h = each_from (clock_tests A l s at) (rising 0 (clock_in A s at)) t in
      record { normal_ok = normal_from (clock_in A s at) (rw rising_is at h.1.1.1); few_ok = rw length_clock (leb→le (u32_at s at) l.actors h.1.0) }

  clock_to : (s : List ℕ) (at : ℕ) → clock_end_in A s at ≤ length s → ClockFine (clock_in A s at) → T (good_clock_in A l s at)
  unfolding good_clock_in clock_end_in
  clock_to s at h f = each_to (clock_tests A l s at) (rising 0 (clock_in A s at)) (
    le→leb (at + 4) (length s) (omega arith),
    (le→leb (u32_at s at) l.actors (rw length_clock at f.few_ok), (le→leb (clock_end_in A s at) (length s) h, rw rising_is (normal_to (clock_in A s at) f.normal_ok))),
  )

  -- ---- the entries

  record RowFine (e : Entry) : Type 0 where
    pub clock_ok : ClockFine e.clock
    pub filled_ok : T (filled e.clock)

  abbrev rows : List ℕ → ℕ → ℕ → List Entry
  rows = list_at (row_in A) (row_end_in A)

  abbrev members_in : List Entry → List ℕ
  members_in = map (λ e. e.member)

  record RowsFine (low : ℕ) (es : List Entry) : Type 0 where
    pub rises_ok : Rises low (members_in es)
    pub rows_ok : All RowFine es

  rows_from : (s : List ℕ) (p low n : ℕ) → T (good_rows_in A l s p low n) → RowsFine low (rows s p n)
  unfolding good_rows_in list_at row_in
  rows_from s p low zero t = record { rises_ok = record { from = tt; asc = tt }; rows_ok = tt }
  rows_from s p low (suc n) t =
      let h = each_from (row_tests A l s p low) (good_rows_in A l s (row_end_in A s p) (u32_at s p + 1) n) t in
      let k = rows_from s (row_end_in A s p) (u32_at s p + 1) n h.1.1.1.1 in
      let c : RowFine (row_in A s p) = record {
        clock_ok = clock_from s (p + 4) h.1.1.0;
        filled_ok = long_filled (clock_in A s (p + 4)) (rw length_clock (ltb→lt 0 (u32_at s (p + 4)) h.1.1.1.0));
      } in
      record {
        rises_ok = rises_cons low (u32_at s p) (members_in (rows s (row_end_in A s p) n)) (leb→le low (u32_at s p) h.1.0) k.rises_ok;
        rows_ok = (c, k.rows_ok);
      }

  module _ (W : Sound A) where
    rows_to : (s : List ℕ) (p low n : ℕ) → end_after (row_end_in A) s p n ≤ length s → RowsFine low (rows s p n) → T (good_rows_in A l s p low n)
    unfolding good_rows_in list_at row_in row_end_in end_after
    rows_to s p low zero h k = tt
    rows_to s p low (suc n) h k =
        let e1 = (faithful_clock A W).span s (p + 4) in
        let e2 = span_list (row_form A) (faithful_row A W) s (row_end_in A s p) n in
        let c = k.rows_ok.0 in
        let z = filled_long (clock_in A s (p + 4)) c.filled_ok in
        let others : RowsFine (u32_at s p + 1) (rows s (row_end_in A s p) n) = record { rises_ok = rises_others low (u32_at s p) (members_in (rows s (row_end_in A s p) n)) k.rises_ok; rows_ok = k.rows_ok.1 } in
        each_to (row_tests A l s p low) (good_rows_in A l s (row_end_in A s p) (u32_at s p + 1) n) (
          le→leb (p + 4) (length s) (omega arith),
          (
            le→leb low (u32_at s p) k.rises_ok.from.0,
            (
              clock_to s (p + 4) (omega arith) c.clock_ok,
              (lt→ltb 0 (u32_at s (p + 4)) (rw length_clock at z), rows_to s (row_end_in A s p) (u32_at s p + 1) n h others),
            ),
          ),
        )

  -- ---- the waiting removes

  abbrev waits : List ℕ → ℕ → ℕ → List Wait
  waits = list_at (wait_in A) (wait_end_in A)

  abbrev clocks_in : List Wait → List Clock
  clocks_in = map (λ w. w.clock)

  record WaitsFine (last : Clock) (ws : List Wait) : Type 0 where
    pub later_ok : T (ascending cmp_clock (last ∷ clocks_in ws))
    pub waits_ok : All (WaitFine l) ws

  waits_from : (s : List ℕ) (p : ℕ) (last : Clock) (n : ℕ) → T (good_waits_in A l s p last n) → WaitsFine last (waits s p n)
  unfolding good_waits_in list_at wait_in ascending before
  waits_from s p last zero t = record { later_ok = tt; waits_ok = tt }
  waits_from s p last (suc n) t =
      let h = each_from (wait_tests A l s p last) (good_waits_in A l s (wait_end_in A s p) (clock_in A s p) n) t in
      let c = clock_from s p h.0 in
      let m = named_from l.named s (clock_end_in A s p) h.1.1.0 in
      let k = waits_from s (wait_end_in A s p) (clock_in A s p) n h.1.1.1 in
      let w : WaitFine l (wait_in A s p) = record { normal_ok = c.normal_ok; filled_ok = later_filled last (clock_in A s p) h.1.0; few_ok = c.few_ok; rises_ok = m.rises_ok; named_ok = m.named_ok } in
      record {
        later_ok = and_i (is_lt (cmp_clock last (clock_in A s p))) (ascending cmp_clock (clock_in A s p ∷ clocks_in (waits s (wait_end_in A s p) n))) h.1.0 k.later_ok;
        waits_ok = (w, k.waits_ok);
      }

  module _ (W : Sound A) where
    waits_to : (s : List ℕ) (p : ℕ) (last : Clock) (n : ℕ) → end_after (wait_end_in A) s p n ≤ length s → WaitsFine last (waits s p n) → T (good_waits_in A l s p last n)
    unfolding good_waits_in list_at wait_in wait_end_in end_after ascending before
    waits_to s p last zero h k = tt
    waits_to s p last (suc n) h k =
        let e = span_list (wait_form A) (faithful_wait A W) s (wait_end_in A s p) n in
        let c = k.waits_ok.0 in
        let o = each_from (is_lt (cmp_clock last (clock_in A s p)) ∷ []) (ascending cmp_clock (clock_in A s p ∷ clocks_in (waits s (wait_end_in A s p) n))) k.later_ok in
        each_to (wait_tests A l s p last) (good_waits_in A l s (wait_end_in A s p) (clock_in A s p) n) (
          clock_to s p (omega arith) (record { normal_ok = c.normal_ok; few_ok = c.few_ok }),
          (
            o.0,
            (
              named_to l.named s (clock_end_in A s p) (omega arith) (record { rises_ok = c.rises_ok; named_ok = c.named_ok }),
              waits_to s (wait_end_in A s p) (clock_in A s p) n h (record { later_ok = o.1; waits_ok = k.waits_ok.1 }),
            ),
          ),
        )

  -- ---- the whole

  -- the tests of one pass, fact by fact
  record Tested (s : List ℕ) : Type 0 where
    pub readable_ok : Readable A s
    pub few_members : entries_count s ≤ l.members
    pub few_waiting : waits_count s ≤ l.waiting
    pub clock_ok : ClockFine (clock_in A s 24)
    pub rows_ok : RowsFine 0 (image_in A s).entries
    pub waits_ok : WaitsFine [] (image_in A s).waiting
    pub entries_ok : All (λ e. T (good_entry (image_in A s) e)) (image_in A s).entries

  abbrev end_test : List ℕ → Bool
  end_test s = eqb (end_after (wait_end_in A) s (waits_start_at s) (waits_count s)) (length s)

  tested_from : (s : List ℕ) → T (checks_in A l s) → Tested s
  unfolding checks_in good_parts_in good_contents_in image_in
  tested_from s t =
      let h = each_from (good_parts_in A l s ∷ []) (every (good_entry (image_in A s)) (image_in A s).entries) t in
      let p = each_from (parts_tests A l s) (end_test s) h.0 in
      let c = each_from (contents_tests l s) (leb (waits_count s) l.waiting) p.0 in
      record {
        readable_ok = record {
          long = leb→le 24 (length s) c.0;
          version_ok = eqb→eq (version s) 1 c.1.0;
          zero_ok = eqb→eq (zero_field s) 0 c.1.1.0;
          total_ok = eqb→eq (total_length s) (length s) c.1.1.1.0;
          start_ok = eqb→eq (entries_start s) (clock_end_in A s 24) p.1.1.0;
          waits_start_ok = eqb→eq (waits_start_at s) (end_after (row_end_in A) s (entries_start s) (entries_count s)) p.1.1.1.1.0;
          end_ok = sym (eqb→eq (end_after (wait_end_in A) s (waits_start_at s) (waits_count s)) (length s) p.1.1.1.1.1.1);
        };
        few_members = leb→le (entries_count s) l.members c.1.1.1.1.0;
        few_waiting = leb→le (waits_count s) l.waiting c.1.1.1.1.1;
        clock_ok = clock_from s 24 p.1.0;
        rows_ok = rows_from s (entries_start s) 0 (entries_count s) p.1.1.1.0;
        waits_ok = waits_from s (waits_start_at s) [] (waits_count s) p.1.1.1.1.1.0;
        entries_ok = every_all (good_entry (image_in A s)) (image_in A s).entries h.1;
      }

  tested_to : Sound A → (s : List ℕ) → Tested s → T (checks_in A l s)
  unfolding checks_in good_parts_in good_contents_in image_in
  tested_to W s h =
      let r = h.readable_ok in
      let e0 = (faithful_clock A W).span s 24 in
      let e1 = span_list (row_form A) (faithful_row A W) s (entries_start s) (entries_count s) in
      let e2 = span_list (wait_form A) (faithful_wait A W) s (waits_start_at s) (waits_count s) in
      let c : T (good_contents_in l s) = each_to (contents_tests l s) (leb (waits_count s) l.waiting) (
        le→leb 24 (length s) r.long,
        (
          same (version s) 1 r.version_ok,
          (
            same (zero_field s) 0 r.zero_ok,
            (same (total_length s) (length s) r.total_ok, (le→leb (entries_count s) l.members h.few_members, le→leb (waits_count s) l.waiting h.few_waiting)),
          ),
        ),
      ) in
      let p : T (good_parts_in A l s) = each_to (parts_tests A l s) (end_test s) (
        c,
        (
          clock_to s 24 (omega arith) h.clock_ok,
          (
            same (entries_start s) (clock_end_in A s 24) r.start_ok,
            (
              rows_to W s (entries_start s) 0 (entries_count s) (omega arith) h.rows_ok,
              (
                same (waits_start_at s) (end_after (row_end_in A) s (entries_start s) (entries_count s)) r.waits_start_ok,
                (
                  waits_to W s (waits_start_at s) [] (waits_count s) (omega arith) h.waits_ok,
                  same (end_after (wait_end_in A) s (waits_start_at s) (waits_count s)) (length s) (sym r.end_ok),
                ),
              ),
            ),
          ),
        ),
      ) in
      and_i (good_parts_in A l s) (every (good_entry (image_in A s)) (image_in A s).entries) p (all_every (good_entry (image_in A s)) (image_in A s).entries h.entries_ok)

  fine_entry : (r : Replica) (e : Entry) → RowFine e → T (good_entry r e) → EntryFine l r e
  unfolding good_entry
  fine_entry r e f t =
      let h = each_from (covers r.clock e.clock ∷ []) (every (spared e) r.waiting) t in
      record { normal_ok = f.clock_ok.normal_ok; filled_ok = f.filled_ok; few_ok = f.clock_ok.few_ok; covers_ok = h.0; spared_ok = h.1 }

  entry_good : (r : Replica) (e : Entry) → EntryFine l r e → T (good_entry r e)
  unfolding good_entry
  entry_good r e f = and_i (covers r.clock e.clock) (every (spared e) r.waiting) f.covers_ok f.spared_ok

  first_later : (ws : List Wait) → All (WaitFine l) ws → T (before cmp_clock [] (clocks_in ws))
  unfolding before
  first_later [] f = tt
  first_later (w ∷ ws) f = filled_later w.clock f.0.filled_ok

  module _ (s : List ℕ) where
    count_rows : length (image_in A s).entries ≡ entries_count s
    unfolding image_in
    count_rows = length_list_at (row_in A) (row_end_in A) s (entries_start s) (entries_count s)

    count_waits : length (image_in A s).waiting ≡ waits_count s
    unfolding image_in
    count_waits = length_list_at (wait_in A) (wait_end_in A) s (waits_start_at s) (waits_count s)

    tested_formed : Tested s → Formed l (image_in A s)
    unfolding image_in ascending
    tested_formed h = record {
      clock_ok = h.clock_ok.normal_ok;
      actors_ok = h.clock_ok.few_ok;
      rises_ok = h.rows_ok.rises_ok.asc;
      members_ok = rw count_rows h.few_members;
      entries_ok = all_both RowFine (λ e. T (good_entry (image_in A s) e)) (EntryFine l (image_in A s)) (image_in A s).entries (fine_entry (image_in A s)) h.rows_ok.rows_ok h.entries_ok;
      later_ok = and_r (before cmp_clock [] (clocks_in (image_in A s).waiting)) (ascending cmp_clock (clocks_in (image_in A s).waiting)) h.waits_ok.later_ok;
      waiting_ok = rw count_waits h.few_waiting;
      waits_ok = h.waits_ok.waits_ok;
    }

    formed_tested : Readable A s → Formed l (image_in A s) → Tested s
    unfolding image_in ascending
    formed_tested r f = record {
      readable_ok = r;
      few_members = rw count_rows at f.members_ok;
      few_waiting = rw count_waits at f.waiting_ok;
      clock_ok = record { normal_ok = f.clock_ok; few_ok = f.actors_ok };
      rows_ok = record {
        rises_ok = asc_rises (members_in (image_in A s).entries) f.rises_ok;
        rows_ok = all_map (EntryFine l (image_in A s)) RowFine (image_in A s).entries (λ e k. record { clock_ok = record { normal_ok = k.normal_ok; few_ok = k.few_ok }; filled_ok = k.filled_ok }) f.entries_ok;
      };
      waits_ok = record {
        later_ok = and_i (before cmp_clock [] (clocks_in (image_in A s).waiting)) (ascending cmp_clock (clocks_in (image_in A s).waiting)) (first_later (image_in A s).waiting f.waits_ok) f.later_ok;
        waits_ok = f.waits_ok;
      };
      entries_ok = all_map (EntryFine l (image_in A s)) (λ e. T (good_entry (image_in A s) e)) (image_in A s).entries (entry_good (image_in A s)) f.entries_ok;
    }

  good_tested : (s : List ℕ) → T (good_in A l s) → Tested s
  unfolding good_in
  good_tested s t =
      let h = each_from (readable_in A s ∷ []) (well_formed l (image_in A s)) t in
      formed_tested s (readable_from A s h.0) (formed_from l (image_in A s) h.1)

  tested_good : (s : List ℕ) → Tested s → T (good_in A l s)
  unfolding good_in
  tested_good s h = and_i (readable_in A s) (well_formed l (image_in A s)) (readable_to A s h.readable_ok) (formed_to l (image_in A s) (tested_formed s h))

  -- the tests of one pass are the two stages
  pub checks_is : Sound A → (s : List ℕ) → good_in A l s ≡ checks_in A l s
  checks_is W s = bool_ext (good_in A l s) (checks_in A l s) (λ t. tested_to W s (good_tested s t)) (λ t. tested_good s (tested_from s t))

-- ---- rows that passed are sorted, with 12 bytes per dot and the limits of document 01

pub rows_rise : (s : List ℕ) (p low n : ℕ) → good_rows s p low n ≡ true → Rise entry_rows (rows_at s p n)
rows_rise s p low n e = (rows_from narrow full s p low n (rw e tt)).rises_ok.asc

pub waits_rise : (s : List ℕ) (p : ℕ) (last : Clock) (n : ℕ) → good_waits s p last n ≡ true → Asc cmp_clock (last ∷ map (λ w. w.clock) (waits_at s p n))
waits_rise s p last n e = asc_from cmp_clock clock_order (last ∷ map (λ w. w.clock) (waits_at s p n)) (waits_from narrow full s p last n (rw e tt)).later_ok

pub members_rise : (s : List ℕ) (q : ℕ) → good_members s q ≡ true → Asc compare (members_at s (q + 4) (u32_at s q))
members_rise s q e = (named_from 32 s q (rw e tt)).rises_ok

-- ---- what passed, part by part

pub record Passed (s : List ℕ) : Type 0 where
  pub readable_ok : Readable narrow s
  pub few_members : entries_count s ≤ 64
  pub few_waiting : waits_count s ≤ 16
  pub clock_good : good_clock s 24 ≡ true
  pub rows_good : good_rows s (entries_start s) 0 (entries_count s) ≡ true
  pub waits_good : good_waits s (waits_start_at s) [] (waits_count s) ≡ true
  pub formed : Formed full (image_of s)
  pub fine : Fine (image_of s)

pub passed : (s : List ℕ) → good_image s ≡ true → Passed s
unfolding good_in checks_in good_parts_in good_contents_in well_formed
passed s e =
    let t : T (good_image s) = rw e tt in
    let g = each_from (readable s ∷ []) (well_formed full (image_of s)) t in
    let w = each_from (sound (image_of s) ∷ []) (eqb (broken full (image_of s)) 0 && every (λ w. leb (length w.clock) 16) (image_of s).waiting) g.1 in
    let k : T (checks s) = rw (← (checks_is narrow full sound_narrow s)) t in
    let h = each_from (good_parts s ∷ []) (every (good_entry (image_of s)) (image_of s).entries) k in
    let p = each_from (parts_tests narrow full s) (end_test narrow full s) h.0 in
    let c = each_from (contents_tests full s) (leb (waits_count s) 16) p.0 in
    record {
      readable_ok = readable_from narrow s g.0;
      few_members = leb→le (entries_count s) 64 c.1.1.1.1.0;
      few_waiting = leb→le (waits_count s) 16 c.1.1.1.1.1;
      clock_good = true_from (good_clock s 24) p.1.0;
      rows_good = true_from (good_rows s (entries_start s) 0 (entries_count s)) p.1.1.1.0;
      waits_good = true_from (good_waits s (waits_start_at s) [] (waits_count s)) p.1.1.1.1.1.0;
      formed = formed_from full (image_of s) g.1;
      fine = sound_fine (image_of s) w.0;
    }
