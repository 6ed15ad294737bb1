-- What each test of the parts says of the whole.
use Prim.Native.Nat.{ℕ, zero, suc, ◌+◌, ◌≤◌, min}
use mathlib.Core.Path.{◌≡◌, refl, sym, ap, ◌∙◌}
use mathlib.Core.Bool.{Bool, true, false, ◌&&◌, and-false}
use mathlib.Core.List.{List, []}
use native.Mathlib.Omega.{arith}
use lib.Dec.{leb}
use lib.ListN.{length}
use borrow.Author.Tests.{le-leb, eq-eqb, ne_eqb}
use Rattle.std.specs.Prelude.{Some, None}
use Rattle.std.proofs.lemmas.Option.{same_Some}
use Rattle.std.specs.Bool.{then_some}
use Rattle.dots.specs.Rising.{both_right}
use Rattle.clocks.specs.declared.VClock.{VClock}
use Rattle.clocks.specs.VClock.{vclock}
use Rattle.layout.specs.Fields.{u32_at}
use Rattle.layout.specs.Lists.{end_after}
use Rattle.layout.specs.Clock.{clock_in, clock_at, clock_end}
use Rattle.layout.specs.Rows.{row_end, places_at, rows_end_at, wait_places_at, waits_end_at}
use Rattle.layout.specs.Image.{image_in}
use Rattle.layout.specs.Good.{good_clock, good_waits, good_contents}
use Rattle.layout.proofs.KitFacts.{stands, clock_room}
use Rattle.image.proofs.Steps.{contents_few}
use Rattle.fields.specs.Read.{clock_read}
use Rattle.scan.specs.declared.Table.{Table}
use Rattle.scan.specs.Scan.{clock_ends, laid_rows, table_of, rows_table, waits_table, inside}
use Rattle.scan.proofs.Tables.{first_laid}
use Rattle.image.specs.Image.{image_of_bytes, laid_parts, parts_image}

-- a clock that stands reads as it stands
pub read_good : (s : List ℕ) (at : ℕ) → good_clock s at ≡ true → clock_read s at ≡ clock_at s at
unfolding clock_read clock_in
read_good s at g = let w = stands s at g in let e : min (u32_at s at) 16 ≡ u32_at s at = omega (arith, w.count) in rw e

-- an option that a test decides: what it holds says how the test went
pub then_told : {A : Type 0} (b : Bool) (x y : A) → Some y ≡ then_some b x → (b ≡ true) × (y ≡ x)
then_told true x y e = (refl, same_Some y x e)
then_told false x y e = absurd (cc)

pub then_untold : {A : Type 0} (b : Bool) (x : A) → None ≡ then_some b x → b ≡ false
then_untold true x e = absurd (cc)
then_untold false x e = refl

pub clock_some : (s : List ℕ) (at e : ℕ) → Some e ≡ clock_ends s at → (good_clock s at ≡ true) × (e ≡ clock_end s at)
unfolding clock_ends
clock_some s at e w = then_told (good_clock s at) (clock_end s at) e w

pub rows_inside : (s : List ℕ) (p low n : ℕ) → p ≤ length s → laid_rows s p low n ≡ true → rows_end_at s p n ≤ length s
unfolding end_after
rows_inside s p low zero h g = h
rows_inside s p low (suc n) h g = let f = first_laid s p low n g in rows_inside s (row_end s p) (u32_at s p + 1) n f.inside f.others

-- ---- what the tables tell

module _ (s : List ℕ) (at n : ℕ) where
  abbrev rows_ok : Bool
  rows_ok = inside s at && laid_rows s at 0 n

  abbrev removes_ok : Bool
  removes_ok = inside s at && good_waits s at [] n

  pub rows_told : (t : Table 64) → Some t ≡ rows_table s at n → (laid_rows s at 0 n ≡ true) × (t ≡ table_of 64 (rows_end_at s at n) (places_at s at n))
  unfolding rows_table
  rows_told t e =
      let r = then_told (leb n 64 && rows_ok) (table_of 64 (rows_end_at s at n) (places_at s at n)) t e in
      (both_right (inside s at) (laid_rows s at 0 n) (both_right (leb n 64) rows_ok r.0), r.1)

  pub removes_told : (t : Table 16) → Some t ≡ waits_table s at n → (good_waits s at [] n ≡ true) × (t ≡ table_of 16 (waits_end_at s at n) (wait_places_at s at n))
  unfolding waits_table
  removes_told t e =
      let r = then_told (leb n 16 && removes_ok) (table_of 16 (waits_end_at s at n) (wait_places_at s at n)) t e in
      (both_right (inside s at) (good_waits s at [] n) (both_right (leb n 16) removes_ok r.0), r.1)

  module _ (hl : length s ≤ 4294967295) (ha : at ≤ length s) where
    pub rows_untold : n ≤ 64 → None ≡ rows_table s at n → laid_rows s at 0 n ≡ false
    unfolding rows_table
    rows_untold hn e =
        let r = then_untold (leb n 64 && rows_ok) (table_of 64 (rows_end_at s at n) (places_at s at n)) e in
        rw (le-leb n 64 hn, le-leb (length s) 4294967295 hl, le-leb at (length s) ha) at r

    pub removes_untold : n ≤ 16 → None ≡ waits_table s at n → good_waits s at [] n ≡ false
    unfolding waits_table
    removes_untold hn e =
        let r = then_untold (leb n 16 && removes_ok) (table_of 16 (waits_end_at s at n) (wait_places_at s at n)) e in
        rw (le-leb n 16 hn, le-leb (length s) 4294967295 hl, le-leb at (length s) ha) at r

-- ---- the whole

module _ (s : List ℕ) where
  pub no_contents : good_contents s ≡ false → None ≡ parts_image s
  unfolding parts_image laid_parts
  no_contents h = rw h

  pub no_clock : None ≡ clock_ends s 24 → None ≡ parts_image s
  unfolding parts_image laid_parts clock_ends
  no_clock w = simp (then_untold (good_clock s 24) (clock_end s 24) w, and-false)

  module _ (contents : good_contents s ≡ true) (long : length s ≤ 4294967295) (start : ℕ) (clock : Some start ≡ clock_ends s 24) where
    pub no_start : (u32_at s 8 ≡ start → ⊥) → None ≡ parts_image s
    unfolding parts_image laid_parts
    no_start d = simp (ne_eqb (u32_at s 8) (clock_end s 24) (λ q. d (q ∙ sym (clock_some s 24 start clock).1)), and-false)

    module _ (here : u32_at s 8 ≡ start) (n : ℕ) (count : n ≡ u32_at s 12) where
      start_inside : u32_at s 8 ≤ length s
      start_inside = let k = clock_some s 24 start clock in rw (here ∙ k.1) (clock_room s 24 (stands s 24 k.0))

      pub no_rows : None ≡ rows_table s start n → None ≡ parts_image s
      unfolding parts_image laid_parts
      no_rows e = simp (rows_untold s (u32_at s 8) (u32_at s 12) long start_inside (contents_few s contents).0 (rw (← here, count) at e), and-false)

      module _ (t : Table 64) (rows : Some t ≡ rows_table s start n) where
        laid : (laid_rows s (u32_at s 8) 0 (u32_at s 12) ≡ true) × (t ≡ table_of 64 (rows_end_at s (u32_at s 8) (u32_at s 12)) (places_at s (u32_at s 8) (u32_at s 12)))
        laid = rows_told s (u32_at s 8) (u32_at s 12) t (rw (← here, count) at rows)

        rows_end : t.next ≡ rows_end_at s (u32_at s 8) (u32_at s 12)
        rows_end = ap (λ (x : Table 64). x.next) laid.1

        pub no_waits_start : (u32_at s 16 ≡ t.next → ⊥) → None ≡ parts_image s
        unfolding parts_image laid_parts
        no_waits_start d = simp (ne_eqb (u32_at s 16) (rows_end_at s (u32_at s 8) (u32_at s 12)) (λ q. d (q ∙ sym rows_end)), and-false)

        module _ (after : u32_at s 16 ≡ t.next) (m : ℕ) (wait_count : m ≡ u32_at s 20) where
          pub no_removes : None ≡ waits_table s t.next m → None ≡ parts_image s
          unfolding parts_image laid_parts
          no_removes e =
              let room : u32_at s 16 ≤ length s = rw (after ∙ rows_end) (rows_inside s (u32_at s 8) 0 (u32_at s 12) start_inside laid.0) in
              simp (removes_untold s (u32_at s 16) (u32_at s 20) long room (contents_few s contents).1 (rw (← after, wait_count) at e), and-false)

          module _ (w : Table 16) (removes : Some w ≡ waits_table s t.next m) where
            waiting : (good_waits s (u32_at s 16) [] (u32_at s 20) ≡ true) × (w ≡ table_of 16 (waits_end_at s (u32_at s 16) (u32_at s 20)) (wait_places_at s (u32_at s 16) (u32_at s 20)))
            waiting = removes_told s (u32_at s 16) (u32_at s 20) w (rw (← after, wait_count) at removes)

            removes_end : w.next ≡ waits_end_at s (u32_at s 16) (u32_at s 20)
            removes_end = ap (λ (x : Table 16). x.next) waiting.1

            pub no_end : (w.next ≡ length s → ⊥) → None ≡ parts_image s
            unfolding parts_image laid_parts
            no_end d = simp (ne_eqb (waits_end_at s (u32_at s 16) (u32_at s 20)) (length s) (λ q. d (removes_end ∙ q)), and-false)

            pub all_parts : w.next ≡ length s → (c : VClock) → c ≡ vclock (clock_read s 24)
                → Some (record { clock = c; entries = n; places = t.places; waits = m; starts = w.places }) ≡ parts_image s
            unfolding parts_image image_of_bytes laid_parts image_in
            all_parts end c read =
                let k = clock_some s 24 start clock in
                let same : c ≡ vclock (clock_at s 24) = read ∙ ap vclock (read_good s 24 k.0) in
                (λ i. Some (record { clock = same i; entries = count i; places = (laid.1 i).places; waits = wait_count i; starts = (waiting.1 i).places }))
                ∙ sym (rw (contents, k.0, eq-eqb (u32_at s 8) (clock_end s 24) (here ∙ k.1), laid.0, eq-eqb (u32_at s 16) (rows_end_at s (u32_at s 8) (u32_at s 12)) (after ∙ rows_end), waiting.0, eq-eqb (waits_end_at s (u32_at s 16) (u32_at s 20)) (length s) (sym removes_end ∙ end)))
