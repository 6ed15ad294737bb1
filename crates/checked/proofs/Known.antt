-- What the check of an image tells its caller: a good one's entries are those at the places.
use Prim.Native.Nat.{ℕ, zero, suc, ◌+◌, ◌≤◌, ◌<◌}
use mathlib.Core.Path.{◌≡◌, refl, sym, ap, ◌∙◌}
use mathlib.Core.Bool.{true}
use mathlib.Core.List.{List, ◌∷◌, map}
use native.Mathlib.Omega.{arith}
use lib.ListN.{length, get_or, take, drop, replicate}
use lib.Seq.{sets, sets-eq, length-sets, take_at, get_or-take}
use Rattle.std.specs.Prelude.{Some}
use Rattle.clocks.specs.VClock.{vclock}
use Rattle.fields.specs.Read.{clock_read}
use Rattle.layout.specs.Lists.{list_at, starts_at}
use Rattle.layout.specs.Clock.{clock_at}
use Rattle.layout.specs.Rows.{row_at, row_end, places_at}
use Rattle.layout.specs.Image.{image_in, image_of, good_image, entries_start, entries_count}
use Rattle.layout.proofs.KitFacts.{length_starts_at, place_good}
use Rattle.layout.proofs.Checks.{passed}
use Rattle.image.specs.declared.Image.{Image}
use Rattle.image.specs.Image.{image_of_bytes, check_image}
use Rattle.image.proofs.Whole.{read_good}
use Rattle.image.proofs.Link.{image_good}

pub record Known (s : List ℕ) (x : Image) : Type 0 where
  pub is_good : good_image s ≡ true
  pub clock_is : x.clock ≡ vclock (image_of s).clock
  pub few : x.entries ≤ 64
  pub long : length x.places ≡ 64
  pub rows_are : map (row_at s) (take x.entries x.places) ≡ (image_of s).entries
  pub clock_reads : (i : ℕ) → i < x.entries → clock_read s (get_or x.places i 0 + 4) ≡ clock_at s (get_or x.places i 0 + 4)

list_places : {R : Type 0} (here : List ℕ → ℕ → R) (end : List ℕ → ℕ → ℕ) (s : List ℕ) (p n : ℕ) → map (here s) (starts_at end s p n) ≡ list_at here end s p n
unfolding list_at starts_at
list_places here end s p zero = refl
list_places {R} here end s p (suc n) = ap (λ (l : List R). here s p ∷ l) (list_places here end s (end s p) n)

take_sets : (l ps : List ℕ) (n : ℕ) → length ps ≡ n → n ≤ length l → take n (sets l 0 ps) ≡ ps
take_sets l ps n e h = rw (sets-eq ps l 0 (omega arith)) (take_at ps (drop (0 + length ps) l) n e)

pub known : (s : List ℕ) (x : Image) → Some x ≡ check_image s → Known s x
unfolding image_of_bytes image_in
known s x c =
    let t = image_good s x c in
    let e : x ≡ image_of_bytes s = t.1 in
    let h = passed s t.0 in
    let n = entries_count s in
    let ps = places_at s (entries_start s) n in
    let k : x.entries ≡ n = ap (λ (y : Image). y.entries) e in
    let w : take x.entries x.places ≡ ps =
    ap (λ (y : Image). take y.entries y.places) e ∙ take_sets (replicate 64 0) ps n (length_starts_at row_end s (entries_start s) n) h.few_members in
    record {
      is_good = t.0;
      clock_is = ap (λ (y : Image). y.clock) e;
      few = omega (arith, h.few_members);
      long = ap (λ (y : Image). length y.places) e ∙ length-sets (replicate 64 0) 0 ps;
      rows_are = ap (map (row_at s)) w ∙ list_places row_at row_end s (entries_start s) n;
      clock_reads = λ i l. let q : get_or x.places i 0 ≡ get_or ps i 0 = sym (get_or-take x.entries x.places i 0 l) ∙ ap (λ (y : List ℕ). get_or y i 0) w in
          rw q (read_good s (get_or ps i 0 + 4) (place_good s (entries_start s) 0 n i h.rows_good (omega arith)));
    }
