-- What the loops start from, of images that passed the check.
use Prim.Native.Nat.{ℕ, ◌≤◌, ◌<◌}
use mathlib.Core.Path.{◌≡◌, refl, ap}
use mathlib.Core.Bool.{true}
use mathlib.Core.Option.{some}
use mathlib.Core.List.{List, [], ◌∷◌, map}
use native.Mathlib.Omega.{arith}
use lib.ListN.{length}
use Rattle.tables.specs.Table.{Normal, All, all_map}
use Rattle.tables.specs.Zip.{Ascend}
use Rattle.dots.specs.Dot.{clocks}
use Rattle.dots.specs.Clock.{Clock}
use Rattle.replica.specs.Replica.{Wait, waits, member_sets}
use Rattle.replica.specs.Limits.{full}
use Rattle.layout.specs.Lists.{list_at, end_after}
use Rattle.layout.specs.Clock.{narrow}
use Rattle.layout.specs.Rows.{waits_at, waits_end_at}
use Rattle.layout.specs.Image.{rows_from, waits_from, length_of, image_in, image_of, good_image, entries_start, entries_count, waits_start_at, waits_count}
use Rattle.layout.proofs.Form.{span_list}
use Rattle.layout.specs.Formed.{WaitFine}
use Rattle.layout.proofs.Parts.{sound_narrow, row_form, wait_form, row_laws, wait_laws, faithful_clock}
use Rattle.layout.proofs.KitFacts.{stands}
use Rattle.layout.proofs.Checks.{passed, rows_rise, waits_rise}
use Rattle.layout.proofs.Round.{length_encode}
use Rattle.layout.proofs.MainFacts.{at_most, good_formed}
use Rattle.image.specs.declared.Image.{Image}
use Rattle.image.specs.Image.{image_of_bytes, check_image}
use Rattle.image.proofs.Link.{stood}
use Rattle.merging.specs.Draft.{Held}
use Rattle.merging.specs.Waiting.{Sound, WaitsReady}
use Rattle.merging.proofs.WaitSteps.{end_ge}

pub short : (s : List ℕ) → good_image s ≡ true → length s ≤ 18268
unfolding length_of waits_from rows_from image_in
short s g =
    let r = (passed s g).readable_ok in
    let a = at_most (image_of s) (good_formed s (rw g tt)) in
    let l = length_encode narrow (image_of s) in
    let c = (faithful_clock narrow sound_narrow).span s 24 in
    let e = span_list (row_form narrow) row_laws s (entries_start s) (entries_count s) in
    let w = span_list (wait_form narrow) wait_laws s (waits_start_at s) (waits_count s) in
    omega arith

-- a good image is held by what the check tells of it
pub held_image : (s : List ℕ) (x : Image) → good_image s ≡ true → x ≡ image_of_bytes s → Held s x
unfolding image_of_bytes image_in check_image
held_image s x g e =
    let P = passed s g in
    let n : x.entries ≡ entries_count s = ap (λ (y : Image). y.entries) e in
    let t = stood s x (rw (g, e)) in
    let l = short s g in
    let h = end_ge s (waits_start_at s) (waits_count s) in
    let r = P.readable_ok in
    record {
      clock_few = omega (arith, (stands s 24 P.clock_good).count);
      number = n;
      few = omega (arith, P.few_members);
      edge = omega arith;
      room = omega arith;
      rise = rows_rise s (entries_start s) 0 (entries_count s) P.rows_good;
      members = t.members_stood;
      waiting = t.waits_stood;
      ordered = t.waits_in_order;
    }

-- ---- waiting removes

-- those of one side: m from p on
pub record WaitsHeld (s : List ℕ) (p m : ℕ) : Type 0 where
  pub few : m ≤ 16
  pub rise : Ascend waits (waits_at s p m)
  pub all_sound : All Sound (waits_at s p m)
  pub edge : waits_end_at s p m < 65536
  pub inside : waits_end_at s p m ≤ length s

pub waits_ready : (v : Clock) (s : List ℕ) (p m : ℕ) (t : List ℕ) (q k : ℕ) → WaitsHeld s p m → WaitsHeld t q k → Normal clocks v → WaitsReady v s p m t q k
waits_ready v s p m t q k a b n = record {
  left_few = a.few;
  right_few = b.few;
  left_rise = a.rise;
  right_rise = b.rise;
  left_sound = a.all_sound;
  right_sound = b.all_sound;
  left_edge = a.edge;
  right_edge = b.edge;
  left_inside = a.inside;
  right_inside = b.inside;
  clock_ok = n;
}

pub none_waiting : (s : List ℕ) (p : ℕ) → p < 65536 → p ≤ length s → WaitsHeld s p 0
unfolding list_at end_after
none_waiting s p h k = record { few = omega arith; rise = tt; all_sound = tt; edge = h; inside = k }

pub wait_sound : (w : Wait) → WaitFine full w → Sound w
wait_sound w f = record {
  clock_ok = f.normal_ok;
  members_ok = record { asc = rw (map_self w.members) f.rises_ok; proper = proper w.members };
  few = f.few_ok;
  named = let n : length w.members ≤ 32 = f.named_ok in omega arith;
}
  where
    map_self : (ms : List ℕ) → map (λ m. m) ms ≡ ms
    map_self [] = refl
    map_self (m ∷ ms) = ap (λ (l : List ℕ). m ∷ l) (map_self ms)

    proper : (ms : List ℕ) → All (λ m. member_sets.row m true ≡ some m) ms
    proper [] = tt
    proper (m ∷ ms) = (refl, proper ms)

-- those of a good image
pub held_waits : (s : List ℕ) (x : Image) → good_image s ≡ true → x ≡ image_of_bytes s → WaitsHeld s (waits_start_at s) x.waits
unfolding image_of_bytes image_in
held_waits s x g e =
    let P = passed s g in
    let n : x.waits ≡ waits_count s = ap (λ (y : Image). y.waits) e in
    let l = short s g in
    let r = P.readable_ok in
    rw n (record {
      few = P.few_waiting;
      rise = (waits_rise s (waits_start_at s) [] (waits_count s) P.waits_good).1;
      all_sound = all_map (WaitFine full) Sound (image_of s).waiting wait_sound P.formed.waits_ok;
      edge = omega arith;
      inside = let e = r.end_ok in omega arith;
    })
