-- A second side, written whole from byte 0 on: the part of the buffer that is its image says it, and is held by what tells where it stands.
use Prim.Native.Nat.{ℕ, zero, suc, ◌+◌, ◌≤◌, ◌<◌}
use mathlib.Core.Path.{◌≡◌, sym, ap, ap₂, ◌∙◌}
use mathlib.Core.List.{List, [], ◌∷◌, map}
use native.Mathlib.Omega.{arith}
use lib.ListN.{length, take, drop}
use lib.Seq.{sets, sets-eq, length-sets, take_at}
use mir.Syntax.{w32}
use mir.Val.{WTs, of_list, vint}
use Rattle.tables.specs.Table.{All}
use Rattle.tables.specs.Zip.{Rise}
use Rattle.dots.specs.declared.Dot.{Dot}
use Rattle.dots.proofs.Dot.TheLaws as TheLaws
use Rattle.replica.specs.Replica.{Replica, entry_rows}
use Rattle.layout.specs.Fields.{u32_at}
use Rattle.layout.specs.Fits.{FitsClock, FitMembers, Fits}
use Rattle.layout.specs.Clock.{narrow}
use Rattle.layout.specs.Rows.{row_at, row_end, rows_end_at, encode_rows, wait_at_place, wait_end, waits_end_at}
use Rattle.layout.specs.Image.{rows_from, waits_from, length_of, image_in, image_of, encode, entries_start, entries_count, waits_start_at, waits_count}
use Rattle.layout.proofs.Form.{length_list_at, span_list}
use Rattle.layout.proofs.KitFacts.{length_clock_at}
use Rattle.layout.proofs.Parts.{sound_narrow, row_form, row_laws, faithful_clock}
use Rattle.layout.proofs.Round.{Readable, length_encode, read_back, readable_encode}
use Rattle.kills.specs.Lines.{members_of, waits_of}
use Rattle.kills.specs.Laws.{Ordered}
use Rattle.image.specs.declared.Image.{Image}
use Rattle.merging.specs.Side.{Brings}
use Rattle.merging.proofs.WaitSteps.{end_ge}

-- ---- numbers of a clock and of a list of members fit: what their types tell

pub clock_typed : (l : List Dot) → WTs (of_list (map (λ x. TheLaws.the_told.val x) l)) → FitsClock l
clock_typed [] w = tt
clock_typed (d ∷ l) w = ((w.0.0.0.fits, w.0.1.0.fits), clock_typed l w.1)

pub members_typed : (l : List ℕ) → WTs (of_list (map (λ x. vint w32 x) l)) → FitMembers l
members_typed [] w = tt
members_typed (k ∷ l) w = (w.0.fits, members_typed l w.1)

pub all_take : {A : Type 0} (P : A → Type 0) (n : ℕ) (l : List A) → All P l → All P (take n l)
all_take P zero l h = tt
all_take P (suc n) [] h = tt
all_take P (suc n) (x ∷ l) h = (h.0, all_take P n l h.1)

-- ---- the first n bytes of a buffer, where n were written from byte 0 on

module _ (n : ℕ) (s before out : List ℕ) (long : length s ≡ n) (room : n ≤ length before) (wrote : out ≡ sets before 0 s) where
  pub part_fits : n ≤ length out
  part_fits = let l = ap length wrote ∙ length-sets before 0 s in omega arith

  pub part_is : take n out ≡ s
  part_is = rw (wrote, sets-eq s before 0 (omega arith)) (take_at s (drop (0 + length s) before) n long)

  pub part_counted : n ≡ length (take n out)
  part_counted = sym (ap length part_is ∙ long)

-- ---- what they say

module _ (B : Replica) (fits : Fits B) (short : length_of narrow B < 65536) where
  abbrev s : List ℕ
  s = encode B

  pub back : image_of s ≡ B
  back = read_back narrow sound_narrow B fits (omega arith)

  readable : Readable narrow s
  readable = readable_encode narrow sound_narrow B fits (omega arith)

  dots_count : u32_at s 24 ≡ length B.clock
  unfolding image_in
  dots_count = sym (length_clock_at s 24) ∙ ap (λ (A : Replica). length A.clock) back

  pub rows_count : entries_count s ≡ length B.entries
  unfolding image_in
  rows_count = sym (length_list_at row_at row_end s (entries_start s) (entries_count s)) ∙ ap (λ (A : Replica). length A.entries) back

  pub waits_count_is : waits_count s ≡ length B.waiting
  unfolding image_in
  waits_count_is = sym (length_list_at wait_at_place wait_end s (waits_start_at s) (waits_count s)) ∙ ap (λ (A : Replica). length A.waiting) back

  pub rows_start : entries_start s ≡ rows_from narrow B
  unfolding image_in rows_from
  rows_start = readable.start_ok ∙ (faithful_clock narrow sound_narrow).span s 24 ∙ ap (λ (A : Replica). rows_from narrow A) back

  pub waits_start : waits_start_at s ≡ waits_from narrow B
  unfolding image_in waits_from
  waits_start =
      readable.waits_start_ok ∙ span_list (row_form narrow) row_laws s (entries_start s) (entries_count s)
      ∙ ap₂ ◌+◌ rows_start (ap (λ (A : Replica). length (encode_rows A.entries)) back)

  waits_edge : waits_end_at s (waits_start_at s) (waits_count s) < 65536
  waits_edge = let r = readable.end_ok in let l = length_encode narrow B in omega arith

  rows_edge : rows_end_at s (entries_start s) (entries_count s) < 65536
  rows_edge = let e = waits_edge in let r = readable.waits_start_ok in let g = end_ge s (waits_start_at s) (waits_count s) in omega arith

  rows_room : rows_end_at s (entries_start s) (entries_count s) ≤ length s
  rows_room = let e = readable.end_ok in let r = readable.waits_start_ok in let g = end_ge s (waits_start_at s) (waits_count s) in omega arith

  pub brings : length B.clock ≤ 16 → length B.entries ≤ 64 → Rise entry_rows B.entries → All Ordered B.waiting
      → (y : Image) → y.entries ≡ length B.entries → members_of s y.places y.entries ≡ map (λ e. e.member) B.entries → waits_of s y.starts y.waits ≡ B.waiting → Brings B s y
  brings few many rise ordered y en members waiting = record {
    image = back;
    edge = waits_edge;
    inside = let r = readable.end_ok in omega arith;
    held = record {
      clock_few = let d = dots_count in omega arith;
      number = en ∙ sym rows_count;
      few = omega arith;
      edge = rows_edge;
      room = rows_room;
      rise = rw back rise;
      members = rw back members;
      waiting = rw back waiting;
      ordered = rw back ordered;
    };
  }
