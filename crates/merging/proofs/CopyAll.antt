-- The waiting removes of a good image, all of them copied as they stand.
use Prim.Native.Nat.{ℕ, ◌+◌, ◌-◌, ◌≤◌}
use mathlib.Core.Path.{◌≡◌, sym, ap, ◌∙◌, refl}
use mathlib.Core.Bool.{true}
use mathlib.Core.List.{List, [], ◌∷◌}
use native.Mathlib.Omega.{arith}
use lib.ListN.{length}
use lib.Seq.{sets, slice}
use borrow.Author.Tests.{le-ltb}
use Rattle.tables.specs.Table.{All}
use Rattle.dots.specs.Clock.{covers}
use Rattle.dots.specs.ClockLaws.{normal_empty, normal_to}
use Rattle.clocks.specs.declared.VClock.{VClock}
use Rattle.clocks.specs.VClock.{dots_of}
use Rattle.replica.specs.Replica.{Wait}
use Rattle.replica.specs.Rules.{remove}
use Rattle.replica.specs.Limits.{full}
use Rattle.replica.proofs.WellFormedFacts.{fine_sound}
use Rattle.layout.specs.Fields.{Bytes}
use Rattle.layout.specs.Lists.{list_at}
use Rattle.layout.specs.Clock.{narrow}
use Rattle.layout.specs.Rows.{wait_at_place, waits_at, wait_end, encode_waits}
use Rattle.layout.specs.Image.{image_in, image_of, good_image, waits_start_at, waits_count}
use Rattle.layout.proofs.Form.{length_list_at, span_list, stands_list}
use Rattle.layout.specs.Formed.{WaitFine}
use Rattle.layout.proofs.Parts.{wait_form, wait_laws}
use Rattle.layout.proofs.Checks.{passed}
use Rattle.changing.specs.KeptWaits.{kept_waits}
use Rattle.changing.specs.Waits.{remove_waits}
use Rattle.merging.specs.Waiting.{most_named, WroteWaits}
use Rattle.merging.proofs.CopySteps.{copied_is}
use Rattle.merging.proofs.Link.{short}

most_few : (ws : List Wait) → All (WaitFine full) ws → most_named ws ≤ 32
unfolding most_named
most_few [] h = omega arith
most_few (w ∷ ws) h = let a : length w.members ≤ 32 = h.0.named_ok in let b = most_few ws h.1 in omega arith

module _ (s : List ℕ) (g : good_image s ≡ true) where
  abbrev ws : List Wait
  ws = (image_of s).waiting

  -- they are its last part
  up_to_end : length s ≡ waits_start_at s + length (encode_waits ws)
  unfolding image_in
  up_to_end = (passed s g).readable_ok.end_ok ∙ span_list (wait_form narrow) wait_laws s (waits_start_at s) (waits_count s)

  pub waits_inside : {q : ℕ} → q ≡ waits_start_at s → q ≤ length s
  waits_inside e = let l = up_to_end in omega arith

  pub all_copied : Bytes s → (q n : ℕ) (out out' : List ℕ) (at : ℕ) → q ≡ waits_start_at s → n ≡ waits_count s → out' ≡ sets out at (slice q (length s) s)
      → WroteWaits out at ws out' (record { at = at + (length s - q); n = n; most = 0 })
  unfolding image_in
  all_copied b q n out out' at eq en f =
      let P = passed s g in let k = P.few_waiting in let l = up_to_end in let h = short s g in let e = length_list_at wait_at_place wait_end s (waits_start_at s) (waits_count s) in
      let all : slice q (length s) s ≡ encode_waits ws =
      copied_is s q (length s) (encode_waits ws) (rw eq (stands_list (wait_form narrow) wait_laws s (waits_start_at s) (waits_count s) b (let x = P.readable_ok.end_ok in omega arith))) (waits_inside eq) (omega arith) in
      record {
        count = en ∙ sym e;
        ends = omega arith;
        most = sym (le-ltb 32 (most_named ws) (most_few ws P.formed.waits_ok));
        few = omega arith;
        room = omega arith;
        bytes = f ∙ ap (sets out at) all;
      }

  -- a remove by the empty clock, which is covered, changes none that waits: their own clocks aren't empty
  all_stay : kept_waits [] ws [] ≡ ws
  unfolding remove covers
  all_stay = sym (remove_waits [] [] (image_of s) (normal_to [] normal_empty) (fine_sound (image_of s) (passed s g).fine) true refl)

  pub none_joins : (v : VClock) (t : List ℕ) (m l : ℕ) → m ≡ waits_count s → l + v.len ≡ 0 → kept_waits (dots_of v) (waits_at s (waits_start_at s) m) (waits_at t (waits_start_at t) l) ≡ ws
  unfolding image_in list_at
  none_joins v t m l em e = let n : v.len ≡ 0 = omega arith in let k : l ≡ 0 = omega arith in rw (em, n, k) all_stay
