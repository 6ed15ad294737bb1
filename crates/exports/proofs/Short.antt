-- Every length and count fits the lower half.
use Prim.Native.Nat.{ℕ, ◌≤◌}
use mathlib.Core.Path.{◌≡◌, refl, sym, ap}
use mathlib.Core.Bool.{Bool, true, false, not, ◌&&◌, false≢true}
use mathlib.Core.List.{List}
use native.Mathlib.Omega.{arith}
use lib.Dec.{T, eqb, leb, le→leb}
use lib.ListN.{length, length-map, length-take}
use borrow.Author.Tests.{eqb-true, eqb-false}
use Rattle.tables.specs.Table.{pick}
use Rattle.tables.specs.Refusal.{NoneApplies, first_of}
use Rattle.tables.specs.Ascending.{before, ascending}
use Rattle.tables.specs.Truth.{and_l, and_i}
use Rattle.dots.specs.declared.Dot.{Dot}
use Rattle.dots.specs.Clock.{normal}
use Rattle.dots.specs.ClockLaws.{normal_to}
use Rattle.dots.specs.Rising.{true_from}
use Rattle.clocks.specs.declared.VClock.{VClock}
use Rattle.clocks.specs.VClock.{dots_of, normalised, few, dots_normal}
use Rattle.replica.specs.Replica.{Replica}
use Rattle.replica.specs.Limits.{full, Within, well_formed}
use Rattle.replica.proofs.LimitsFacts.{unbroken_right, well_formed_from}
use Rattle.replica.specs.History.{Event, Apply, MergeWith, Reset, Add as Adds, Remove as Removes, apply, step}
use Rattle.replica.specs.LimitLaws.{fits}
use Rattle.replica.proofs.LimitLaws.{step_well_formed}
use Rattle.replica.specs.Reads.{read}
use Rattle.layout.specs.Image.{encode, image_of, good_image}
use Rattle.layout.proofs.MainFacts.{at_most, good_formed, empty_length}
use Rattle.std.specs.Prelude.{Result, Ok, Err}
use Rattle.dots.specs.declared.refusals.Refused.{Refused}
use Rattle.dots.specs.Answers.{answer, refusal, number_in}
use Rattle.contexts.specs.declared.ReadCtx.{ReadCtx}
use Rattle.results.specs.Call.{Call, length_in, Meets}
use Rattle.results.specs.Laws.{Orderly}
use Rattle.results.proofs.Laws.{done_exactly, refused_keeps, granted_writes}
use Rattle.operations.specs.declared.Op.{Op}
use Rattle.operations.specs.declared.Op.TheVariants.{Add, Remove}
use Rattle.operations.specs.Calls.{operated, unfit_arguments, apply_call, reset_call}
use Rattle.merging.specs.Merge.{merge_call}
use Rattle.exports.proofs.Replied.{counted}
use Rattle.reading.specs.Calls.{ctx_of, empty_call, members_read, read_number, members_answer, read_call, ReadMeets}

-- a replica that a call writes is as long as its image
module _ (c : Call) (orderly : Orderly c) (most : NoneApplies c.refusals → Within full c.result → length (encode c.result) ≤ 18268) where
  pub short : (before after : List ℕ) (w : Result ℕ Refused) → Meets full c before w after → length_in w ≤ 18268
  short before after w m = go (eqb (number_in w) 0) refl
    where
      go : (b : Bool) → eqb (number_in w) 0 ≡ b → length_in w ≤ 18268
      go true e =
          let n : number_in w ≡ 0 = eqb-true (number_in w) 0 e in
          let d = (done_exactly full c before w after m orderly).0 n in
          let h = most d.0 d.1 in
          let l = (granted_writes full c before w after m orderly n).length_is in
          omega arith
      go false e = let l = (refused_keeps full c before w after m (eqb-false (number_in w) 0 e)).1 in omega arith

-- an event that passes and breaks no limit gives a well-formed replica
event_short : (c : Call) (e : Event) (A : Replica) → Orderly c → c.result ≡ step e A → (NoneApplies c.refusals → T (fits full e) × T (well_formed full A))
    → (out after : List ℕ) (w : Result ℕ Refused) → Meets full c out w after → length_in w ≤ 18268
event_short c e A o r p = short c o (λ n h. rw r (at_most (step e A) (step_well_formed full e A (p n).0 (p n).1 ((unbroken_right full (step e A)).1 (rw r at h)))))

passed : (b : Bool) → not b ≡ false → T b
passed true e = tt
passed false e = absurd (false≢true (sym e))

pub merge_short : (a b out after : List ℕ) (w : Result ℕ Refused) → Meets full (merge_call a b) out w after → length_in w ≤ 18268
unfolding merge_call ascending before step fits
merge_short a b = event_short (merge_call a b) (MergeWith (image_of b)) (image_of a) tt refl
    (λ n. (good_formed b (passed (good_image b) n.1.0), good_formed a (passed (good_image a) n.0)))

-- a clock that isn't refused is normal and has at most 16 actors
fit_clock : (c : VClock) → T (normalised c) → T (normal (dots_of c) && leb (length (dots_of c)) 16)
fit_clock c t =
    let e = true_from (normalised c) t in
    let k = few c e in
    and_i (normal (dots_of c)) (leb (length (dots_of c)) 16) (normal_to (dots_of c) (dots_normal c e)) (le→leb (length (dots_of c)) 16 (rw length-take (omega arith)))

pub add_short : (s : List ℕ) (d : Dot) (c : VClock) (ms out after : List ℕ) (w : Result ℕ Refused) → Meets full (apply_call s (Add d) c ms) out w after → length_in w ≤ 18268
unfolding apply_call unfit_arguments operated ascending before step apply fits
add_short s d c ms = event_short (apply_call s (Add d) c ms) (Apply (Adds d ms)) (image_of s) tt refl (λ n. (tt, good_formed s (passed (good_image s) n.0)))

pub remove_short : (s : List ℕ) (c : VClock) (ms out after : List ℕ) (w : Result ℕ Refused) → Meets full (apply_call s Remove c ms) out w after → length_in w ≤ 18268
unfolding apply_call unfit_arguments operated ascending before step apply fits
remove_short s c ms = event_short (apply_call s Remove c ms) (Apply (Removes (dots_of c) ms)) (image_of s) tt refl
    (λ n. (fit_clock c (and_l (normalised c) true (passed (normalised c && true) n.1.0)), good_formed s (passed (good_image s) n.0)))

pub reset_short : (s : List ℕ) (c : VClock) (out after : List ℕ) (w : Result ℕ Refused) → Meets full (reset_call s c) out w after → length_in w ≤ 18268
unfolding reset_call ascending before step fits
reset_short s c = event_short (reset_call s c) (Reset (dots_of c)) (image_of s) tt refl (λ n. (tt, good_formed s (passed (good_image s) n.0)))

pub empty_short : (before after : List ℕ) (w : Result ℕ Refused) → Meets full empty_call before w after → length_in w ≤ 18268
unfolding ascending before
empty_short = short empty_call tt (λ n h. let e = empty_length in omega arith)

-- at most 64 members are read
pub few_members : (s : List ℕ) → good_image s ≡ true → length (members_read s) ≤ 64
unfolding read
few_members s g =
    let f = well_formed_from full (image_of s) (good_formed s (rw g tt)) in
    let w = (unbroken_right full (image_of s)).0 f.1 in
    rw length-map w.members_fit

pub read_short : (s out after : List ℕ) (x : Result (ReadCtx × ℕ) Refused) → ReadMeets s out x after → length_in (counted x) ≤ 64
unfolding read_call members_answer read_number first_of answer
read_short s out after x m = rw (ap counted m.answer) (go (good_image s) refl)
  where
    held : (b : Bool) (c : ReadCtx) (e : Refused) → length (members_read s) ≤ 64 → length_in (counted (pick b (Ok (c, length (members_read s))) (Err e))) ≤ 64
    held true c e h = h
    held false c e h = omega arith

    go : (b : Bool) → good_image s ≡ b → length_in (counted (read_call s (length out))) ≤ 64
    go true g = held (eqb (read_number s (length out)) 0) (ctx_of (read (image_of s)) false) (refusal (read_number s (length out))) (few_members s g)
    go false g = rw g (omega arith)
