-- What `validate_op` has found at each of its answers is what its definition says.
use Prim.Native.Nat.{ℕ, ◌≤◌, ◌<◌}
use Rattle.std.specs.Prelude.{Result, Ok, Err, ⊤}
use mathlib.Core.Path.{◌≡◌, refl, sym, ap, ◌∙◌}
use mathlib.Core.Bool.{true, false}
use mathlib.Core.Option.{Option, none, some}
use mathlib.Core.List.{List}
use lib.Dec.{eqb}
use lib.ListN.{length}
use borrow.Author.Tests.{lt-ltb, le-ltb}
use Rattle.tables.specs.Table.{pick, is_some}
use Rattle.tables.specs.Refusal.{first_of}
use Rattle.dots.specs.declared.Dot.{Dot}
use Rattle.dots.specs.declared.DotRange.{DotRange}
use Rattle.dots.specs.declared.refusals.Refused.TheVariants.{BadImage, BadClock, LongList}
use Rattle.dots.specs.declared.refusals.OpRefused.{OpRefused}
use Rattle.dots.specs.declared.refusals.OpRefused.TheVariants.{Refused}
use Rattle.dots.specs.Answers.{refusal, op_answer}
use Rattle.dots.specs.Clock.{Clock, gap}
use Rattle.clocks.specs.declared.VClock.{VClock}
use Rattle.clocks.specs.VClock.{vclock, normalised, dots_vclock, vclock_normalised}
use Rattle.clocks.specs.Calls.{validate_op_call as dot_call}
use Rattle.layout.specs.Image.{image_of, good_image}
use Rattle.layout.proofs.Checks.{passed}
use Rattle.image.specs.declared.Image.{Image}
use Rattle.checked.proofs.Known.{Known}
use Rattle.operations.specs.declared.Op.{Op}
use Rattle.operations.specs.declared.Op.TheVariants.{Add, Remove}
use Rattle.operations.specs.Calls.{gap_of, unfit_arguments, validate_op_call}

-- what is said of a gap, or of none
abbrev gap_said : Option DotRange → Result ⊤ OpRefused
gap_said g = op_answer (pick (is_some g) 11 0) g

gap_said_is : (g : Option DotRange) → gap_said g ≡ op_answer (pick (is_some g) 11 0) (pick (eqb (pick (is_some g) 11 0) 11) g none)
gap_said_is none = refl
gap_said_is (some g) = refl

-- the replica's clock judges as the record that holds it
clock_judges : (l : Clock) (d : Dot) → normalised (vclock l) ≡ true → length l ≤ 16 → dot_call (vclock l) d ≡ gap_said (gap l d)
unfolding dot_call first_of
clock_judges l d n h = rw (n, dots_vclock l h)

module _ (s : List ℕ) (op : Op) (c : VClock) (ms : List ℕ) where
  abbrev said : Result ⊤ OpRefused
  said = validate_op_call s op c ms

  pub bad_image : good_image s ≡ false → Err (Refused BadImage) ≡ said
  unfolding validate_op_call unfit_arguments first_of refusal
  bad_image g = rw g

  pub bad_clock : good_image s ≡ true → normalised c ≡ false → Err (Refused BadClock) ≡ said
  unfolding validate_op_call unfit_arguments first_of refusal
  bad_clock g n = rw (g, n)

  module _ (g : good_image s ≡ true) (n : normalised c ≡ true) where
    pub long_list : 64 < length ms → Err (Refused LongList) ≡ said
    unfolding validate_op_call unfit_arguments first_of refusal
    long_list h = rw (g, n, lt-ltb 64 (length ms) h)

    -- arguments that pass: what is said is the operation's gap
    passing : length ms ≤ 64 → gap_said (gap_of op (image_of s)) ≡ said
    unfolding validate_op_call unfit_arguments first_of
    passing h = rw (g, n, le-ltb 64 (length ms) h) (gap_said_is (gap_of op (image_of s)))

    pub remove_fine : length ms ≤ 64 → op ≡ Remove → Ok tt ≡ said
    unfolding gap_of
    remove_fine h e = ap (λ (o : Op). gap_said (gap_of o (image_of s))) (sym e) ∙ passing h

    pub add_judged : (x : Image) (d : Dot) (r : Result ⊤ OpRefused) → Known s x → length ms ≤ 64 → op ≡ Add d → r ≡ dot_call x.clock d → r ≡ said
    unfolding gap_of
    add_judged x d r k h e f =
        let w = (passed s g).formed in
        f
        ∙ ap (λ (v : VClock). dot_call v d) k.clock_is
        ∙ clock_judges (image_of s).clock d (vclock_normalised (image_of s).clock w.actors_ok w.clock_ok) w.actors_ok
        ∙ ap (λ (o : Op). gap_said (gap_of o (image_of s))) (sym e)
        ∙ passing h
