-- A clock's length, and what is found of a lent clock.
use Prim.Native.Nat.{ℕ, ◌+◌, ◌*◌, min}
use Rattle.std.specs.Prelude.{Option, Some}
use Rattle.std.specs.Option.{option_eq}
use mathlib.Core.Path.{◌≡◌, refl, sym, ap, ◌∙◌}
use mathlib.Core.Bool.{Bool, true, false, ◌&&◌}
use mathlib.Core.List.{List}
use lib.ListN.{length, length-take}
use lib.Dec.{eqb}
use Rattle.std.specs.Bool.{then_some}
use Rattle.dots.specs.Rising.{both_left}
use Rattle.clocks.specs.declared.VClock.{VClock}
use Rattle.clocks.specs.VClock.{dots_of, vclock}
use Rattle.fields.specs.Read.{clock_read}
use Rattle.layout.specs.Clock.{clock_end, encode_clock}
use Rattle.layout.specs.Good.{good_clock}
use Rattle.layout.proofs.KitFacts.{length_encode_clock}
use Rattle.scan.specs.Scan.{clock_ends}
use Rattle.image.proofs.Whole.{read_good}
use Rattle.replies.specs.Lent.{good_lent, unfit_clock, clock_lent}

module _ (s : List ℕ) (o : Option ℕ) (b : Bool) (f : o ≡ clock_ends s 0) (g : b ≡ option_eq eqb o (Some (length s))) where
  -- whether the end of a clock is that of the bytes
  told : b ≡ good_lent s
  unfolding good_lent clock_ends
  told = g ∙ rw f (go (good_clock s 0))
    where
      go : (d : Bool) → option_eq eqb (then_some d (clock_end s 0)) (Some (length s)) ≡ (d && eqb (clock_end s 0) (length s))
      go true = refl
      go false = refl

  pub not_lent : (c : VClock) → b ≡ false → c ≡ unfit_clock → c ≡ clock_lent s
  unfolding clock_lent
  not_lent c h e = rw (sym told ∙ h) e

  pub whole_lent : (c : VClock) → b ≡ true → c ≡ vclock (clock_read s 0) → c ≡ clock_lent s
  unfolding clock_lent good_lent
  whole_lent c h e =
      let t = sym told ∙ h in
      rw t (e ∙ ap vclock (read_good s 0 (both_left (good_clock s 0) (eqb (clock_end s 0) (length s)) t)))

-- a clock takes at most 196 bytes
pub clock_bytes : (c : VClock) → length c.dots ≡ 16 → length (encode_clock (dots_of c)) ≡ 4 + 12 * min c.len 16
clock_bytes c long = length_encode_clock (dots_of c) ∙ simp (length-take, long)
