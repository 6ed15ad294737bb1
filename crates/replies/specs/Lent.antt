-- A clock that C lends, as a record.
use Rattle.std.specs.Prelude.{ℕ, ◌≤◌, ◌≡◌, refl, Bool, true, false, ◌&&◌, List, eqb, length, replicate}
use Rattle.tables.specs.Table.{pick}
use Rattle.dots.specs.Dot.{no_dot}
use Rattle.dots.specs.Rising.{both_left}
use Rattle.clocks.specs.declared.VClock.{VClock}
use Rattle.clocks.specs.VClock.{dots_of, vclock, normalised, dots_vclock, vclock_normalised}
use Rattle.layout.specs.Clock.{clock_at, clock_end}
use Rattle.layout.specs.Good.{good_clock}
use Rattle.layout.proofs.KitFacts.{stands, clock_normal, length_clock_at}

-- a normalised clock of at most 16 actors: "a lent clock is exactly 4 + 12 * count bytes"
unfoldable pub good_lent : List ℕ → Bool
good_lent s = good_clock s 0 && eqb (clock_end s 0) (length s)

-- a record that isn't normalised
unfoldable pub unfit_clock : VClock
unfit_clock = record { dots = replicate 16 no_dot; len = 17 }

unfoldable pub clock_lent : List ℕ → VClock
clock_lent s = pick (good_lent s) (vclock (clock_at s 0)) unfit_clock

-- ---- so 3 is given exactly where the bytes aren't such a clock, and where they are, the record has its dots

few : (s : List ℕ) → good_lent s ≡ true → length (clock_at s 0) ≤ 16
unfolding good_lent
few s e = rw length_clock_at (stands s 0 (both_left (good_clock s 0) (eqb (clock_end s 0) (length s)) e)).count

pub lent_fit : (s : List ℕ) → normalised (clock_lent s) ≡ good_lent s
unfolding clock_lent good_lent normalised unfit_clock
lent_fit s = go (good_lent s) refl
  where
    go : (b : Bool) → good_lent s ≡ b → normalised (pick b (vclock (clock_at s 0)) unfit_clock) ≡ b
    go true e = vclock_normalised (clock_at s 0) (few s e) (clock_normal s 0 (both_left (good_clock s 0) (eqb (clock_end s 0) (length s)) e))
    go false e = refl

pub lent_dots : (s : List ℕ) → good_lent s ≡ true → dots_of (clock_lent s) ≡ clock_at s 0
unfolding clock_lent
lent_dots s e = rw e (dots_vclock (clock_at s 0) (few s e))
