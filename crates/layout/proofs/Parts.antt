-- Dots, clocks, entries and waiting removes read back as written, over the width of an actor.
use Rattle.std.specs.Prelude.{refl, List, ℕ, ◌+◌, ◌<◌}
use Rattle.std.proofs.Math.Path.{sym}
use Rattle.std.proofs.Common.{add_assoc}
use Rattle.dots.specs.declared.Dot.{Dot}
use Rattle.dots.specs.Dot.{actor_of, dot}
use Rattle.dots.specs.Clock.{Clock}
use Rattle.replica.specs.Replica.{Entry, Wait}
use Rattle.layout.specs.Fields.{u32_at, le32}
use Rattle.layout.specs.Clock.{Width, narrow, dot_in, dot_end_in, encode_dot_in, clock_in, clock_end_in, encode_clock_in}
use Rattle.layout.specs.Rows.{row_in, row_end_in, encode_row_in, wait_in, wait_end_in, encode_wait_in}
use Rattle.layout.specs.Fits.{FitMembers, FitsDotIn, FitsClockIn, FitsRowIn, FitsWaitIn, FitsClock, FitsRow, FitsWait}
use Rattle.layout.proofs.Form.{Form, Faithful, form32, form64, faithful32, faithful64, ends_at, faithful_pair, counted, faithful_counted}

abbrev members : Form (List ℕ)
members = counted 4 u32_at le32

faithful_members : Faithful members FitMembers
faithful_members = faithful_counted 4 u32_at le32 faithful32

-- an actor, and what a width owes
abbrev pub actors : Width → Form ℕ
actors A = record { here = A.reads; end = λ s p. p + A.bytes; put = A.writes }

abbrev pub Sound : Width → Type 0
Sound A = Faithful (actors A) (λ a. a < A.bound)

pub sound_narrow : Sound narrow
sound_narrow = faithful32

module _ (A : Width) where
  abbrev pub dot_form : Form Dot
  dot_form = record { here = dot_in A; end = dot_end_in A; put = encode_dot_in A }

  abbrev pub clock_form : Form Clock
  clock_form = record { here = clock_in A; end = clock_end_in A; put = encode_clock_in A }

  abbrev pub row_form : Form Entry
  row_form = record { here = row_in A; end = row_end_in A; put = encode_row_in A }

  abbrev pub wait_form : Form Wait
  wait_form = record { here = wait_in A; end = wait_end_in A; put = encode_wait_in A }

  pub faithful_dot : Sound A → Faithful dot_form (FitsDotIn A)
  unfolding dot_in encode_dot_in
  faithful_dot W = ends_at
      (faithful_pair (actors A) form64 dot (λ d. actor_of d) (λ d. d.counter) W faithful64 (λ a n. refl) (λ a n. refl) (λ d. refl))
      (dot_end_in A) (λ s p. sym (add_assoc p A.bytes 8))

  pub faithful_clock : Sound A → Faithful clock_form (FitsClockIn A)
  unfolding clock_in clock_end_in encode_clock_in
  faithful_clock W = faithful_counted (A.bytes + 8) (dot_in A) (encode_dot_in A) (faithful_dot W)

  pub faithful_row : Sound A → Faithful row_form (FitsRowIn A)
  unfolding row_in row_end_in encode_row_in
  faithful_row W = faithful_pair form32 clock_form (λ m c. record { member = m; clock = c }) (λ e. e.member) (λ e. e.clock) faithful32 (faithful_clock W) (λ m c. refl) (λ m c. refl) (λ e. refl)

  pub faithful_wait : Sound A → Faithful wait_form (FitsWaitIn A)
  unfolding wait_in wait_end_in encode_wait_in
  faithful_wait W = faithful_pair clock_form members (λ c ms. record { clock = c; members = ms }) (λ w. w.clock) (λ w. w.members) (faithful_clock W) faithful_members (λ c ms. refl) (λ c ms. refl) (λ w. refl)

-- ---- 12 bytes per dot

pub clock_laws : Faithful (clock_form narrow) FitsClock
clock_laws = faithful_clock narrow sound_narrow

pub row_laws : Faithful (row_form narrow) FitsRow
row_laws = faithful_row narrow sound_narrow

pub wait_laws : Faithful (wait_form narrow) FitsWait
wait_laws = faithful_wait narrow sound_narrow
