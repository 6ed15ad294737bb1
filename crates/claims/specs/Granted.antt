-- What a caller has in hand after a call on an image: of a granted one, the image of what the rule gives; of a refused one, what was there.
use Prim.Native.Nat.{ℕ, ◌≤◌}
use Rattle.std.specs.Prelude.{◌≡◌, T, length, take}
use mathlib.Core.List.{List}
use Rattle.tables.specs.Refusal.{NoneApplies}
use Rattle.replica.specs.Limits.{full}
use Rattle.replica.specs.History.{Event, step}
use Rattle.replica.specs.HistoryLaws.{fair}
use Rattle.replica.specs.LimitLaws.{fits}
use Rattle.layout.specs.Fields.{Bytes}
use Rattle.layout.specs.Image.{image_of, good_image}
use Rattle.std.specs.Prelude.{Result}
use Rattle.dots.specs.declared.refusals.Refused.{Refused}
use Rattle.dots.specs.Answers.{number_in}
use Rattle.results.specs.Call.{length_in, Call}
use Rattle.results.specs.Laws.{Orderly}
use Rattle.claims.specs.Fitting.{FitsEvent}

-- the bytes are the image of a well-formed replica
pub record WellFormed (a : List ℕ) : Type 0 where
  pub bytes : Bytes a
  pub good : T (good_image a)

-- a call that answers 0
abbrev pub Granted : Result ℕ Refused → Type 0
Granted r = number_in r ≡ 0

-- an output with room for any image
abbrev pub Roomy : List ℕ → Type 0
Roomy out = 18268 ≤ length out

-- what it wrote: the output's bytes from 0 to the length that it returned
abbrev pub image : Result ℕ Refused → List ℕ → List ℕ
image r after = take (length_in r) after

-- the image is good, and the event's arguments are well-formed and their numbers fit
pub record Fit (a : List ℕ) (e : Event) : Type 0 where
  pub image_good : T (good_image a)
  pub event_fits : T (fits full e)
  pub event_fair : T (fair e)
  pub numbers_fit : FitsEvent e

-- A call does an event to an image: its result is what the event makes of the image's replica, and what it doesn't refuse is fit.
pub record Does (c : Call) (a : List ℕ) (e : Event) : Type 0 where
  pub orderly : Orderly c
  pub result_is : c.result ≡ step e (image_of a)
  pub passes : NoneApplies c.refusals → Fit a e
