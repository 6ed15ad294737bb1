-- What the parts of a call that applies an operation promise.
use Rattle.std.specs.Prelude.{ℕ, ◌≡◌, List, [], length, Result}
use Rattle.clocks.specs.declared.VClock.{VClock}
use Rattle.replica.specs.Replica.{Entry, Wait, Replica}
use Rattle.dots.specs.declared.refusals.Refused.{Refused}
use Rattle.results.specs.declared.Draft.{Draft}
use Rattle.results.specs.Call.{Call}
use Rattle.results.specs.Finish.{start_of, Finished}
use Rattle.merging.specs.Draft.{DraftOf}

-- a call whose arguments pass: only its finished result is judged
abbrev pub granted : Replica → Call
granted R = record { refusals = []; result = R }

-- entries and waiting removes, drafted and finished with the clock v
pub record FinishedOf (es : List Entry) (ws : List Wait) (v : VClock) (before : List ℕ) (r : Result ℕ Refused) (after : List ℕ) : Type 0 where
  pub draft : Draft
  pub clear : List ℕ
  pub body : List ℕ
  pub room : length clear ≡ 18268
  pub drafted : DraftOf es ws (start_of v) draft clear body
  pub finished : Finished v draft body before r after
