-- How a result is finished: its clock and the counts of its draft are judged, and it is written whole.
use Rattle.std.specs.Prelude.{Result, ℕ, ◌+◌, ◌*◌, ◌≡◌, List, [], ◌∷◌, ◌++◌, eqb, ltb, length}
use Rattle.std.proofs.lemmas.List.Edits.{sets}
use Rattle.std.proofs.Math.Seq.{slice}
use Rattle.tables.specs.Table.{pick}
use Rattle.tables.specs.Refusal.{◌if◌, first_of}
use Rattle.clocks.specs.declared.VClock.{VClock}
use Rattle.clocks.specs.VClock.{dots_of}
use Rattle.layout.specs.Image.{contents}
use Rattle.layout.specs.Clock.{encode_clock}
use Rattle.dots.specs.declared.refusals.Refused.{Refused}
use Rattle.results.specs.declared.Draft.{Draft}
use Rattle.results.specs.Call.{answered}

-- where the entries start: after the contents and the clock
abbrev pub start_of : VClock → ℕ
start_of v = 28 + 12 * v.len

-- 6 to 9 by the counts of a draft, then 10: "the output is shorter than the result"
unfoldable pub draft_no : VClock → Draft → ℕ → ℕ
draft_no v d room =
    first_of (6 if ltb 16 v.len ∷ 7 if ltb 64 d.entries ∷ 8 if ltb 16 d.waits ∷ 9 if ltb 32 d.most ∷ 10 if ltb room d.end ∷ 10 if ltb d.end (start_of v) ∷ [])

-- contents, clock, and the part of the body up to the end
unfoldable pub draft_bytes : VClock → Draft → List ℕ → List ℕ
draft_bytes v d body = contents d.end (start_of v) d.entries d.middle d.waits ++ (encode_clock (dots_of v) ++ slice (start_of v) d.end body)

pub record Finished (v : VClock) (d : Draft) (body before : List ℕ) (r : Result ℕ Refused) (after : List ℕ) : Type 0 where
  pub answer : r ≡ answered (draft_no v d (length before)) d.end
  pub output : after ≡ pick (eqb (draft_no v d (length before)) 0) (sets before 0 (draft_bytes v d body)) before
