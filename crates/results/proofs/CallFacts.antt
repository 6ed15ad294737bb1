-- What is proved of specs/Call.antt.
use Rattle.std.specs.Prelude.{Result, ℕ, ◌≡◌, List}
use Rattle.std.proofs.Common.{sym, ◌∙◌}
use Rattle.replica.specs.Limits.{Limits}
use Rattle.dots.specs.declared.refusals.Refused.{Refused}
use Rattle.results.specs.Call.{Call, Meets}

-- "any two answers it allows are equal"
pub meets_once : (l : Limits) (c : Call) (before : List ℕ) (r s : Result ℕ Refused) (x y : List ℕ) → Meets l c before r x → Meets l c before s y → (r ≡ s) × (x ≡ y)
meets_once l c before r s x y p q = (p.answer ∙ sym q.answer, p.output ∙ sym q.output)
