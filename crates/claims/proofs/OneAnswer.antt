-- Any two answers that a promise allows are equal: of `finish`, and of what writes fields.
use Rattle.std.specs.Prelude.{ℕ, ◌≡◌, List}
use Rattle.std.proofs.Common.{sym, ◌∙◌}
use Rattle.clocks.specs.declared.VClock.{VClock}
use Rattle.fields.specs.Read.{Put}
use Rattle.std.specs.Prelude.{Result}
use Rattle.dots.specs.declared.refusals.Refused.{Refused}
use Rattle.results.specs.declared.Draft.{Draft}
use Rattle.results.specs.Finish.{Finished}

pub finished_once : (v : VClock) (d : Draft) (body before : List ℕ) (r s : Result ℕ Refused) (x y : List ℕ) → Finished v d body before r x → Finished v d body before s y → (r ≡ s) × (x ≡ y)
finished_once v d body before r s x y p q = (p.answer ∙ sym q.answer, p.output ∙ sym q.output)

pub put_once : (before : List ℕ) (at : ℕ) (bytes x y : List ℕ) (r s : ℕ) → Put before at bytes x r → Put before at bytes y s → (r ≡ s) × (x ≡ y)
put_once before at bytes x y r s p q = (p.long ∙ sym q.long, p.is ∙ sym q.is)
