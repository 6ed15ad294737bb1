-- What `validate_merge` answers: the first refusal that applies, by the order of document 01's table, and what 12 names.
use Rattle.std.specs.Prelude.{ℕ, ◌≡◌, refl, not, Result, Ok, Err, ⊤, List, [], ◌∷◌, eqb}
use Rattle.std.proofs.Common.{sym, ap, ◌∙◌, arith, ne_eqb}
use Rattle.std.proofs.Math.Option.{Option, none, some}
use Rattle.tables.specs.Table.{pick, is_some}
use Rattle.tables.specs.Refusal.{◌if◌, first_of}
use Rattle.dots.specs.declared.refusals.Refused.{Refused as DotRefused}
use Rattle.dots.specs.Answers.{number, refusal}
use Rattle.dots.proofs.AnswersFacts.{number_positive, refusal_number}
use Rattle.replica.specs.Validate.{Spent, validate_merge}
use Rattle.layout.specs.Image.{image_of, good_image}
use Rattle.validating.specs.declared.MergeRefused.{MergeRefused}
use Rattle.validating.specs.declared.MergeRefused.TheVariants.{Refused, DoubleSpent}

-- document 01's number and the values of each case: "12 .. double-spent dot, with dot and both members"
pub record Validated : Type 0 where
  pub number : ℕ
  pub spent : Option Spent

abbrev pub merge_number : MergeRefused → ℕ
merge_number (Refused r) = number r
merge_number (DoubleSpent x) = 12

unfoldable pub validation_says : Result ⊤ MergeRefused → Validated
validation_says (Ok x) = record { number = 0; spent = none }
validation_says (Err (Refused r)) = record { number = number r; spent = none }
validation_says (Err (DoubleSpent x)) = record { number = 12; spent = some (record { dot = x.dot; our = x.our.0; their = x.their.0 }) }

-- the answer of a number, and of the dot that 12 names
abbrev pub merge_answer : ℕ → Option Spent → Result ⊤ MergeRefused
merge_answer n none = pick (eqb n 0) (Ok tt) (Err (Refused (refusal n)))
merge_answer n (some x) = Err (DoubleSpent (record { dot = x.dot; our = record { 0 = x.our }; their = record { 0 = x.their } }))

-- "1 / 2: the first / second replica isn't a well-formed image"; 12 carries what it names
unfoldable pub validate_merge_call : List ℕ → List ℕ → Result ⊤ MergeRefused
validate_merge_call a b =
    let x = validate_merge (image_of a) (image_of b) in
    let n = first_of (1 if not (good_image a) ∷ 2 if not (good_image b) ∷ 12 if is_some x ∷ []) in
    merge_answer n (pick (eqb n 12) x none)

-- the answer is determined by what it says: any two that the promise allows are equal
abbrev named : Validated → Result ⊤ MergeRefused
named v = merge_answer v.number v.spent

refused_named : (r : DotRefused) → merge_answer (number r) none ≡ Err (Refused r)
refused_named r =
    let p = number_positive r in
    rw (ne_eqb (number r) 0 (λ e. omega arith), refusal_number r)

named_says : (r : Result ⊤ MergeRefused) → named (validation_says r) ≡ r
unfolding validation_says
named_says (Ok x) = refl
named_says (Err (Refused r)) = refused_named r
named_says (Err (DoubleSpent x)) = refl

pub says_one : (r s : Result ⊤ MergeRefused) → validation_says r ≡ validation_says s → r ≡ s
says_one r s h = sym (named_says r) ∙ ap named h ∙ named_says s
