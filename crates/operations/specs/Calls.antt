-- The calls that apply or judge an operation, and the reset, as document 01 says them.
use Rattle.std.specs.Prelude.{ℕ, ◌≡◌, refl, not, Result, Ok, Err, ⊤, List, [], ◌∷◌, ◌++◌, ltb, eqb, length}
use Rattle.std.proofs.Common.{sym, ap, ◌∙◌, arith, ne_eqb}
use Rattle.std.proofs.Math.Option.{Option, none, some}
use Rattle.tables.specs.Table.{pick}
use Rattle.tables.specs.Refusal.{Refusal, ◌if◌, first_of}
use Rattle.dots.specs.declared.DotRange.{DotRange}
use Rattle.dots.specs.declared.refusals.Refused.{Refused as DotRefused}
use Rattle.dots.specs.declared.refusals.OpRefused.{OpRefused}
use Rattle.dots.specs.declared.refusals.OpRefused.TheVariants.{Refused, Gap}
use Rattle.dots.specs.Answers.{number, op_number_in, op_answer}
use Rattle.dots.proofs.AnswersFacts.{number_positive, refusal_number}
use Rattle.dots.specs.Clock.{Clock, gap}
use Rattle.clocks.specs.declared.VClock.{VClock}
use Rattle.clocks.specs.VClock.{dots_of}
use Rattle.clocks.specs.Calls.{unfit, gapped}
use Rattle.replica.specs.Replica.{Replica}
use Rattle.replica.specs.Rules.{add, remove, reset}
use Rattle.layout.specs.Image.{good_image, image_of}
use Rattle.results.specs.Call.{Call}
use Rattle.operations.specs.declared.Op.{Op}
use Rattle.operations.specs.declared.Op.TheVariants.{Add, Remove}

-- "An operation is an add carrying a dot, or a remove; a remove's clock and either's members come beside it."
unfoldable pub operated : Op → Clock → List ℕ → Replica → Replica
operated (Add d) c ms A = add d ms A
operated Remove c ms A = remove c ms A

-- 1: "the first .. replica isn't a well-formed image"; 3: "a clock argument isn't normalised or has over 16 actors", which is judged beside an
-- add too; 4: "a member list is longer than 64"
unfoldable pub unfit_arguments : List ℕ → VClock → List ℕ → List Refusal
unfit_arguments s c ms = 1 if not (good_image s) ∷ unfit (c ∷ []) ∷ 4 if ltb 64 (length ms) ∷ []

unfoldable pub apply_call : List ℕ → Op → VClock → List ℕ → Call
apply_call s op c ms = record { refusals = unfit_arguments s c ms; result = operated op (dots_of c) ms (image_of s) }

unfoldable pub reset_call : List ℕ → VClock → Call
reset_call s c = record { refusals = 1 if not (good_image s) ∷ unfit (c ∷ []) ∷ []; result = reset (dots_of c) (image_of s) }

-- ---- validate_op

-- "The set's `validate_op` judges an add's dot so against V, and grants every remove whose arguments pass 1, 3 and 4."
unfoldable pub gap_of : Op → Replica → Option DotRange
gap_of (Add d) A = gap A.clock d
gap_of Remove A = none

-- the number of an answer, and the gap that it names
pub record Validated : Type 0 where
  pub number : ℕ
  pub range : Option DotRange

abbrev pub says : ℕ → Option DotRange → Validated
says n g = record { number = n; range = g }

abbrev pub gap_named : Result ⊤ OpRefused → Option DotRange
gap_named (Ok x) = none
gap_named (Err (Refused r)) = none
gap_named (Err (Gap g)) = some g

unfoldable pub validation_says : Result ⊤ OpRefused → Validated
validation_says r = says (op_number_in r) (gap_named r)

unfoldable pub validate_op_call : List ℕ → Op → VClock → List ℕ → Result ⊤ OpRefused
validate_op_call s op c ms =
    let g = gap_of op (image_of s) in
    let n = first_of (unfit_arguments s c ms ++ gapped g ∷ []) in
    op_answer n (pick (eqb n 11) g none)

-- "any two answers it allows are equal": the answer is fixed by what it says
refused_back : (r : DotRefused) → op_answer (number r) none ≡ Err (Refused r)
refused_back r =
    let p = number_positive r in
    rw (ne_eqb (number r) 0 (λ e. omega arith), refusal_number r)

abbrev said : Validated → Result ⊤ OpRefused
said v = op_answer v.number v.range

says_back : (r : Result ⊤ OpRefused) → said (validation_says r) ≡ r
unfolding validation_says
says_back (Ok x) = refl
says_back (Err (Refused r)) = refused_back r
says_back (Err (Gap g)) = refl

pub validation_one : (r s : Result ⊤ OpRefused) → validation_says r ≡ validation_says s → r ≡ s
validation_one r s e = sym (says_back r) ∙ ap said e ∙ says_back s
