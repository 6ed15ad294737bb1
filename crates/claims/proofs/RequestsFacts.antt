-- What is proved of specs/Requests.antt.
use Rattle.std.specs.Prelude.{ℕ, zero, suc, ◌<◌, ◌≡◌, refl, Bool, true, false, not, ◌&&◌, List, [], ◌∷◌, T, leb, length}
use Rattle.std.proofs.Common.{sym, ap, ◌∙◌, arith, le→leb, length-take}
use Rattle.std.proofs.lemmas.Bool.{false≢true}
use Rattle.tables.specs.Truth.{and_l, and_i}
use Rattle.tables.specs.Ascending.{before, ascending}
use Rattle.tables.specs.Table.{All, all_map, all_any}
use Rattle.tables.specs.Refusal.{Refusal, ◌if◌, first_of, Numbered}
use Rattle.tables.proofs.RefusalFacts.{done_right}
use Rattle.dots.specs.Clock.{normal}
use Rattle.dots.specs.ClockLaws.{normal_to}
use Rattle.dots.specs.Rising.{true_from}
use Rattle.clocks.specs.declared.VClock.{VClock}
use Rattle.clocks.specs.VClock.{dots_of, normalised, few, dots_normal}
use Rattle.replica.specs.Limits.{full, limits_of}
use Rattle.replica.proofs.LimitsFacts.{well_formed_from}
use Rattle.replica.specs.History.{apply, step}
use Rattle.replica.specs.HistoryLaws.{fair}
use Rattle.replica.specs.LimitLaws.{fits}
use Rattle.layout.specs.Image.{encode, good_image, image_of}
use Rattle.layout.proofs.MainFacts.{good_formed, good_fits}
use Rattle.std.specs.Prelude.{Result}
use Rattle.dots.specs.declared.refusals.Refused.{Refused}
use Rattle.dots.specs.Answers.{number_in}
use Rattle.dots.proofs.AnswersFacts.{answer_done}
use Rattle.results.specs.Call.{table_of, number_of, answered, answer_of, Meets}
use Rattle.results.specs.Laws.{Orderly}
use Rattle.merging.specs.Merge.{merge_call}
use Rattle.operations.specs.declared.Op.TheVariants.{Add, Remove}
use Rattle.operations.specs.Calls.{operated, unfit_arguments, apply_call, reset_call}
use Rattle.claims.specs.Granted.{Does}
use Rattle.claims.specs.Requests.{Request, call_on, event_of, Lent, apply_op, merge_with, merge_into, reset_by}

-- each call judges its arguments in the order of the table
pub in_order : (q : Request) (a : List ℕ) → Orderly (call_on q a)
unfolding apply_call reset_call merge_call unfit_arguments ascending before
in_order (apply_op op c ms) a = tt
in_order (merge_with b) a = tt
in_order (merge_into b) a = tt
in_order (reset_by c) a = tt

-- 1 and 2: a merge judges its two sides, in this order
pub merge_judges : (a b : List ℕ) → (call_on (merge_with b) a).refusals ≡ (1 if not (good_image a) ∷ 2 if not (good_image b) ∷ [])
unfolding merge_call
merge_judges a b = refl

-- no refusal of the whole table has the number 0
pub all_numbered : (q : Request) (a : List ℕ) (room : ℕ) → Numbered (table_of full (call_on q a) room)
unfolding apply_call reset_call merge_call unfit_arguments limits_of
all_numbered (apply_op op c ms) a room = (omega arith, (omega arith, (omega arith, (omega arith, (omega arith, (omega arith, (omega arith, (omega arith, tt))))))))
all_numbered (merge_with b) a room = (omega arith, (omega arith, (omega arith, (omega arith, (omega arith, (omega arith, (omega arith, tt)))))))
all_numbered (merge_into b) a room = (omega arith, (omega arith, (omega arith, (omega arith, (omega arith, (omega arith, (omega arith, tt)))))))
all_numbered (reset_by c) a room = (omega arith, (omega arith, (omega arith, (omega arith, (omega arith, (omega arith, (omega arith, tt)))))))

-- so 0 is answered only where none applies
pub not_done : (q : Request) (a : List ℕ) {before after : List ℕ} {r : Result ℕ Refused} → Meets full (call_on q a) before r after → All (λ p. p.applies ≡ true → 0 < number_in r) (table_of full (call_on q a) (length before))
unfolding answer_of answered number_of
not_done q a {before} {r = r} kept = go (number_in r) refl
  where
    table : List Refusal
    table = table_of full (call_on q a) (length before)

    unrefused : number_in r ≡ 0 → first_of table ≡ 0
    unrefused e = answer_done (first_of table) (length (encode (call_on q a).result)) (sym (ap number_in kept.answer) ∙ e)

    go : (n : ℕ) → number_in r ≡ n → All (λ p. p.applies ≡ true → 0 < n) table
    go zero e = all_map (λ p. p.applies ≡ false) (λ p. p.applies ≡ true → 0 < 0) table (λ p u t. absurd (false≢true (sym u ∙ t))) ((done_right table (all_numbered q a (length before))).0 (unrefused e))
    go (suc n) e = all_any (λ p. p.applies ≡ true → 0 < suc n) table (λ p t. omega arith)

-- ---- each call does what its rule says

pub passed : (b : Bool) → not b ≡ false → T b
passed true e = tt
passed false e = absurd (false≢true (sym e))

fit_clock : (c : VClock) → T (normalised c) → T (normal (dots_of c) && leb (length (dots_of c)) 16)
fit_clock c t =
    let e = true_from (normalised c) t in
    let k = few c e in
    and_i (normal (dots_of c)) (leb (length (dots_of c)) 16) (normal_to (dots_of c) (dots_normal c e)) (le→leb (length (dots_of c)) 16 (rw length-take (omega arith)))

pub does : (q : Request) (a : List ℕ) → Lent q → Does (call_on q a) a (event_of q)
unfolding apply_call reset_call merge_call unfit_arguments operated step apply fits fair
does (apply_op (Add d) c ms) a l = record { orderly = in_order (apply_op (Add d) c ms) a; result_is = refl; passes = λ n. record { image_good = passed (good_image a) n.0; event_fits = tt; event_fair = tt; numbers_fit = (l.0, l.2) } }
does (apply_op Remove c ms) a l = record {
  orderly = in_order (apply_op Remove c ms) a;
  result_is = refl;
  passes = λ n.
      let t = fit_clock c (and_l (normalised c) true (passed (normalised c && true) n.1.0)) in
      record { image_good = passed (good_image a) n.0; event_fits = t; event_fair = and_l (normal (dots_of c)) (leb (length (dots_of c)) 16) t; numbers_fit = (l.1, l.2) };
}
does (merge_with b) a l = record {
  orderly = in_order (merge_with b) a;
  result_is = refl;
  passes = λ n. let g = passed (good_image b) n.1.0 in
      record { image_good = passed (good_image a) n.0; event_fits = good_formed b g; event_fair = (well_formed_from full (image_of b) (good_formed b g)).0; numbers_fit = good_fits b l g };
}
does (merge_into b) a l = record {
  orderly = in_order (merge_into b) a;
  result_is = refl;
  passes = λ n. let g = passed (good_image b) n.0 in
      record { image_good = passed (good_image a) n.1.0; event_fits = good_formed b g; event_fair = (well_formed_from full (image_of b) (good_formed b g)).0; numbers_fit = good_fits b l g };
}
does (reset_by c) a l = record { orderly = in_order (reset_by c) a; result_is = refl; passes = λ n. record { image_good = passed (good_image a) n.0; event_fits = tt; event_fair = tt; numbers_fit = tt } }
