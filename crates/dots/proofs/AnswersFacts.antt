-- What an answer says of its number, and the number of the answer. A number is 0, or a refusal's, from 1 to 10.
use Rattle.std.proofs.Common.{◌≡◌, ℕ, zero, suc, ◌<◌, ◌≤◌, Result, Ok, Err, refl, sym, ap, ◌∙◌, arith, ne_eqb}
use Rattle.dots.specs.declared.refusals.Refused.{Refused}
use Rattle.dots.specs.declared.refusals.Refused.TheVariants.{BadImage, BadSecond, BadClock, LongList, LastCounter, ManyActors, ManyEntries, ManyWaits, ManyNamed, ShortOutput}
use Rattle.dots.specs.Answers.{refusal, number, answer, number_in}

pub number_refusal : (n : ℕ) → 0 < n → n ≤ 10 → number (refusal n) ≡ n
unfolding refusal
number_refusal zero p q = absurd (omega arith)
number_refusal (suc zero) p q = refl
number_refusal (suc (suc zero)) p q = refl
number_refusal (suc (suc (suc zero))) p q = refl
number_refusal (suc (suc (suc (suc zero)))) p q = refl
number_refusal (suc (suc (suc (suc (suc zero))))) p q = refl
number_refusal (suc (suc (suc (suc (suc (suc zero)))))) p q = refl
number_refusal (suc (suc (suc (suc (suc (suc (suc zero))))))) p q = refl
number_refusal (suc (suc (suc (suc (suc (suc (suc (suc zero)))))))) p q = refl
number_refusal (suc (suc (suc (suc (suc (suc (suc (suc (suc zero))))))))) p q = refl
number_refusal (suc (suc (suc (suc (suc (suc (suc (suc (suc (suc zero)))))))))) p q = refl
number_refusal (suc (suc (suc (suc (suc (suc (suc (suc (suc (suc (suc n))))))))))) p q = absurd (omega arith)

pub refusal_number : (r : Refused) → refusal (number r) ≡ r
unfolding refusal
refusal_number BadImage = refl
refusal_number BadSecond = refl
refusal_number BadClock = refl
refusal_number LongList = refl
refusal_number LastCounter = refl
refusal_number ManyActors = refl
refusal_number ManyEntries = refl
refusal_number ManyWaits = refl
refusal_number ManyNamed = refl
refusal_number ShortOutput = refl

pub number_positive : (r : Refused) → 0 < number r
number_positive BadImage = omega arith
number_positive BadSecond = omega arith
number_positive BadClock = omega arith
number_positive LongList = omega arith
number_positive LastCounter = omega arith
number_positive ManyActors = omega arith
number_positive ManyEntries = omega arith
number_positive ManyWaits = omega arith
number_positive ManyNamed = omega arith
number_positive ShortOutput = omega arith

module _ {A : Type 0} where
  pub answer_ok : (a : A) → answer 0 a ≡ Ok a
  unfolding answer
  answer_ok a = refl

  pub answer_err : (n : ℕ) (a : A) → (n ≡ 0 → ⊥) → answer n a ≡ Err (refusal n)
  unfolding answer
  answer_err n a h = simp (ne_eqb n 0 h)

  -- each refusal is the answer of its number
  pub err_answer : (r : Refused) (a : A) → answer (number r) a ≡ Err r
  err_answer r a = let p = number_positive r in answer_err (number r) a (λ z. omega arith) ∙ rw refusal_number refl

  pub number_in_answer : (n : ℕ) (a : A) → n ≤ 10 → number_in (answer n a) ≡ n
  number_in_answer zero a h = rw answer_ok refl
  number_in_answer (suc n) a h = ap number_in (answer_err (suc n) a (λ z. omega arith)) ∙ number_refusal (suc n) (omega arith) h

  -- a value is answered exactly where the number is 0
  pub answer_done : (n : ℕ) (a : A) → number_in (answer n a) ≡ 0 → n ≡ 0
  answer_done zero a h = refl
  answer_done (suc n) a h =
      let p = number_positive (refusal (suc n)) in
      let e : number (refusal (suc n)) ≡ 0 = sym (ap number_in (answer_err (suc n) a (λ z. omega arith))) ∙ h in
      absurd (omega arith)

  pub answered_ok : (n : ℕ) (a x : A) → answer n a ≡ Ok x → (n ≡ 0) × (a ≡ x)
  answered_ok zero a x e = (refl, let f : ◌≡◌ {A = Result A Refused} (Ok a) (Ok x) = sym (answer_ok a) ∙ e in cc)
  answered_ok (suc n) a x e = let f : ◌≡◌ {A = Result A Refused} (Err (refusal (suc n))) (Ok x) = sym (answer_err (suc n) a (λ z. omega arith)) ∙ e in cc

  pub answered_err : (n : ℕ) (a : A) (r : Refused) → n ≤ 10 → answer n a ≡ Err r → n ≡ number r
  answered_err n a r h e = sym (number_in_answer n a h) ∙ ap number_in e

  -- equal answers have equal numbers, and equal values where the number is 0
  pub answer_one : (m n : ℕ) (a b : A) → m ≤ 10 → n ≤ 10 → answer m a ≡ answer n b → m ≡ n
  answer_one m n a b p q e = sym (number_in_answer m a p) ∙ ap number_in e ∙ number_in_answer n b q

  pub value_one : (a b : A) → answer 0 a ≡ answer 0 b → a ≡ b
  value_one a b e = (answered_ok 0 a b (e ∙ answer_ok b)).1
