-- What has been put is what the definition replies.
use Prim.Native.Nat.{ℕ, ◌+◌, ◌*◌, ◌≤◌, ◌<◌}
use Rattle.std.specs.Prelude.{Result, Err}
use mathlib.Core.Path.{◌≡◌, ap, ◌∙◌}
use native.Mathlib.Omega.{arith}
use mathlib.Core.List.{List}
use lib.ListN.{length}
use lib.Seq.{sets}
use borrow.Author.Tests.{ne_eqb, lt-ltb, le-ltb}
use Rattle.dots.specs.declared.refusals.Refused.{Refused}
use Rattle.dots.specs.Answers.{number}
use Rattle.dots.proofs.AnswersFacts.{number_positive}
use Rattle.clocks.specs.declared.VClock.{VClock}
use Rattle.replies.specs.Reply.{reply, fitted, Replies}
use Rattle.replies.specs.Given.{clock_given}

-- bytes that are written where they fit
module _ (before bytes : List ℕ) (no low r : ℕ) where
  pub fitted_refused : (no ≡ 0 → ⊥) → r ≡ no * 4294967296 + 0 → Replies (fitted (length before) no low bytes) before r before
  unfolding fitted reply
  fitted_refused n e = record { answer = simp (ne_eqb no 0 n) e; output = simp (ne_eqb no 0 n) }

  pub fitted_short : (k : ℕ) → no ≡ 0 → length before < length bytes → k ≡ 10 → r ≡ k * 4294967296 + 0 → Replies (fitted (length before) no low bytes) before r before
  unfolding fitted reply
  fitted_short k n h f e = record { answer = rw (n, lt-ltb (length before) (length bytes) h) (e ∙ ap (λ k. k * 4294967296 + 0) f); output = rw (n, lt-ltb (length before) (length bytes) h) }

  pub fitted_put : (after : List ℕ) → no ≡ 0 → length bytes ≤ length before → r ≡ 0 * 4294967296 + low → after ≡ sets before 0 bytes → Replies (fitted (length before) no low bytes) before r after
  unfolding fitted reply
  fitted_put after n h e f = record { answer = rw (n, le-ltb (length before) (length bytes) h) e; output = rw (n, le-ltb (length before) (length bytes) h) f }

-- a refusal writes nothing
module _ (before : List ℕ) (g : Result (ℕ × VClock) Refused) (r : ℕ) where
  pub refused_put : (e : Refused) (n : ℕ) → g ≡ Err e → n ≡ number e → r ≡ n * 4294967296 + 0 → Replies (clock_given (length before) g) before r before
  unfolding reply
  refused_put e n w f h = let p = number_positive e in rw w (record { answer = simp (ne_eqb (number e) 0 (λ z. omega arith)) (h ∙ ap (λ k. k * 4294967296 + 0) f); output = simp (ne_eqb (number e) 0 (λ z. omega arith)) })
