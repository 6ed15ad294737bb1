-- One turn of a loop over places (from `places`), and what a branch on a callee's answer says.
use mathlib.Core.Path.{◌≡◌, refl, sym, ap, ◌∙◌}
use mathlib.Core.Bool.{Bool, true, false, not, ◌&&◌}
pub use Rattle.places.proofs.Steps.{ahead, done, rest, mapped}

-- a test of a callee's answer b, which is s: what the branch says of b it says of s
pub so : {b s v : Bool} → b ≡ s → b ≡ v → s ≡ v
so e t = sym e ∙ t

-- the same where the test is of `!b`
pub but : {b s v : Bool} → b ≡ s → not b ≡ v → s ≡ not v
but {b} e t = sym e ∙ twice b ∙ ap not t
  where
    twice : (b : Bool) → b ≡ not (not b)
    twice true = refl
    twice false = refl

pub and-true : (b : Bool) → (b && true) ≡ b
and-true true = refl
and-true false = refl
