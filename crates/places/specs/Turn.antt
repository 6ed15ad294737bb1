-- What the walk along two lists of dots is given: a rule for an actor's two counters.
use Rattle.std.specs.Prelude.{ℕ, max, min}
use Rattle.dots.specs.Ruled.{same, beyond}
use Rattle.places.specs.declared.Rule.{Rule}
use Rattle.places.specs.declared.Rule.TheVariants.{Larger, Smaller, Same, Beyond}

unfoldable pub rule_of : Rule → ℕ → ℕ → ℕ
rule_of Larger x y = max x y
rule_of Smaller x y = min x y
rule_of Same x y = same x y
rule_of Beyond x y = beyond x y
