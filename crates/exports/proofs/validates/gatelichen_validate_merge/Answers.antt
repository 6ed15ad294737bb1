use Prim.Native.Nat.{ℕ, ◌+◌, ◌*◌}
use mathlib.Core.Path.{ap, ◌∙◌}
use Rattle.std.specs.Prelude.{Err}
use Rattle.exports.proofs.Named.{nothing_spent, refused_spent, spent_replies}
use Rattle.exports.proofs.validates.gatelichen_validate_merge.Goals as goal

pub returns-in_default : goal.returns-in_default
returns-in_default c = nothing_spent _ _ _ _ _ c.validate_merge.ensures c.in_default.is c.packed.ensures

pub returns-in-Refused : goal.returns-in-Refused
returns-in-Refused c = refused_spent _ _ _ _ _ c.validate_merge.ensures _ _ (c.in-Err.is ∙ ap Err c.in-Refused.is) c.number.ensures c.packed-in-Refused.ensures

pub returns-in-DoubleSpent : goal.returns-in-DoubleSpent
returns-in-DoubleSpent c =
    let e = c.number-in-DoubleSpent.ensures in
    spent_replies _ _ _ _ _ c.validate_merge.ensures _ _ (c.in-Err.is ∙ ap Err c.in-DoubleSpent.is) (c.packed-in-DoubleSpent.ensures ∙ ap (λ (n : ℕ). n * 4294967296 + 0) e) c.put_spent.ensures
