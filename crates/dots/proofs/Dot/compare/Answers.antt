use Rattle.std.proofs.Common.{sym, eq-eqb, ne_eqb}
use Rattle.std.proofs.lemmas.Bool.{eqb-true, eqb-false}
use Rattle.dots.specs.Calls.{at_least}
use Rattle.dots.proofs.Actors.{by_number}
use Rattle.dots.proofs.Dot.compare.Goals as goal

-- `dots::Dot::compare` meets its contract: the actors' test picks the counters' answer or none.
pub returns-then-eq : goal.returns-then-eq
unfolding at_least
returns-then-eq c =
    let e = eqb-true _ _ (sym c.if-eq.ensures) in
    simp (eq-eqb _ _ e, eq-eqb _ _ (sym e), c.cmp.ensures) (by_number _ _)

pub returns-else-eq : goal.returns-else-eq
unfolding at_least
returns-else-eq c =
    let n = eqb-false _ _ (sym c.if-eq.ensures) in
    simp (ne_eqb _ _ n, ne_eqb _ _ (λ e. n (sym e)))
