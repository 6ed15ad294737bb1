use native.Mathlib.Omega.{arith}
use Rattle.replies.proofs.Fitted.{fitted_refused, fitted_short, fitted_put}
use Rattle.replies.proofs.put_numbered.Goals as goal

pub returns-then-no-ne0 : goal.returns-then-no-ne0
returns-then-no-ne0 c = fitted_refused _ _ _ _ _ c.if-no-ne0.true c.packed.ensures

pub returns-then-out-index : goal.returns-then-out-index
returns-then-out-index c = fitted_short _ _ _ _ _ _ (omega arith) (omega (arith, c.index.ensures.0, c.bytes_of.ensures)) c.number.ensures c.packed-then-out-index.ensures

pub returns : goal.returns
returns c = fitted_put _ _ _ _ _ _ (omega arith) (omega (arith, c.index.ensures.0, c.bytes_of.ensures)) c.packed-2.ensures c.put_clock.ensures.is
