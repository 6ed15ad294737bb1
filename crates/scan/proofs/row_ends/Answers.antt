use Rattle.scan.proofs.Steps.{row_low, row_empty, row_many, row_stands}
use Rattle.layout.specs.Clock.{clock_end_in}
use Rattle.layout.specs.Rows.{row_end, row_end_in}
use native.Mathlib.Omega.{arith}
use mathlib.Core.Path.{◌≡◌, refl, ◌∙◌}
use Prim.Native.Nat.{◌+◌, ◌*◌}
use Rattle.scan.proofs.row_ends.Goals as goal

pub returns-then-index-low : goal.returns-then-index-low
returns-then-index-low c = let a = c.args in row_low a.s.now a.p a.low (omega arith)

pub returns-then-dots-eq0 : goal.returns-then-dots-eq0
returns-then-dots-eq0 c = let a = c.args in row_empty a.s.now a.p a.low (omega arith)

pub returns-then-dots-gt16 : goal.returns-then-dots-gt16
returns-then-dots-gt16 c = let a = c.args in row_many a.s.now a.p a.low (omega arith)

pub returns : goal.returns
unfolding row_end_in clock_end_in
returns c =
    let a = c.args in
    let e : a.p + 8 + 12 * c.index-dots.result ≡ row_end a.s.now a.p = omega arith in
    c.then_some.ensures ∙ rw e (row_stands a.s.now a.p a.low (omega arith) (λ z. omega arith) (omega arith) _ refl)
