use mathlib.Core.Path.{◌≡◌}
use Rattle.tables.specs.Order.{lex}
use Rattle.dots.specs.Dot.{cmp_dot}
use Rattle.layout.specs.Clock.{dots_at}
use Rattle.scan.proofs.Order.{dots_past}
use Rattle.scan.proofs.dots_order.Given as goal

abbrev pub invariant-loop-i : goal.invariant-loop-i
invariant-loop-i l = lex cmp_dot (dots_past l.s l.p l.n l.i) (dots_past l.s l.q l.m l.i) ≡ lex cmp_dot (dots_at l.s l.p l.n) (dots_at l.s l.q l.m)
