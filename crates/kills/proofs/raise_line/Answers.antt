use Rattle.kills.proofs.Steps.{raise_turn, raise_end}
use Rattle.kills.specs.Lines.{raise_from}
use lib.ListN.{drop, set}
use native.Mathlib.Omega.{arith}
use Prim.Native.Nat.{ℕ, ◌+◌, ◌*◌}
use mathlib.Core.Path.{sym, ap, ◌∙◌}
use Rattle.kills.proofs.raise_line.Goals as goal

pub loop-j-preserved : goal.loop-j-preserved
loop-j-preserved c =
    let a = c.args in
    let l = c.loop-j in
    ap (λ (x : ℕ). raise_from (set l.out (16 * a.i + l.j) x) (16 * a.i + (l.j + 1)) (drop (l.j + 1) a.line.now)) c.max.ensures
    ∙ raise_turn l.out a.line.now (16 * a.i + l.j) (16 * a.i + (l.j + 1)) l.j (omega arith) (omega arith) ∙ l.invariant

pub returns : goal.returns
returns c =
    let a = c.args in
    let l = c.loop-j in
    sym (raise_end l.out a.line.now (16 * a.i + l.j) l.j (omega arith)) ∙ l.invariant
