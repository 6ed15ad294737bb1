use Rattle.kills.proofs.Steps.{spread_turn, spread_end}
use native.Mathlib.Omega.{arith}
use Prim.Native.Nat.{◌*◌}
use mathlib.Core.Path.{sym, ◌∙◌}
use Rattle.kills.proofs.lay.Goals as goal

pub loop-i-preserved : goal.loop-i-preserved
loop-i-preserved c =
    let a = c.args in
    let l = c.loop-i in
    spread_turn l.out _ a.floor.now a.n l.i (omega arith) (omega arith) (omega arith) (rw c.copy_from_slice.ensures.after) ∙ l.invariant

pub returns : goal.returns
returns c =
    let a = c.args in
    let l = c.loop-i in
    sym (spread_end l.out a.floor.now (16 * l.i) a.n l.i (omega arith)) ∙ l.invariant
