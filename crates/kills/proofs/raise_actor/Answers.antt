use Rattle.kills.proofs.Steps.{number_turn, number_met, number_kept, along_stop, number_end}
use Rattle.kills.specs.Lines.{raise_from}
use Rattle.dots.specs.Dot.{dots, dot}
use Rattle.tables.specs.Table.{pick}
use lib.Dec.{eqb}
use lib.ListN.{set, get_or}
use native.Mathlib.Omega.{arith}
use Prim.Native.Nat.{max}
use mathlib.Core.Path.{◌≡◌, ap, ◌∙◌}
use Rattle.kills.proofs.raise_actor.Goals as goal
use Rattle.kills.proofs.raise_actor.Goals.{then-a-actors-2, else-a-actors-2}

pub returns-then-a-actors : goal.returns-then-a-actors
returns-then-a-actors c =
    let a = c.args in
    let l = c.loop-i in
    record { same = λ ds. ap (raise_from l.line l.i) (along_stop dots a.actors.now l.i (dot a.a a.counter) ds (omega arith) (omega arith)) ∙ l.invariant ds }

pub loop-i-preserved : goal.loop-i-preserved
loop-i-preserved c =
    let a = c.args in
    let l = c.loop-i in
    let w : c.if-a-actors-2.line ≡ set l.line l.i (max (get_or l.line l.i 0) (pick (eqb a.a (get_or a.actors.now l.i 0)) a.counter 0)) =
    elim c.if-a-actors-2.branch [
      | then-a-actors-2 w ↦ w.line-is ∙ number_met l.line l.i a.a _ a.counter _ w.if-a-actors-2.true w.max.ensures
      | else-a-actors-2 w ↦ w.line-is ∙ number_kept l.line l.i a.a _ a.counter w.if-a-actors-2.false
    ] in
    λ ds. number_turn a.actors.now l.line _ ds l.i a.a a.counter (omega arith) (omega arith) w ∙ l.invariant ds

pub returns : goal.returns
returns c =
    let a = c.args in
    let l = c.loop-i in
    record { same = λ ds. number_end a.actors.now l.line l.line l.i (omega arith) (dot a.a a.counter) ds ∙ l.invariant ds }
