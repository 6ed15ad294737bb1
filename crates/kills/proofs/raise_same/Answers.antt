use Rattle.kills.proofs.Steps.{same_turn, line_met, line_kept, along_stop, same_end}
use Rattle.kills.specs.Lines.{raise_from, raised}
use Rattle.replica.specs.Replica.{member_rows}
use Rattle.tables.specs.Table.{pick}
use lib.Dec.{eqb}
use lib.ListN.{get_or}
use native.Mathlib.Omega.{arith}
use Prim.Native.Nat.{◌*◌}
use mathlib.Core.List.{List}
use mathlib.Core.Bool.{Bool}
use mathlib.Core.Path.{◌≡◌, ap, ◌∙◌}
use Rattle.kills.proofs.raise_same.Goals as goal
use Rattle.kills.proofs.raise_same.Goals.{then-m-ms-2, else-m-ms-2}

pub returns-then-m-ms : goal.returns-then-m-ms
returns-then-m-ms c =
    let a = c.args in
    let l = c.loop-i in
    record { same = λ rs. ap (λ (bs : List Bool). raised l.out l.i bs a.line.now) (along_stop member_rows a.ms.now l.i a.m rs (omega arith) (omega arith)) ∙ l.invariant rs }

pub loop-i-preserved : goal.loop-i-preserved
loop-i-preserved c =
    let a = c.args in
    let l = c.loop-i in
    let w : c.if-m-ms-2.out ≡ pick (eqb a.m (get_or a.ms.now l.i 0)) (raise_from l.out (16 * l.i) a.line.now) l.out =
    elim c.if-m-ms-2.branch [
      | then-m-ms-2 w ↦ w.out-is ∙ w.raise_line.ensures ∙ line_met l.out a.line.now l.i a.m _ w.if-m-ms-2.true
      | else-m-ms-2 w ↦ w.out-is ∙ line_kept l.out a.line.now l.i a.m _ w.if-m-ms-2.false
    ] in
    λ rs. same_turn a.ms.now a.line.now l.out _ rs l.i a.m (omega arith) (omega arith) w ∙ l.invariant rs

pub returns : goal.returns
returns c =
    let a = c.args in
    let l = c.loop-i in
    record { same = λ rs. same_end a.ms.now a.line.now l.out l.i (omega arith) a.m rs ∙ l.invariant rs }
