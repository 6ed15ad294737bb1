use Rattle.kills.proofs.Steps.{dots_turn, dots_end}
use Rattle.fields.proofs.Parts.{actor_of_part, counter_of_part}
use native.Mathlib.Omega.{arith}
use mathlib.Core.Path.{sym, ◌∙◌}
use Rattle.kills.proofs.raise_in.Goals as goal

pub loop-k-preserved : goal.loop-k-preserved
loop-k-preserved c =
    let a = c.args in
    let l = c.loop-k in
    let e = c.u32_at.ensures ∙ actor_of_part a.t.now _ in
    let f = c.u64_at.ensures ∙ counter_of_part a.t.now _ in
    dots_turn a.t.now a.actors.now l.line _ l.i _ _ _ _ _ _ _ (omega arith) (omega arith) e f c.raise_actor-i.ensures ∙ l.invariant

pub returns : goal.returns
returns c =
    let a = c.args in
    let l = c.loop-k in
    sym (dots_end a.t.now a.actors.now l.line l.i _ _ (omega arith)) ∙ l.invariant
