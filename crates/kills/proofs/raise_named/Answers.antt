use Rattle.kills.proofs.Steps.{named_turn, named_end}
use Rattle.kills.specs.Lines.{along, raised}
use Rattle.layout.specs.Rows.{members_at}
use Rattle.layout.specs.Fields.{u32_at}
use Rattle.replica.specs.Replica.{member_rows}
use native.Mathlib.Omega.{arith}
use Prim.Native.Nat.{ℕ, ◌+◌, min}
use mathlib.Core.Path.{◌≡◌, sym, ap, ◌∙◌}
use Rattle.kills.proofs.raise_named.Goals as goal

pub loop-k-preserved : goal.loop-k-preserved
loop-k-preserved c =
    let a = c.args in
    let l = c.loop-k in
    named_turn a.t.now a.ms.now l.out _ a.line.now l.i _ _ _ _ _ _ (omega arith) (omega arith) c.u32_at-in-loop-k.ensures c.raise_same-i.ensures ∙ l.invariant

pub returns : goal.returns
returns c =
    let a = c.args in
    let l = c.loop-k in
    let e : c.min-count.result ≡ min (u32_at a.t.now a.at) 64 = omega (arith, c.min-count.ensures, c.index.ensures.0, c.u32_at.ensures) in
    sym (named_end a.t.now a.ms.now l.out a.line.now l.i _ _ (omega arith)) ∙ l.invariant
    ∙ ap (λ (k : ℕ). raised a.out.now 0 (along member_rows a.ms.now (members_at a.t.now (a.at + 4) k)) a.line.now) e
