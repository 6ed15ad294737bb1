use Rattle.kills.proofs.Steps.{padded_dots, read_at}
use Rattle.kills.specs.Lines.{along, raise_from}
use Rattle.dots.specs.declared.Dot.{Dot}
use Rattle.dots.specs.Dot.{dots}
use Rattle.layout.specs.Fields.{u32_at}
use native.Mathlib.Omega.{arith}
use Prim.Native.Nat.{◌+◌, min}
use mathlib.Core.List.{List}
use mathlib.Core.Path.{◌≡◌, ap, ◌∙◌}
use Rattle.kills.proofs.raise_at.Goals as goal

pub returns-then-t-from : goal.returns-then-t-from
returns-then-t-from c =
    let a = c.args in
    let q = c.index-q in
    let n = c.min-count in
    let k : n.result ≡ min (u32_at a.t.now q.result) 16 = omega (arith, n.ensures, c.index.ensures.0, c.u32_at.ensures) in
    c.raise_in.ensures
    ∙ ap (λ (ds : List Dot). raise_from a.line.now 0 (along dots a.actors.now ds))
    (padded_dots a.t.now (q.result + 4) _ n.result (omega arith) c.padded-copy.ensures ∙ read_at a.t.now a.at q.result n.result q.ensures.0 k)

pub returns-else-t-from : goal.returns-else-t-from
returns-else-t-from c =
    let a = c.args in
    let q = c.index-q in
    let n = c.min-count in
    let k : n.result ≡ min (u32_at a.t.now q.result) 16 = omega (arith, n.ensures, c.index.ensures.0, c.u32_at.ensures) in
    c.raise_in-else-t-from.ensures ∙ ap (λ (ds : List Dot). raise_from a.line.now 0 (along dots a.actors.now ds)) (read_at a.t.now a.at q.result n.result q.ensures.0 k)
