use Rattle.numbers.proofs.Edge.{u32_bytes}
use native.Mathlib.Omega.{arith}
use mathlib.Core.Path.{◌∙◌}
use Rattle.numbers.proofs.load_edge.Goals as goal

pub returns : goal.returns
returns c =
    let a = c.args in
    let e = u32_bytes a.s.now a.at a.k c.byte_after.result c.byte_after-2.result c.byte_after-3.result c.byte_after-4.result c.byte_after.ensures c.byte_after-2.ensures c.byte_after-3.ensures c.byte_after-4.ensures in
    c.from_le_bytes.ensures ∙ omega arith
