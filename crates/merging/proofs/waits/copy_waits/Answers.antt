use mathlib.Core.Path.{◌∙◌}
use native.Mathlib.Omega.{arith}
use Rattle.layout.specs.Fields.{Bytes}
use Rattle.merging.proofs.CopyAll.{waits_inside, all_copied}
use Rattle.merging.proofs.Link.{short}
use Rattle.merging.proofs.waits.copy_waits.Goals as goal

pub overflow_sub-result : goal.overflow_sub-result
overflow_sub-result c = waits_inside _ c.requires.0 (c.index-q.ensures.0 ∙ c.u32_at.ensures)

pub overflow_add-result : goal.overflow_add-result
overflow_add-result c = let p = c.requires in let l = short _ p.0 in let h = p.1 in omega arith

pub returns : goal.returns
returns c =
    let b : Bytes c.args.img.now = λ i. omega (arith, c.type_inv.img i) in
    all_copied _ c.requires.0 b _ _ _ _ _ (c.index-q.ensures.0 ∙ c.u32_at.ensures) (c.index.ensures.0 ∙ c.u32_at-2.ensures) c.copy.ensures
