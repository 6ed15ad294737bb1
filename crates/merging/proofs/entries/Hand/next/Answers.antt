use native.Mathlib.Omega.{arith}
use mathlib.Core.Path.{◌∙◌}
use Rattle.merging.proofs.RowSteps.{row_inside}
use Rattle.merging.proofs.entries.Hand.next.Goals as goal

pub overflow_add-dots : goal.overflow_add-dots
overflow_add-dots c = let p = c.requires in let e = p.1.edge in let r = p.1.room in let h = row_inside c.args.s.now c.args.self.now.at c.args.self.now.left p.0 in omega arith

pub overflow_add-self : goal.overflow_add-self
overflow_add-self c = let p = c.requires in let e = p.1.edge in let r = p.1.room in let h = row_inside c.args.s.now c.args.self.now.at c.args.self.now.left p.0 in omega arith

pub u32_in-requires : goal.u32_in-requires
u32_in-requires c = let p = c.requires in let e = p.1.edge in let r = p.1.room in let h = row_inside c.args.s.now c.args.self.now.at c.args.self.now.left p.0 in omega arith

pub overflow_add-self-2 : goal.overflow_add-self-2
overflow_add-self-2 c = let p = c.requires in let e = p.1.edge in let r = p.1.room in let h = row_inside c.args.s.now c.args.self.now.at c.args.self.now.left p.0 in let f = c.index.ensures.0 ∙ c.u32_in.ensures in omega arith
