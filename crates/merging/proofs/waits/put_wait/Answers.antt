use mathlib.Core.Path.{refl, sym, ap, ◌∙◌}
use native.Mathlib.Omega.{arith}
use lib.ListN.{length}
use lib.Seq.{length-sets}
use Rattle.layout.specs.Fields.{Bytes}
use Rattle.merging.proofs.WaitSteps.{clock_inside, cover_clock, put_none, put_united}
use Rattle.merging.proofs.waits.put_wait.Goals as goal

pub covered-requires : goal.covered-requires
covered-requires c = let p = c.requires in (clock_inside p.0 (c.index-n.ensures.0 ∙ c.u32_at.ensures), p.2)

pub returns-then-covered : goal.returns-then-covered
returns-then-covered c = put_none _ _ _ _ _ _ (sym (cover_clock _ _ _ _ _ (c.index-n.ensures.0 ∙ c.u32_at.ensures) c.covered.ensures) ∙ c.if-covered.true)

pub overflow_add-e : goal.overflow_add-e
overflow_add-e c = let h = c.requires in let x = c.index-n.ensures.1 in omega arith

pub overflow_add-e-2 : goal.overflow_add-e-2
overflow_add-e-2 c = let h = c.requires in let x = c.index-n.ensures.1 in omega arith

pub unite-names-requires : goal.unite-names-requires
unite-names-requires c = let h = c.requires in let x = c.index-n.ensures.1 in (h.5, omega arith)

pub overflow_cast-names : goal.overflow_cast-names
overflow_cast-names c = let h = c.requires.4 in let g = c.requires.0.named in let f = c.unite-names.ensures.few in omega arith

pub overflow_add-result : goal.overflow_add-result
overflow_add-result c = let x = c.index-n.ensures.1 in omega arith

pub overflow_mul-result : goal.overflow_mul-result
overflow_mul-result c = let h = c.requires.4 in let g = c.requires.0.named in let f = c.unite-names.ensures.few in omega arith

pub overflow_add-result-2 : goal.overflow_add-result-2
overflow_add-result-2 c = let x = c.index-n.ensures.1 in let h = c.requires.4 in let g = c.requires.0.named in let f = c.unite-names.ensures.few in omega arith

pub shape_of-out : goal.shape_of-out
shape_of-out c = ap length c.put_u32.ensures ∙ simp length-sets (ap length c.unite-names.ensures.bytes ∙ simp length-sets (ap length c.copy.ensures ∙ simp length-sets))

pub returns : goal.returns
returns c =
    let b : Bytes c.args.s.now = λ i. omega (arith, c.type_inv.s i) in
    put_united _ _ c.args.x _ _ _ _ _ _ _ _ _ _ _ b c.requires.0 (sym (cover_clock _ _ _ _ _ (c.index-n.ensures.0 ∙ c.u32_at.ensures) c.covered.ensures) ∙ c.if-covered.false) (c.index-n.ensures.0 ∙ c.u32_at.ensures) refl c.copy.ensures c.unite-names.ensures c.put_u32.ensures
