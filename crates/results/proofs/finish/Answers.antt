use mathlib.Core.Path.{◌≡◌, refl, ap, ◌∙◌}
use native.Mathlib.Omega.{arith}
use lib.ListN.{length}
use lib.Seq.{length-sets}
use Rattle.results.proofs.Steps.{number_6, number_7, number_8, number_9, number_short, number_early, number_none, refuses, grants}
use Rattle.results.specs.Call.{answered}
use Rattle.dots.specs.Answers.{answer, refusal}
use borrow.Author.Rules.{rules}
use Rattle.results.proofs.finish.Goals as goal

pub returns-then-v-gt16 : goal.returns-then-v-gt16
unfolding answered answer refusal
returns-then-v-gt16 c = refuses _ _ _ _ 6 _ (number_6 _ _ _ c.if-v-gt16.true) refl refl

pub returns-then-d-gt64 : goal.returns-then-d-gt64
unfolding answered answer refusal
returns-then-d-gt64 c = refuses _ _ _ _ 7 _ (number_7 _ _ _ c.if-v-gt16.false c.if-d-gt64.true) refl refl

pub returns-then-d-gt16 : goal.returns-then-d-gt16
unfolding answered answer refusal
returns-then-d-gt16 c = refuses _ _ _ _ 8 _ (number_8 _ _ _ c.if-v-gt16.false c.if-d-gt64.false c.if-d-gt16.true) refl refl

pub returns-then-d-gt32 : goal.returns-then-d-gt32
unfolding answered answer refusal
returns-then-d-gt32 c = refuses _ _ _ _ 9 _ (number_9 _ _ _ c.if-v-gt16.false c.if-d-gt64.false c.if-d-gt16.false c.if-d-gt32.true) refl refl

pub returns-then-out-end : goal.returns-then-out-end
unfolding answered answer refusal
returns-then-out-end c = refuses _ _ _ _ 10 _ (number_short _ _ _ c.if-v-gt16.false c.if-d-gt64.false c.if-d-gt16.false c.if-d-gt32.false (let e = c.index-end.ensures.0 in let t = c.if-out-end.true in omega arith)) refl refl

pub overflow_mul-start : goal.overflow_mul-start
overflow_mul-start c = let a = c.if-v-gt16.false in omega arith

pub overflow_add-start : goal.overflow_add-start
overflow_add-start c = let a = c.if-v-gt16.false in omega arith

pub returns-then-end-start : goal.returns-then-end-start
unfolding answered answer refusal
returns-then-end-start c = refuses _ _ _ _ 10 _ (number_early _ _ _ c.if-v-gt16.false c.if-d-gt64.false c.if-d-gt16.false c.if-d-gt32.false (let e = c.index-end.ensures.0 in let t = c.if-out-end.false in omega arith) (let e = c.index-end.ensures.0 in let t = c.if-end-start.true in omega arith)) refl refl

pub overflow_cast-start : goal.overflow_cast-start
overflow_cast-start c = let a = c.if-v-gt16.false in omega arith

pub shape_of-out : goal.shape_of-out
shape_of-out c = ap length c.copy.ensures ∙ simp length-sets (ap length c.put_clock.ensures.is ∙ simp length-sets (ap length c.put_contents.ensures ∙ simp length-sets))

pub returns : goal.returns
returns c =
    let st = c in let gd = st.well_formed in let long : length st.args.v.dots ≡ 16 = search rules in
    let e = c.index-end.ensures.0 in let t = c.if-out-end.false in let g = c.if-end-start.false in
    grants c.args.v c.args.d _ _ _ _ _ _ (number_none _ _ _ c.if-v-gt16.false c.if-d-gt64.false c.if-d-gt16.false c.if-d-gt32.false (omega arith) (omega arith)) e long c.if-v-gt16.false c.put_contents.ensures c.put_clock.ensures.is c.copy.ensures
