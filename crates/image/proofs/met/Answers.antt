use Rattle.image.proofs.Steps.{met_other, met_above, met_under, met_within}
use Rattle.fields.proofs.Parts.{actor_of_part, counter_of_part}
use native.Mathlib.Omega.{arith}
use mathlib.Core.Path.{◌∙◌}
use Rattle.image.proofs.met.Goals as goal

pub returns-then-u32_at : goal.returns-then-u32_at
returns-then-u32_at c =
    let a = c.args in
    let e = c.u32_at.ensures ∙ actor_of_part a.s.now a.p in
    let f = c.u32_at-2.ensures ∙ actor_of_part a.s.now a.q in
    met_other a.s.now a.p a.q a.line (λ z. omega arith)

pub returns-then-u64_at-c : goal.returns-then-u64_at-c
returns-then-u64_at-c c =
    let a = c.args in
    let e = c.u32_at.ensures ∙ actor_of_part a.s.now a.p in
    let f = c.u32_at-2.ensures ∙ actor_of_part a.s.now a.q in
    let g = c.u64_at-c.ensures ∙ counter_of_part a.s.now a.p in
    let h = c.u64_at.ensures ∙ counter_of_part a.s.now a.q in
    met_above a.s.now a.p a.q a.line (omega arith) (omega arith)

pub returns-then-c-line : goal.returns-then-c-line
returns-then-c-line c =
    let a = c.args in
    let e = c.u32_at.ensures ∙ actor_of_part a.s.now a.p in
    let f = c.u32_at-2.ensures ∙ actor_of_part a.s.now a.q in
    let g = c.u64_at-c.ensures ∙ counter_of_part a.s.now a.p in
    let h = c.u64_at.ensures ∙ counter_of_part a.s.now a.q in
    met_under a.s.now a.p a.q a.line (omega arith) (omega arith) (omega arith)

pub returns-else-c-line : goal.returns-else-c-line
returns-else-c-line c =
    let a = c.args in
    let e = c.u32_at.ensures ∙ actor_of_part a.s.now a.p in
    let f = c.u32_at-2.ensures ∙ actor_of_part a.s.now a.q in
    let g = c.u64_at-c.ensures ∙ counter_of_part a.s.now a.p in
    let h = c.u64_at.ensures ∙ counter_of_part a.s.now a.q in
    met_within a.s.now a.p a.q a.line (omega arith) (omega arith) (omega arith)
