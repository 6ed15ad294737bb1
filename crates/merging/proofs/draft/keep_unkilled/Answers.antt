use mathlib.Core.Path.{◌≡◌, ap, ◌∙◌, refl}
use Prim.Native.Nat.{ℕ}
use native.Mathlib.Omega.{arith}
use lib.ListN.{length, length-replicate}
use Rattle.kills.specs.Laws.{length_table}
use Rattle.merging.proofs.DraftSteps.{clock_actors, few_first}
use Rattle.merging.proofs.Sides.{rows_of, own_kept}
use borrow.Author.Rules.{rules}
use Rattle.merging.proofs.draft.keep_unkilled.Goals as goal

pub sift_rows-requires : goal.sift_rows-requires
sift_rows-requires c =
    let p = c.requires in
    let long : length c.args.v.dots ≡ 16 = search rules in
    let e = ap length c.kill_lines.ensures ∙ length_table _ _ _ _ _ ∙ length-replicate {A = ℕ} 1024 0 in
    let few = few_first _ _ p.3 in
    rw c.start-start.ensures (record { few = few; wide = omega arith }, rows_of _ _ few p.4 (clock_actors _ _ long p.3 c.actors_of-all.ensures) _ _ _ p.1 (c.index-2.ensures.0 ∙ c.u32_at-2.ensures) p.6, p.1.few, p.5, refl, refl)

pub returns : goal.returns
returns c =
    let p = c.requires in
    let long : length c.args.v.dots ≡ 16 = search rules in
    rw (c.start-start.ensures, own_kept _ _ (few_first _ _ p.3) p.4 (clock_actors _ _ long p.3 c.actors_of-all.ensures) _ _ _ _ _ p.1 p.2 (c.index-2.ensures.0 ∙ c.u32_at-2.ensures) p.0 _ _ _ _ (let k = c.counts-line in search rules) (c.index.ensures.0 ∙ c.u32_at.ensures) c.counts-line.ensures (record { short = c.counting-waits.ensures.0; all_count = c.counting-waits.ensures.1; table = c.kill_lines.ensures })) at c.sift_rows.ensures
