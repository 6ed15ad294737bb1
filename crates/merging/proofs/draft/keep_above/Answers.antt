use mathlib.Core.Path.{◌≡◌, ◌∙◌, refl}
use lib.ListN.{length}
use Rattle.merging.proofs.DraftSteps.{clock_actors, few_first}
use Rattle.merging.proofs.Sides.{rows_of, one_kept}
use borrow.Author.Rules.{rules}
use Rattle.merging.proofs.draft.keep_above.Goals as goal

pub sift_rows-requires : goal.sift_rows-requires
sift_rows-requires c =
    let p = c.requires in
    let long : length c.args.v.dots ≡ 16 = search rules in
    let l = c.counts-line in
    let few = few_first _ _ p.4 in
    rw c.start-start.ensures (record { few = few; wide = search rules }, rows_of _ _ few p.5 (clock_actors _ _ long p.4 c.actors_of-all.ensures) _ _ _ p.2 (c.index-2.ensures.0 ∙ c.u32_at-2.ensures) p.7, p.2.few, p.6, refl, refl)

pub returns : goal.returns
returns c =
    let p = c.requires in
    let long : length c.args.v.dots ≡ 16 = search rules in
    rw (c.start-start.ensures, one_kept _ _ (few_first _ _ p.4) p.5 (clock_actors _ _ long p.4 c.actors_of-all.ensures) _ _ _ _ _ p.2 p.3 (c.index-2.ensures.0 ∙ c.u32_at-2.ensures) p.0 _ _ p.1 (c.index.ensures.0 ∙ c.u32_at.ensures) c.counts-line.ensures) at c.sift_rows.ensures
