use mathlib.Core.Path.{◌≡◌, ◌∙◌}
use lib.ListN.{length}
use Rattle.merging.proofs.DraftSteps.{clock_actors, few_first}
use Rattle.merging.proofs.Sides.{ready_of}
use borrow.Author.Rules.{rules}
use Rattle.merging.proofs.draft.keep_both.Goals as goal

pub merge_entries-requires : goal.merge_entries-requires
merge_entries-requires c =
    let p = c.requires in
    let long : length c.args.v.dots ≡ 16 = search rules in (
      ready_of _ _ (few_first _ _ p.2) p.3 (clock_actors _ _ long p.2 c.actors_of-all.ensures) _ _ _ _ _ _ _ _ _ _ _ _ _ _ (let k = c.counts-va in search rules) (let k = c.counts-vb in search rules) p.0 p.1 (c.index-p.ensures.0 ∙ c.u32_at-3.ensures) (c.index-q.ensures.0 ∙ c.u32_at-4.ensures) p.5 p.6
          (c.index.ensures.0 ∙ c.u32_at.ensures) (c.index-2.ensures.0 ∙ c.u32_at-2.ensures) c.counts-va.ensures c.counts-vb.ensures (record { short = c.counting-xw.ensures.0; all_count = c.counting-xw.ensures.1; table = c.kill_lines.ensures }) (record { short = c.counting-yw.ensures.0; all_count = c.counting-yw.ensures.1; table = c.kill_lines-2.ensures })
          _ _ c.start-start.ensures,
      rw c.start-start.ensures p.4,
    )

pub returns : goal.returns
returns c =
    let long : length c.args.v.dots ≡ 16 = search rules in
    rw (clock_actors _ _ long c.requires.2 c.actors_of-all.ensures, c.start-start.ensures) at c.merge_entries.ensures
