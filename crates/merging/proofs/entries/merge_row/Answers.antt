use mathlib.Core.Path.{◌≡◌, refl}
use native.Mathlib.Omega.{arith}
use lib.ListN.{length, length-take}
use Rattle.std.proofs.Common.{length-drop}
use borrow.Author.Rules.{rules}
use Rattle.merging.proofs.RowSteps.{row_goes, merged_row, part_kept}
use Rattle.merging.proofs.entries.merge_row.Goals as goal

pub kept-c-requires : goal.kept-c-requires
kept-c-requires c =
    let h = c.requires in let few = h.7 in let a = h.1.room in let b = h.2.room in let i = c.take-ours.ensures.inside in let j = c.take-theirs.ensures.inside in
    let ka : length c.args.ka.now ≡ 1024 = search rules in
    let kb : length c.args.kb.now ≡ 1024 = search rules in
    (omega arith, omega arith, refl, omega arith, h.7, simp (length-take, length-drop) (omega arith), simp (length-take, length-drop) (omega arith), row_goes _ _ _ _ _ _ h.1 c.take-ours.ensures, row_goes _ _ _ _ _ _ h.2 c.take-theirs.ensures)

pub returns : goal.returns
returns c =
    let h = c.requires.7 in let p = c.put_row.ensures in
    merged_row _ _ _ _ _ _ c.args.w _ c.lowest-member.ensures.0 c.lowest-member.ensures.1 _ _ _ _ _ _ _ _ c.take-ours.ensures c.take-theirs.ensures
    (let f = c.kept-c.ensures.0 in omega arith) (part_kept _ _ _ _ _ h _ _ _ _ _ _ c.kept-c.ensures.1) p.0 p.1 p.2 p.3 p.4
