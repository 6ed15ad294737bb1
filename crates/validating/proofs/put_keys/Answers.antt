use mathlib.Core.Path.{sym, ◌∙◌}
use native.Mathlib.Omega.{arith}
use lib.ListN.{length-set}
use Rattle.validating.proofs.Steps.{keys_turn, keys_end, keys_start}
use Rattle.validating.proofs.put_keys.Goals as goal

pub loop-k-preserved : goal.loop-k-preserved
loop-k-preserved c =
    let z = c.requires in
    let v = c.loop-k.invariant in
    let w = c.walk_past-ahead.ensures in
    (omega (arith, v.0, w.1), simp length-set v.1, keys_turn _ _ _ _ _ _ _ _ _ _ _ _ _ _ (omega arith) z.2 c.u32_in.ensures w.0 c.key.ensures ∙ v.2)

pub returns : goal.returns
returns c =
    let v = c.loop-k.invariant in
    sym (keys_end _ _ _ _ _ _ _ _ _ (omega arith)) ∙ v.2 ∙ keys_start _ _ _ _ _ _ _ _ _ c.dots_of-ahead.ensures.0 c.dots_of-ahead.ensures.1
