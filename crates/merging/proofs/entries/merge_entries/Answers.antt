use native.Mathlib.Omega.{arith}
use Rattle.merging.proofs.RowLoop.{rows_begin, rows_again, rows_end}
use Rattle.merging.proofs.entries.merge_entries.Goals as goal

pub loop-w-init : goal.loop-w-init
loop-w-init c = rows_begin _ _ _ _ _ _ _ _ c.requires.0 _

pub loop-w-preserved : goal.loop-w-preserved
loop-w-preserved c = rows_again _ _ _ _ _ _ _ _ c.requires.0 c.loop-w.invariant _ _ c.merge_row-w.ensures

pub returns : goal.returns
returns c = rows_end _ _ _ _ _ _ _ _ c.requires.0 c.loop-w.invariant (let t = c.loop-w-test.false in omega arith)
