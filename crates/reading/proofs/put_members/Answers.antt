use mathlib.Core.Path.{sym, ◌∙◌}
use native.Mathlib.Omega.{arith}
use lib.Seq.{take-length}
use Rattle.reading.proofs.Steps.{put_next, put_end}
use Rattle.reading.proofs.put_members.Goals as goal

pub loop-i-init : goal.loop-i-init
loop-i-init c = rw take-length

pub loop-i-preserved : goal.loop-i-preserved
loop-i-preserved c =
    let a = c.args in
    let l = c.loop-i in
    put_next a.s.now a.places.now l.i l.out _ _ _ (omega arith) c.index.ensures.0 c.u32_at.ensures c.put_u32.ensures ∙ l.invariant

pub returns : goal.returns
returns c =
    let a = c.args in
    let l = c.loop-i in
    sym (put_end a.s.now a.places.now l.i l.out (omega arith)) ∙ l.invariant
