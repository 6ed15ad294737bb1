use Prim.Native.Nat.{◌+◌, ◌*◌}
use lib.ListN.{length}
use Rattle.layout.specs.Clock.{dots_at}
use Rattle.merging.specs.Keeping.{lines_from, kept_along}
use Rattle.merging.proofs.KeepSteps.{Keeping}
use Rattle.merging.proofs.entries.judged.Given as goal

abbrev pub invariant-loop-i : goal.invariant-loop-i
invariant-loop-i l = let k = l.initial.k in let n = length l.actors in
    Keeping l.s l.t l.actors l.ka 0 l.kb 0 n l.p (k.x.at + 12 * k.x.left) (k.y.at + 12 * k.y.left) l.initial.out (kept_along (lines_from l.actors l.ka 0 l.kb 0 0 n) (dots_at l.s k.x.at k.x.left) (dots_at l.t k.y.at k.y.left)) l.out l.k l.i
