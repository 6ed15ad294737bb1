use borrow.Author.Rules.{rules}
use Prim.Native.Nat.{◌<◌, ◌≤◌}
use lib.ListN.{length}
use mathlib.Core.Path.{refl}
use Rattle.walk.specs.Walks.{onward_at}
use Rattle.walk.proofs.Steps.{stays, moves}
use Rattle.walk.proofs.EntriesIterator.next.Goals as goal

pub returns-in_err-member-clause-steps : goal.returns-in_err-member-clause-steps
returns-in_err-member-clause-steps c =
    let w = c.args.self.now.walk in
    record { same = refl; onward = stays w.img.now w.at c.in_err-member.ensures; hands = rw (c.from_residual.ensures, ← c.in_err-member.ensures) }

pub returns-clause-goes : goal.returns-clause-goes
returns-clause-goes c = let w = c.args.self.now.walk in
    let m = moves w.img.now w.at _ c.in_ok-member.ensures in
    let on : w.at < onward_at w.img.now w.at = m.on in
    let room : onward_at w.img.now w.at ≤ length w.img.now = m.room in
    rw (c.next-self.ensures.0, c.next-self.ensures.1) (search rules)
