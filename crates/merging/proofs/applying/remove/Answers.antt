use native.Mathlib.Omega.{arith}
use Rattle.dots.specs.Clock.{covers}
use Rattle.clocks.specs.VClock.{dots_of}
use mathlib.Core.Path.{refl}
use Rattle.merging.proofs.Applies.{clock_told, empty_clock, compare_granted, waits_told, waits_one, remove_ready, remove_meets}
use Rattle.merging.proofs.applying.remove.Goals as goal

pub returns-in_err-order : goal.returns-in_err-order
returns-in_err-order c = let b = c in absurd (compare_granted _ _ (clock_told _ _ b.requires.0).right b.requires.1 _ c.in_err-order.ensures)

pub changed-requires : goal.changed-requires
changed-requires c =
    let b = c in
    let o = clock_told _ _ b.requires.0 in
    let e = empty_clock _ c.new-none.ensures in
    (b.requires.0, remove_ready _ _ b.requires.0 _ b.requires.2 _ c.members_of.ensures b.args.c b.requires.1, o.few_ok, o.normal_ok, waits_one (covers (dots_of b.args.x.now.clock) (dots_of b.args.c)) _ (waits_told _ _ o.right b.requires.1 _ c.in_ok-order.ensures _ c.waits-l.ensures), e.0, e.1, rw o.dots_are (λ a z. z), λ h. absurd (omega arith))

pub returns : goal.returns
returns c =
    let b = c in
    remove_meets _ _ b.requires.0 _ b.requires.2 _ c.members_of.ensures b.args.c b.requires.1 _ _ _ _ _ _ refl c.new-none.ensures (waits_told _ _ (clock_told _ _ b.requires.0).right b.requires.1 _ c.in_ok-order.ensures _ c.waits-l.ensures) c.changed.ensures
