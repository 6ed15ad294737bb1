use mathlib.Core.Path.{refl}
use Rattle.std.proofs.lemmas.Result.{err_from_is_err_and}
use Rattle.merging.proofs.Applies.{empty_clock, counter_granted, add_covered, add_crowded, add_ready, clock_added, added_along, add_meets}
use borrow.Author.Rules.{rules}
use Rattle.merging.proofs.applying.add.Goals as goal

pub returns-in_err-last : goal.returns-in_err-last
returns-in_err-last c = let b = c in absurd (counter_granted _ _ b.requires.0 _ b.requires.1 _ refl b.args.d _ c.in_err-last.ensures)

pub remove-requires : goal.remove-requires
remove-requires c = let b = c in (b.requires.0, (empty_clock _ c.new.ensures).2, b.requires.1)

pub returns-then-d-last : goal.returns-then-d-last
returns-then-d-last c =
    let b = c in
    add_covered _ _ b.requires.0 _ b.requires.1 _ refl b.args.d _ c.in_ok-last.ensures c.if-d-last.true _ c.new.ensures _ _ _ c.remove.ensures

pub returns-in_err-new : goal.returns-in_err-new
returns-in_err-new c =
    let b = c in
    let p = err_from_is_err_and c.from_residual-in_err-new.result c.from_residual-in_err-new.ensures.1 in
    rw (p.1, p.2) (add_crowded _ _ b.requires.0 _ b.requires.1 _ refl b.args.d _ c.in_ok-last.ensures c.if-d-last.false _ c.in_err-new.ensures _)

pub changed-requires : goal.changed-requires
changed-requires c =
    let b = c in
    let o = clock_added _ _ b.requires.0 _ b.requires.1 _ c.members_of-m.ensures b.args.d _ c.in_ok-last.ensures c.if-d-last.false _ c.from.ensures _ c.in_ok-new.ensures in
    let along = added_along _ _ b.requires.0 _ b.requires.1 _ c.members_of-m.ensures b.args.d _ c.in_ok-last.ensures c.if-d-last.false _ c.from.ensures _ c.in_ok-new.ensures in
    (b.requires.0, add_ready _ _ b.requires.0 _ b.requires.1 _ c.members_of-m.ensures b.args.d _ c.in_ok-last.ensures c.if-d-last.false _ c.from.ensures, o.few_ok, o.normal_ok, search rules, o.few_ok, o.normal_ok, along.0, λ h. along.1)

pub returns : goal.returns
returns c =
    let b = c in
    add_meets _ _ b.requires.0 _ b.requires.1 _ c.members_of-m.ensures b.args.d _ c.in_ok-last.ensures c.if-d-last.false _ c.from.ensures _ c.in_ok-new.ensures _ _ _ c.changed.ensures
