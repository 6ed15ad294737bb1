use Rattle.std.specs.Prelude.{Err}
use mathlib.Core.Path.{refl, sym, ap, ◌∙◌}
use native.Mathlib.Omega.{arith}
use Rattle.validating.proofs.Steps.{whole_is, our_row, our_end, their_row, their_past, their_end, dot_end, dot_here, dot_next, next_above, listed_clock_at, dots_inside}
use Rattle.validating.proofs.Keys.{row_apart, clock_stands, clock_rises}
use borrow.Author.Rules.{rules}
use Rattle.validating.proofs.first_spent.Goals as goal

pub put_lines-requires : goal.put_lines-requires
put_lines-requires c =
    let z = c.requires in
    let s = clock_stands _ _ _ z.0 in
    let e = c.index-m.ensures.0 ∙ c.u32_at.ensures in
    (search rules, z.1, omega (arith, s.count, e), omega (arith, s.room, e), clock_rises _ _ s e)

pub search-init : goal.search-init
search-init c =
    let z = c.requires in
    let s = clock_stands _ _ _ z.0 in
    let e = c.index-m.ensures.0 ∙ c.u32_at.ensures in
    (record { ours_ok = z.0; theirs_ok = z.1; actors_are = e; actors_few = omega (arith, s.count, e); lines_are = c.put_lines.ensures }, refl)

pub put_keys-requires : goal.put_keys-requires
put_keys-requires c =
    let r = c.search.invariant.0 in
    let s = clock_stands _ _ _ r.ours_ok in
    let e = r.actors_are in
    (dots_inside _ _ _ (listed_clock_at _ _ _ _ _ r.ours_ok (omega arith) c.index-p.ensures.0) refl, omega (arith, s.room, e), clock_rises _ _ s e, omega (arith, r.actors_few))

pub theirs-init : goal.theirs-init
theirs-init c =
    let v = c.search.invariant in
    let e = c.index-p.ensures.0 in
    let f = c.index-n.ensures.0 ∙ c.u32_at-in-search.ensures in (
      search rules,
      record { place_is = e; member_is = c.u32_at-our.ensures; count_is = f; stands_ok = listed_clock_at _ _ _ _ _ v.0.ours_ok (omega arith) e; keys_ok = c.put_keys.ensures },
      sym (our_row _ _ _ _ _ _ (omega arith) e) ∙ v.1,
    )

pub apart-requires : goal.apart-requires
apart-requires c = let r = c.search.invariant.0 in (omega (arith, r.theirs_ok.few), c.theirs.invariant.0, r.lines_are.long)

pub theirs-preserved-then-apart : goal.theirs-preserved-then-apart
theirs-preserved-then-apart c =
    let r = c.search.invariant.0 in
    let v = c.theirs.invariant in
    (v.0, v.1, sym (their_past _ _ _ _ _ _ _ _ (omega arith) refl (row_apart _ _ _ _ _ _ _ _ _ _ _ _ _ r v.1 (omega arith) (omega arith) refl (c.apart.ensures c.if-apart.true))) ∙ v.2)

pub dots_of-ahead-requires : goal.dots_of-ahead-requires
dots_of-ahead-requires c = omega (arith, (listed_clock_at _ _ _ _ _ c.search.invariant.0.theirs_ok (omega arith) c.index-q.ensures.0).room)

pub actors-init : goal.actors-init
actors-init c =
    let r = c.search.invariant.0 in
    let v = c.theirs.invariant in
    let e = c.index-q.ensures.0 in
    let d = c.dots_of-ahead.ensures in
    (omega (arith, d, dots_inside _ _ _ (listed_clock_at _ _ _ _ _ r.theirs_ok (omega arith) e) d.1), sym (their_row _ _ _ _ _ _ _ _ _ _ _ _ _ (omega arith) e v.1.member_is v.1.count_is c.u32_at-their.ensures d.0 d.1) ∙ v.2)

pub dot_in-d-requires : goal.dot_in-d-requires
dot_in-d-requires c = let o = c.theirs.invariant.1 in omega (arith, dots_inside _ _ _ o.stands_ok o.count_is)

pub actors-preserved : goal.actors-preserved
actors-preserved c =
    let o = c.theirs.invariant.1 in
    let v = c.actors.invariant in
    let d = c.dot_in-d.ensures in
    let w = c.walk_past-ahead.ensures in
    (omega (arith, v.0, w.1), sym (dot_next _ _ _ _ _ _ _ _ _ _ _ _ _ _ _ _ _ (omega arith) d (next_above _ _ _ _ _ o.stands_ok o.count_is d) w.0 (sym c.reportable.ensures ∙ c.if-reportable.false)) ∙ v.1)

pub theirs-preserved : goal.theirs-preserved
theirs-preserved c =
    let v = c.theirs.invariant in
    (v.0, v.1, sym (dot_end _ _ _ _ _ _ _ _ _ _ _ _ _ (omega arith)) ∙ c.actors.invariant.1)

pub search-preserved : goal.search-preserved
search-preserved c = let v = c.theirs.invariant in (c.search.invariant.0, sym (their_end _ _ _ _ _ _ _ (omega arith)) ∙ v.2)

pub returns : goal.returns
returns c = let v = c.search.invariant in sym (our_end _ _ _ _ _ (omega arith)) ∙ v.1 ∙ whole_is _ _ _ _

pub returns-then-reportable : goal.returns-then-reportable
returns-then-reportable c =
    let o = c.theirs.invariant.1 in
    let d = c.dot_in-d.ensures in
    ap Err c.double_spent.ensures ∙ sym (dot_here _ _ _ _ _ _ _ _ _ _ _ _ _ _ _ _ _ (omega arith) d (next_above _ _ _ _ _ o.stands_ok o.count_is d) c.walk_past-ahead.ensures.0 (sym c.reportable.ensures ∙ c.if-reportable.true)) ∙ c.actors.invariant.1 ∙ whole_is _ _ _ _
