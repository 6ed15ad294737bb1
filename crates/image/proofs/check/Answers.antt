use Rattle.image.proofs.Link.{asked, check_above, check_good, check_unfit, check_bad}
use Rattle.kills.specs.Laws.{length_table}
use lib.ListN.{length}
use native.Mathlib.Omega.{arith}
use mathlib.Core.Path.{ap, ◌∙◌}
use borrow.Author.Rules.{rules}
use Rattle.image.proofs.check.Goals as goal

pub returns-in_err-x : goal.returns-in_err-x
returns-in_err-x c = c.from_residual.ensures ∙ check_bad c.args.img.now c.in_err-x.ensures

pub shared_ref_as_front-places : goal.shared_ref_as_front-places
shared_ref_as_front-places c = (asked c.args.img.now c.in_ok-x.x c.in_ok-x.ensures).entries_few

pub shared_ref_as_front-starts : goal.shared_ref_as_front-starts
shared_ref_as_front-starts c = (asked c.args.img.now c.in_ok-x.x c.in_ok-x.ensures).waits_few

pub entries_fit-requires : goal.entries_fit-requires
entries_fit-requires c = let r = asked c.args.img.now c.in_ok-x.x c.in_ok-x.ensures in (r.places_few, r.clock_stands, search rules, r.inside)

pub returns-then-entries_fit : goal.returns-then-entries_fit
returns-then-entries_fit c = check_above c.args.img.now c.in_ok-x.x c.in_ok-x.ensures _ _ c.top_line-top.ensures c.entries_fit.ensures c.if-entries_fit.true

pub entries_fit-requires-2 : goal.entries_fit-requires-2
entries_fit-requires-2 c = let r = asked c.args.img.now c.in_ok-x.x c.in_ok-x.ensures in let long = ap length c.kill_lines.ensures ∙ length_table _ _ _ _ _ in (r.places_few, r.clock_stands, omega arith, r.inside)

pub returns-then-entries_fit-2 : goal.returns-then-entries_fit-2
returns-then-entries_fit-2 c = check_good c.args.img.now c.in_ok-x.x c.in_ok-x.ensures _ _ c.kill_lines.ensures c.entries_fit-2.ensures c.if-entries_fit-2.true

pub returns-else-entries_fit-2 : goal.returns-else-entries_fit-2
returns-else-entries_fit-2 c = check_unfit c.args.img.now c.in_ok-x.x c.in_ok-x.ensures _ _ c.kill_lines.ensures c.entries_fit-2.ensures c.if-entries_fit-2.false
