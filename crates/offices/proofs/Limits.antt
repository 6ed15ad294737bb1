-- A remove whose clock V covers, so that it doesn't wait, breaks no limit.
use Rattle.std.specs.Prelude.{ℕ, ◌≤◌, ◌≡◌, List, length}
use Rattle.std.proofs.Common.{le_trans}
use Rattle.std.proofs.Math.Bool.{true}
use Rattle.std.proofs.Math.Option.{some}
use Rattle.tables.specs.Table.{get, pick}
use Rattle.tables.specs.Walk.{length_collect}
use Rattle.dots.specs.Clock.{Clock, covers, reset_by}
use Rattle.replica.specs.Replica.{Entry, Wait, Replica, entry?, member_sets}
use Rattle.replica.specs.Rules.{remove_from, remove}
use Rattle.replica.specs.Limits.{Limits, broken, Within}
use Rattle.replica.proofs.LimitsFacts.{unbroken_right}
use Rattle.replica.specs.RemoveLaws.{this}

-- (`length_removed` of replica's LimitLaws)
length_removed : (w : Wait) (es : List Entry) → length (remove_from w es) ≤ length es
unfolding remove_from
length_removed w es = length_collect (λ e. pick (get member_sets w.members e.member) (entry? e.member (reset_by w.clock e.clock)) (some e)) es

pub covered_remove : (l : Limits) (A : Replica) → broken l A ≡ 0 → (c : Clock) (ms : List ℕ) → covers A.clock c ≡ true → broken l (remove c ms A) ≡ 0
unfolding remove
covered_remove l A fits c ms e = (unbroken_right l (remove c ms A)).1 (rw e (record {
  actors_fit = within.actors_fit;
  members_fit = le_trans (length_removed (this c ms) A.entries) within.members_fit;
  waiting_fit = within.waiting_fit;
  named_fit = within.named_fit;
}))
  where
    within : Within l A
    within = (unbroken_right l A).0 fits
