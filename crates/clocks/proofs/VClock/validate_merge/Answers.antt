use Rattle.std.proofs.Common.{sym, true, false}
use Rattle.clocks.specs.Calls.{validate_merge_call}
use Rattle.clocks.proofs.Answers.{judged_at}
use Rattle.clocks.proofs.VClock.validate_merge.Goals.{else-is_normalised-via-then-is_normalised+else-is_normalised-2, else-is_normalised-via-else-is_normalised}
use Rattle.clocks.proofs.VClock.validate_merge.Goals as goal

pub returns-then-is_normalised-2 : goal.returns-then-is_normalised-2
unfolding validate_merge_call
returns-then-is_normalised-2 c = sym (judged_at _ _ true (simp (sym c.if-is_normalised.ensures, sym c.if-is_normalised-2.ensures)))

pub returns-else-is_normalised : goal.returns-else-is_normalised
unfolding validate_merge_call
returns-else-is_normalised c =
    elim c.else-is_normalised.branch [
      | else-is_normalised-via-then-is_normalised+else-is_normalised-2 w ↦ sym (judged_at _ _ false (simp (sym w.if-is_normalised.ensures, sym w.if-is_normalised-2.ensures)))
      | else-is_normalised-via-else-is_normalised w ↦ sym (judged_at _ _ false (simp (sym w.if-is_normalised.ensures)))
    ]
