use mathlib.Core.Path.{refl, ap, ◌∙◌}
use native.Mathlib.Omega.{arith}
use Rattle.std.specs.Prelude.{Err}
use Rattle.replies.specs.Named.{gap_bytes}
use Rattle.replies.proofs.Naming.{no_room, with_room, gap_length, gap_put, no_gap, a_gap}
use Rattle.replies.proofs.put_gap.Goals as goal

pub returns-in_default : goal.returns-in_default
returns-in_default c = no_gap _ _ _ c.in_default.is refl

pub returns-in-Refused : goal.returns-in-Refused
returns-in-Refused c = no_gap _ _ _ (c.in-Err.is ∙ ap Err c.in-Refused.is) refl

pub returns-then-out-lt16 : goal.returns-then-out-lt16
returns-then-out-lt16 c = let l = gap_length c.in-Gap.g in a_gap c.args.out.now _ _ _ (c.in-Err.is ∙ ap Err c.in-Gap.is) (no_room c.args.out.now (gap_bytes c.in-Gap.g) (omega arith))

pub returns-else-out-lt16 : goal.returns-else-out-lt16
returns-else-out-lt16 c = let l = gap_length c.in-Gap.g in a_gap c.args.out.now _ _ _ (c.in-Err.is ∙ ap Err c.in-Gap.is) (with_room c.args.out.now (gap_bytes c.in-Gap.g) _ (omega arith) (gap_put c.in-Gap.g _ _ _ c.put_u64.ensures c.put_u64-in-Gap.ensures))
