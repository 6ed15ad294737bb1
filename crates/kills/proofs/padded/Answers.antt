use Rattle.kills.proofs.Steps.{padded_part, padded_none}
use native.Mathlib.Omega.{arith}
use mathlib.Core.Path.{refl}
use Rattle.kills.proofs.padded.Goals as goal

pub returns-then-n-gt0 : goal.returns-then-n-gt0
returns-then-n-gt0 c = padded_part c.args.t.now _ _ c.args.from c.min-n.result (rw (c.min-n.ensures, c.saturating_sub.ensures)) c.copy_from_slice.ensures.after refl

pub returns-else-n-gt0 : goal.returns-else-n-gt0
returns-else-n-gt0 c = padded_none c.args.t.now _ c.args.from (let a = c.min-n.ensures in let b = c.saturating_sub.ensures in let h = c.if-n-gt0.false in omega arith) refl
