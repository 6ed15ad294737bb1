use Rattle.numbers.proofs.Edge.{u16_bytes}
use native.Mathlib.Nat.{add-zero}
use native.Mathlib.Omega.{arith}
use Rattle.numbers.proofs.u16_at.Goals as goal

pub returns : goal.returns
returns c = let a = c.args in omega (arith, c.from.ensures, c.from_le_bytes.ensures, rw add-zero at (u16_bytes a.s.now a.at 0 _ _ c.byte_after.ensures c.byte_after-2.ensures))
