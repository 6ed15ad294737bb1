use mathlib.Core.Path.{◌≡◌}
use lib.ListN.{length}
use native.Mathlib.Omega.{arith}
use Rattle.replies.proofs.Clocks.{clock_bytes}
use borrow.Author.Rules.{rules}
use Rattle.replies.proofs.bytes_of.Goals as goal

pub returns : goal.returns
returns c = let l : length c.args.c.dots ≡ 16 = search rules in let b = clock_bytes c.args.c l in omega (arith, c.min.ensures)
