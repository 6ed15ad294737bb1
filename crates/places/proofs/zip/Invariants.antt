use Prim.Native.Nat.{◌+◌}
use lib.ListN.{length, take}
use Rattle.places.specs.Turn.{rule_of}
use Rattle.places.specs.Walked.{walked}
use Rattle.places.proofs.Walking.{Zipping}
use Rattle.places.proofs.zip.Given as goal

abbrev pub invariant-loop-xs : goal.invariant-loop-xs
invariant-loop-xs l = Zipping l.rule l.initial.dots (walked (rule_of l.rule) (take l.fn.n l.fn.a) (take l.fn.m l.fn.b)) l.xs l.ys l.dots l.len

abbrev pub decreases-loop-xs : goal.decreases-loop-xs
decreases-loop-xs l = length l.xs + length l.ys
