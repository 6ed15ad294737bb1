use Rattle.std.proofs.Common.{◌≡◌}
use Rattle.std.proofs.lemmas.List.Edits.{sets}
use Rattle.display.specs.Text.{digits}
use Rattle.display.proofs.put_digits.Given as goal

-- `display::put_digits` meets its contract. The invariant: the output with the digits ahead, those on the left, stored is the whole.
abbrev pub invariant-loop-i : goal.invariant-loop-i
invariant-loop-i l = sets l.out l.at (digits l.i l.m) ≡ sets l.initial.out l.at (digits l.k l.n)
