use Rattle.std.proofs.Common.{◌≡◌, ◌+◌, ◌*◌, ◌≤◌, length, drop}
use Rattle.display.specs.Text.{items}
use Rattle.display.proofs.text_len.Given as goal

-- `display::text_len` meets its contract. The invariant: the length so far and that of what is ahead are the whole.
abbrev pub invariant-loop-i : goal.invariant-loop-i
invariant-loop-i l = (l.t ≤ 2 + 43 * l.i) × (l.t + length (items l.i (drop l.i l.dots)) ≡ 2 + length (items 0 l.dots))
