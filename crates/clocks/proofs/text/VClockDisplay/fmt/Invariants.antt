use Rattle.std.proofs.Common.{◌≡◌, ℕ, List, ◌++◌, drop}
use Rattle.std.specs.Fmt.{HasWritten, IsPlainFormatter}
use Rattle.clocks.specs.Text.{opening, items}
use Rattle.clocks.proofs.text.VClockDisplay.fmt.Given as goal

-- The invariant: what is written so far and the text of the dots ahead are the whole.
abbrev pub invariant-loop-i : goal.invariant-loop-i
invariant-loop-i g l =
    IsPlainFormatter l.fn.f → (bs : List ℕ) × HasWritten g.W.Write.write_str_gives l.fn.f bs l.f × (bs ++ items l.i (drop l.i l.d-items) ≡ opening ++ items 0 l.d-items)
