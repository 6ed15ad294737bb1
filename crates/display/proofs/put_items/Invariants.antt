use Rattle.std.proofs.Common.{ℕ, List, drop}
use Rattle.display.specs.Put.{Room, Put}
use Rattle.display.specs.Text.{items}
use Rattle.display.proofs.put_items.Given as goal

-- `display::put_items` meets its contract. The invariant: there is room for what is ahead, and whoever puts it has put the whole.
abbrev pub invariant-loop-i : goal.invariant-loop-i
invariant-loop-i l =
    Room l.p (items l.i (drop l.i l.dots)) l.out
    × ((r : ℕ) (new : List ℕ) → Put l.out l.p (items l.i (drop l.i l.dots)) r new → Put l.initial.out l.at (items 0 l.dots) r new)
