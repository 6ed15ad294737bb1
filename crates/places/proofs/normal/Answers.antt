use Prim.Native.Nat.{◌-◌}
use mathlib.Core.Path.{◌≡◌, sym, ap, ◌∙◌}
use mathlib.Core.Bool.{false≢true}
use native.Mathlib.Omega.{arith}
use borrow.Author.Tests.{lt-leb, le-leb}
use lib.ListN.{length, take, drop, length-drop}
use lib.Seq.{take_all}
use Rattle.tables.specs.Table.{every}
use Rattle.places.specs.Places.{unused}
use Rattle.dots.specs.Rising.{rising_is}
use Rattle.places.proofs.Steps.{mapped}
use Rattle.places.proofs.Walking.{every_is}
use Rattle.places.proofs.normal.Goals as goal
use Rattle.places.proofs.normal.Goals.{then-n-le16, else-n-le16}

pub returns-then-ascending : goal.returns-then-ascending
returns-then-ascending c =
    let n = c.args.n in
    let s = c.args.dots in
    let long : length s ≡ 16 = search mapped in
    let all = take_all (16 - n) (drop n s) (simp length-drop (omega arith)) in
    elim c.if-n-le16.branch [
      | then-n-le16 w ↦ simp (le-leb _ _ w.if-n-le16.true, sym (rising_is _) ∙ sym w.ascending.ensures ∙ sym w.value-is ∙ c.if-ascending.true)
          (c.clear.ensures ∙ every_is unused (take (16 - n) (drop n s)) ∙ ap (every unused) all)
      | else-n-le16 w ↦ absurd (false≢true (sym (lt-leb _ _ w.if-n-le16.false) ∙ sym w.value-is ∙ c.if-ascending.true))
    ]

pub returns-else-ascending : goal.returns-else-ascending
returns-else-ascending c =
    elim c.if-n-le16.branch [
      | then-n-le16 w ↦ simp (c.if-ascending.false, le-leb _ _ w.if-n-le16.true, sym (rising_is _) ∙ sym w.ascending.ensures ∙ sym w.value-is ∙ c.if-ascending.false)
      | else-n-le16 w ↦ simp (c.if-ascending.false, lt-leb _ _ w.if-n-le16.false)
    ]
