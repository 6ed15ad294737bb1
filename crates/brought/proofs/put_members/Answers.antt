use mathlib.Core.Path.{◌≡◌}
use Prim.Native.Nat.{◌≤◌}
use native.Mathlib.Omega.{arith}
use lib.ListN.{length, take, length-take}
use Rattle.fields.proofs.Steps.{of_few}
use Rattle.brought.specs.Brought.{counted_members}
use Rattle.brought.proofs.Steps.{few_take}
use borrow.Author.Rules.{rules}
use Rattle.brought.proofs.put_members.Goals as goal

pub returns : goal.returns
unfolding counted_members
returns c =
    let a = c.args in
    let long : length a.m.at ≡ 64 = search rules in
    let short : length (take c.min.result a.m.at) ≤ 64 = simp length-take (let e = c.min.ensures in omega arith) in
    rw (few_take a.m c.min.result long c.min.ensures) at (of_few _ _ _ _ _ short c.put_members.ensures)
