-- A call is given the part of the places that count: the same entries and waiting removes.
use Prim.Native.Nat.{ℕ, ◌≤◌}
use mathlib.Core.Path.{◌≡◌, ap}
use mathlib.Core.List.{List, map}
use native.Mathlib.Omega.{arith}
use lib.ListN.{take, length-take}
use lib.Seq.{take_all}
use Rattle.layout.specs.Fields.{u32_at}
use Rattle.kills.specs.Lines.{members_of, wait_read, waits_of}

part_most : (places : List ℕ) (n most : ℕ) → n ≤ most → take most (take n places) ≡ take n places
part_most places n most h = take_all most (take n places) (simp length-take (omega arith))

pub members_part : (s places : List ℕ) (n : ℕ) → n ≤ 64 → members_of s (take n places) 64 ≡ members_of s places n
unfolding members_of
members_part s places n h = ap (map (λ p. u32_at s p)) (part_most places n 64 h)

pub waits_part : (t places : List ℕ) (k : ℕ) → k ≤ 16 → waits_of t (take k places) 16 ≡ waits_of t places k
unfolding waits_of
waits_part t places k h = ap (map (λ p. wait_read t p)) (part_most places k 16 h)
