-- What a granted merge wrote lies inside its output.
use Prim.Native.Nat.{ℕ, ◌≤◌}
use Rattle.std.specs.Prelude.{Ok}
use mathlib.Core.Path.{◌≡◌, refl, sym}
use mathlib.Core.List.{List}
use native.Mathlib.Omega.{arith}
use lib.ListN.{length, take}
use lib.Seq.{length-take-le}
use Rattle.tables.specs.Ascending.{before, ascending}
use Rattle.replica.specs.Limits.{full}
use Rattle.results.specs.Call.{Meets}
use Rattle.results.proofs.Laws.{granted_writes}
use Rattle.merging.specs.Merge.{merge_call}

module _ (a b out after : List ℕ) (n : ℕ) (meets : Meets full (merge_call a b) out (Ok n) after) where
  pub inside : n ≤ length after
  unfolding merge_call ascending before
  inside = let g = granted_writes full (merge_call a b) out (Ok n) after meets tt refl in omega (arith, g.room, g.length_kept)

  pub counted : n ≡ length (take n after)
  counted = sym (length-take-le n after inside)
