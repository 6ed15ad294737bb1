-- The calls judge their arguments in the order of the table, and so answer numbers from 0 to 10.
use Prim.Native.Nat.{ℕ}
use mathlib.Core.List.{List}
use Rattle.tables.specs.Ascending.{before, ascending}
use Rattle.clocks.specs.declared.VClock.{VClock}
use Rattle.results.specs.Laws.{Orderly}
use Rattle.operations.specs.declared.Op.{Op}
use Rattle.operations.specs.Calls.{unfit_arguments, apply_call, reset_call}
use Rattle.merging.specs.Merge.{merge_call}
use Rattle.reading.specs.Calls.{empty_call}

pub merge_orderly : (a b : List ℕ) → Orderly (merge_call a b)
unfolding merge_call ascending before
merge_orderly a b = tt

pub apply_orderly : (s : List ℕ) (op : Op) (c : VClock) (ms : List ℕ) → Orderly (apply_call s op c ms)
unfolding apply_call unfit_arguments ascending before
apply_orderly s op c ms = tt

pub reset_orderly : (s : List ℕ) (c : VClock) → Orderly (reset_call s c)
unfolding reset_call ascending before
reset_orderly s c = tt

pub empty_orderly : Orderly empty_call
unfolding ascending before
empty_orderly = tt
