-- Where a good entry or a good waiting remove stands, the calls read the whole of it: the replica's own.
use Prim.Native.Nat.{ℕ, ◌+◌, min}
use mathlib.Core.Path.{◌≡◌}
use mathlib.Core.Bool.{true}
use mathlib.Core.List.{List}
use native.Mathlib.Omega.{arith}
use lib.ListN.{length}
use Rattle.tables.specs.Table.{get}
use Rattle.dots.specs.declared.Member.{Member}
use Rattle.clocks.specs.VClock.{vclock}
use Rattle.replica.specs.Replica.{Entry, Wait, member_sets}
use Rattle.layout.specs.Fields.{u32_at}
use Rattle.layout.specs.Clock.{clock_in, clock_at, clock_end}
use Rattle.layout.specs.Rows.{member_end, row_in, row_at, wait_in, wait_at_place}
use Rattle.layout.specs.Good.{good_clock, good_members}
use Rattle.layout.proofs.KitFacts.{stands, named}
use Rattle.fields.specs.Read.{clock_read}
use Rattle.fields.proofs.Steps.{length_list}
use Rattle.rows.specs.declared.Row.{Row}
use Rattle.rows.specs.declared.WaitRow.{WaitRow}
use Rattle.rows.specs.Rows.{row_read, wait_read, named_read}

-- an entry and a waiting remove, in the calls' terms
abbrev pub row_of : Entry → Row
row_of e = record { member = record { 0 = e.member }; clock = vclock e.clock }

abbrev pub wait_row_of : Wait → WaitRow
wait_row_of w = record { clock = vclock w.clock; count = length w.members }

clock_good : (s : List ℕ) (at : ℕ) → good_clock s at ≡ true → clock_read s at ≡ clock_at s at
unfolding clock_read clock_in
clock_good s at g = let w = stands s at g in let e : min (u32_at s at) 16 ≡ u32_at s at = omega (arith, w.count) in rw e

module _ (s : List ℕ) (at : ℕ) where
  pub row_good : good_clock s (at + 4) ≡ true → row_read s at ≡ row_of (row_at s at)
  unfolding row_read row_in
  row_good g = rw (clock_good s (at + 4) g)

  pub wait_good : good_clock s at ≡ true → wait_read s at ≡ wait_row_of (wait_at_place s at)
  unfolding wait_read wait_in
  wait_good g = rw (clock_good s at g, length_list u32_at member_end s (clock_end s at + 4) (u32_at s (clock_end s at)))

  pub names_good : (m : Member) → good_members s (clock_end s at) ≡ true → named_read s at m ≡ get member_sets (wait_at_place s at).members m.0
  unfolding named_read wait_in
  names_good m g =
      let w = named s (clock_end s at) g in
      let e : min (u32_at s (clock_end s at)) 32 ≡ u32_at s (clock_end s at) = omega (arith, w.few) in
      rw e
