-- The calls that write a replica, as data: what is asked of an image, the call that answers it, and what the rules of docs/RULES.md, 4, do.
use Rattle.std.specs.Prelude.{ℕ, List, [], ◌∷◌}
use Rattle.clocks.specs.declared.VClock.{VClock}
use Rattle.clocks.specs.VClock.{dots_of}
use Rattle.replica.specs.History.{Event, Apply, MergeWith, MergeInto, Reset, Add as Adds, Remove as Removes}
use Rattle.layout.specs.Fields.{Bytes}
use Rattle.layout.specs.Fits.{FitMembers, FitsClock}
use Rattle.layout.specs.Image.{image_of}
use Rattle.results.specs.Call.{Call}
use Rattle.merging.specs.Merge.{merge_call}
use Rattle.operations.specs.declared.Op.{Op}
use Rattle.operations.specs.declared.Op.TheVariants.{Add, Remove}
use Rattle.operations.specs.Calls.{apply_call, reset_call}

-- an operation with its clock and members; a merge with other bytes, where the image is the first or the second of the two; a reset
pub data Request : Type 0 where
  apply_op : Op → VClock → List ℕ → Request
  merge_with : List ℕ → Request
  merge_into : List ℕ → Request
  reset_by : VClock → Request

-- the call, on an image
abbrev pub call_on : Request → List ℕ → Call
call_on (apply_op op c ms) a = apply_call a op c ms
call_on (merge_with b) a = merge_call a b
call_on (merge_into b) a = merge_call b a
call_on (reset_by c) a = reset_call a c

-- the rule, on its replica
abbrev pub event_of : Request → Event
event_of (apply_op (Add d) c ms) = Apply (Adds d ms)
event_of (apply_op Remove c ms) = Apply (Removes (dots_of c) ms)
event_of (merge_with b) = MergeWith (image_of b)
event_of (merge_into b) = MergeInto (image_of b)
event_of (reset_by c) = Reset (dots_of c)

-- the arguments are what their types say: bytes, 32-bit actors and members, 64-bit counters
abbrev pub LentOp : Op → Type 0
LentOp (Add d) = FitsClock (d ∷ [])
LentOp Remove = Unit {0}

abbrev pub Lent : Request → Type 0
Lent (apply_op op c ms) = LentOp op × FitsClock (dots_of c) × FitMembers ms
Lent (merge_with b) = Bytes b
Lent (merge_into b) = Bytes b
Lent (reset_by c) = FitsClock (dots_of c)
