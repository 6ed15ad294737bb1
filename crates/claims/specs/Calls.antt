-- The promises of the five functions of C that write a replica, as crates/exports/src/writes.rt has them: r is the answer, and `after` are the bytes of `out` then.
use Rattle.std.specs.Prelude.{ℕ, List, [], length}
use Rattle.dots.specs.Dot.{dot}
use Rattle.clocks.specs.VClock.{vclock}
use Rattle.operations.specs.declared.Op.TheVariants.{Add, Remove}
use Rattle.operations.specs.Calls.{apply_call, reset_call}
use Rattle.merging.specs.Merge.{merge_call}
use Rattle.reading.specs.Calls.{empty_call}
use Rattle.replies.specs.Reply.{Replies}
use Rattle.replies.specs.Lent.{clock_lent}
use Rattle.exports.specs.Calls.{replica_reply}

abbrev pub EmptyReplies : (out : List ℕ) (r : ℕ) (after : List ℕ) → Type 0
EmptyReplies out r after = Replies (replica_reply empty_call (length out)) out r after

abbrev pub MergeReplies : (a b out : List ℕ) (r : ℕ) (after : List ℕ) → Type 0
MergeReplies a b out r after = Replies (replica_reply (merge_call a b) (length out)) out r after

abbrev pub AddReplies : (image : List ℕ) (actor counter : ℕ) (members out : List ℕ) (r : ℕ) (after : List ℕ) → Type 0
AddReplies image actor counter members out r after = Replies (replica_reply (apply_call image (Add (dot actor counter)) (vclock []) members) (length out)) out r after

abbrev pub RemoveReplies : (image clock members out : List ℕ) (r : ℕ) (after : List ℕ) → Type 0
RemoveReplies image clock members out r after = Replies (replica_reply (apply_call image Remove (clock_lent clock) members) (length out)) out r after

abbrev pub ResetReplies : (image clock out : List ℕ) (r : ℕ) (after : List ℕ) → Type 0
ResetReplies image clock out r after = Replies (replica_reply (reset_call image (clock_lent clock)) (length out)) out r after
