-- The calls of include/gatelichen.h, each as the reply to what it is lent; `room` is the length of `out`.
use Rattle.std.specs.Prelude.{ℕ, Result, Ok, Err, List, [], length}
use Rattle.std.proofs.Math.Option.{Option, none, some}
use Rattle.tables.specs.Table.{pick}
use Rattle.dots.specs.declared.Dot.{Dot}
use Rattle.dots.specs.declared.refusals.Refused.{Refused}
use Rattle.dots.specs.Answers.{number_in}
use Rattle.clocks.specs.declared.VClock.{VClock}
use Rattle.contexts.specs.declared.ReadCtx.{ReadCtx}
use Rattle.clocks.specs.VClock.{dots_of, vclock}
use Rattle.replica.specs.Limits.{full}
use Rattle.replica.specs.Validate.{Spent}
use Rattle.layout.specs.Clock.{encode_clock}
use Rattle.layout.specs.Rows.{encode_members}
use Rattle.layout.specs.Image.{encode}
use Rattle.image.specs.Image.{check_call, clock_call}
use Rattle.results.specs.Call.{Call, number_of}
use Rattle.operations.specs.declared.Op.TheVariants.{Add, Remove}
use Rattle.operations.specs.Calls.{validation_says, validate_op_call}
use Rattle.reading.specs.Calls.{contains_call, members_read, read_number}
use Rattle.validating.specs.Calls.{Validated, validation_says as merge_says, validate_merge_call}
use Rattle.replies.specs.Reply.{Reply, reply, if_room}
use Rattle.replies.specs.Named.{named_gap, spent_bytes}
use Rattle.replies.specs.Lent.{clock_lent}
use Rattle.replies.specs.Given.{clock_given}

-- "Whether the bytes are a well-formed image of a replica."
unfoldable pub check_reply : List ℕ → Reply
check_reply s = reply (number_in (check_call s)) 0 []

-- "Writes the new image. Length: of the image."
unfoldable pub replica_reply : Call → ℕ → Reply
replica_reply c room = reply (number_of full c room) (length (encode c.result)) (encode c.result)

-- a clock with a number beside it: whether a member is there, or the clock's own length
abbrev pub with_answer : Result ReadCtx Refused → Result (ℕ × VClock) Refused
with_answer (Ok x) = Ok (pick x.answer 1 0, x.rm_clock)
with_answer (Err r) = Err r

abbrev pub with_length : Result VClock Refused → Result (ℕ × VClock) Refused
with_length (Ok c) = Ok (length (encode_clock (dots_of c)), c)
with_length (Err r) = Err r

-- "Whether the member is there: the lower half is 1 or 0. Writes the member's clock, by which it can be removed; the empty clock (4 zero bytes) where it
-- isn't there."
unfoldable pub contains_reply : List ℕ → ℕ → ℕ → Reply
contains_reply s m room = clock_given room (with_answer (contains_call s m))

-- "Writes the members ascending, 32-bit little-endian numbers. The lower half is how many they are, not bytes."
unfoldable pub read_reply : List ℕ → ℕ → Reply
read_reply s room = reply (read_number s room) (length (members_read s)) (encode_members (members_read s))

-- "Writes the replica's clock. Length: of the clock in bytes."
unfoldable pub clock_reply : List ℕ → ℕ → Reply
clock_reply s room = clock_given room (with_length (clock_call s))

-- "Whether an add under the dot actor.counter follows what the replica has seen of the actor. .. At 11 it writes the gap where 16 bytes fit"
unfoldable pub validate_add_reply : List ℕ → Dot → List ℕ → ℕ → Reply
validate_add_reply s d ms room = let v = validation_says (validate_op_call s (Add d) (vclock []) ms) in record { number = v.number; low = 0; bytes = if_room room (named_gap v.range) }

-- "Whether the arguments of a remove are good ones."
unfoldable pub validate_remove_reply : List ℕ → List ℕ → List ℕ → Reply
validate_remove_reply s c ms = reply (validation_says (validate_op_call s Remove (clock_lent c) ms)).number 0 []

unfoldable pub named_spent : Option Spent → List ℕ
named_spent none = []
named_spent (some x) = spent_bytes x

-- "Whether a dot is held for one member by a and for another by b. .. At 12 it writes the first such .. where 20 bytes fit"
unfoldable pub spent_reply : Validated → ℕ → Reply
spent_reply v room = record { number = v.number; low = 0; bytes = if_room room (named_spent v.spent) }

unfoldable pub validate_merge_reply : List ℕ → List ℕ → ℕ → Reply
validate_merge_reply a b room = spent_reply (merge_says (validate_merge_call a b)) room
