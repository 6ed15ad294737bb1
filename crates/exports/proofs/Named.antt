-- What the calls that judge have found is what their definitions reply.
use Prim.Native.Nat.{ℕ, ◌+◌, ◌*◌}
use mathlib.Core.Path.{◌≡◌, ap, ◌∙◌}
use mathlib.Core.List.{List, []}
use lib.ListN.{length}
use lib.Seq.{sets}
use Rattle.dots.specs.declared.Dot.{Dot}
use Rattle.clocks.specs.declared.VClock.{VClock}
use Rattle.clocks.specs.VClock.{vclock}
use Rattle.operations.specs.declared.Op.TheVariants.{Add, Remove}
use Rattle.std.specs.Prelude.{Result, Ok, Err, ⊤}
use Rattle.dots.specs.declared.refusals.Refused.{Refused as DotRefused}
use Rattle.dots.specs.declared.refusals.OpRefused.{OpRefused}
use Rattle.dots.specs.Answers.{number, op_number_in}
use Rattle.operations.specs.Calls.{gap_named, validate_op_call, validation_says as opSays}
use Rattle.validating.specs.declared.Spent.{Spent as SpentDot}
use Rattle.validating.specs.declared.MergeRefused.{MergeRefused}
use Rattle.validating.specs.declared.MergeRefused.TheVariants.{Refused, DoubleSpent}
use Rattle.validating.specs.Calls.{validation_says, validate_merge_call}
use Rattle.replies.specs.Reply.{one_number, Replies, if_room}
use Rattle.replies.specs.Named.{named_gap, spent_bytes, spent_of}
use Rattle.replies.specs.Lent.{clock_lent}
use Rattle.replies.proofs.Naming.{none_named}
use Rattle.exports.specs.Calls.{validate_add_reply, validate_remove_reply, named_spent, spent_reply, validate_merge_reply}
use Rattle.exports.proofs.Replied.{alone}

pub add_replies : (s : List ℕ) (d : Dot) (ms before after : List ℕ) (c : VClock) (v : Result ⊤ OpRefused) (n r : ℕ) → c ≡ vclock [] → v ≡ validate_op_call s (Add d) c ms → n ≡ op_number_in v → r ≡ n * 4294967296 + 0
    → after ≡ sets before 0 (if_room (length before) (named_gap (gap_named v))) → Replies (validate_add_reply s d ms (length before)) before r after
unfolding validate_add_reply opSays
add_replies s d ms before after c v n r z e f g h = rw (← z, ← e) (record { answer = g ∙ ap (λ (k : ℕ). k * 4294967296 + 0) f; output = h })

pub remove_replies : (s b ms : List ℕ) (c : VClock) (v : Result ⊤ OpRefused) (n r : ℕ) → c ≡ clock_lent b → v ≡ validate_op_call s Remove c ms → n ≡ op_number_in v → r ≡ n * 4294967296 + 0 → r ≡ one_number (validate_remove_reply s b ms)
unfolding validate_remove_reply opSays
remove_replies s b ms c v n r z e f g = rw (← z, ← e, ← f) (alone n r g)

module _ (a b before : List ℕ) (r : ℕ) (v : Result ⊤ MergeRefused) (says : v ≡ validate_merge_call a b) where
  pub nothing_spent : v ≡ Ok tt → r ≡ 0 * 4294967296 + 0 → Replies (validate_merge_reply a b (length before)) before r before
  unfolding validate_merge_reply spent_reply named_spent validation_says
  nothing_spent e h = rw (← says, e) (record { answer = h; output = rw (none_named (length before)) })

  pub refused_spent : (x : DotRefused) (n : ℕ) → v ≡ Err (Refused x) → n ≡ number x → r ≡ n * 4294967296 + 0 → Replies (validate_merge_reply a b (length before)) before r before
  unfolding validate_merge_reply spent_reply named_spent validation_says
  refused_spent x n e f h = rw (← says, e) (record { answer = h ∙ ap (λ (k : ℕ). k * 4294967296 + 0) f; output = rw (none_named (length before)) })

  pub spent_replies : (after : List ℕ) (x : SpentDot) → v ≡ Err (DoubleSpent x) → r ≡ 12 * 4294967296 + 0 → after ≡ sets before 0 (if_room (length before) (spent_bytes (spent_of x))) → Replies (validate_merge_reply a b (length before)) before r after
  unfolding validate_merge_reply spent_reply named_spent validation_says
  spent_replies after x e h f = rw (← says, e) (record { answer = h; output = f })
