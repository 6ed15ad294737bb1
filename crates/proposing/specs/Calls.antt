-- What the makers of operations answer: the first refusal that applies, and the operation where none does.
use Rattle.std.specs.Prelude.{ℕ, [], ◌∷◌, Result, Ok, Err}
use Rattle.tables.specs.Refusal.{first_of}
use Rattle.dots.specs.declared.refusals.Refused.{Refused}
use Rattle.dots.specs.Answers.{answer}
use Rattle.clocks.specs.declared.VClock.{VClock}
use Rattle.clocks.specs.VClock.{vclock}
use Rattle.clocks.specs.Calls.{unfit}
use Rattle.contexts.specs.declared.AddCtx.{AddCtx}
use Rattle.contexts.specs.declared.RmCtx.{RmCtx}
use Rattle.operations.specs.declared.Op.TheVariants.{Add, Remove}
use Rattle.proposing.specs.declared.Proposed.{Proposed}
use Rattle.proposing.specs.declared.ProposedOne.{ProposedOne}

-- 3: "a clock argument isn't normalised or has over 16 actors"; the clock of a context is judged, used or not
abbrev pub number : VClock → ℕ
number c = first_of (unfit (c ∷ []) ∷ [])

-- "an add carrying a dot", whose clock isn't looked at: an empty one stands beside it
unfoldable pub add_all_call : AddCtx → Result Proposed Refused
add_all_call x = answer (number x.clock) (record { op = Add x.dot; clock = vclock [] })

-- "a remove's clock .. beside it"
unfoldable pub rm_all_call : RmCtx → Result Proposed Refused
rm_all_call x = answer (number x.clock) (record { op = Remove; clock = x.clock })

-- an operation of one member, in a list of its own
abbrev pub of_one : ℕ → Proposed → ProposedOne
of_one m a = record { op = a.op; clock = a.clock; members = m ∷ [] }

-- and the same of what is answered
abbrev pub one_of : ℕ → Result Proposed Refused → Result ProposedOne Refused
one_of m (Ok a) = Ok (of_one m a)
one_of m (Err r) = Err r

unfoldable pub add_call : ℕ → AddCtx → Result ProposedOne Refused
add_call m x = one_of m (add_all_call x)

unfoldable pub rm_call : ℕ → RmCtx → Result ProposedOne Refused
rm_call m x = one_of m (rm_all_call x)
