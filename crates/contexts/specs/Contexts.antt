-- What the calls on contexts answer: the first refusal that applies, by the order of document 01's table, and the value where none does.
use Rattle.std.specs.Prelude.{ℕ, ◌+◌, Bool, false, not, ◌&&◌, [], ◌∷◌, Result}
use Rattle.tables.specs.Refusal.{Refusal, ◌if◌, first_of}
use Rattle.dots.specs.declared.refusals.Refused.{Refused}
use Rattle.dots.specs.Answers.{answer}
use Rattle.dots.specs.Dot.{dot}
use Rattle.dots.specs.Clock.{count, applied}
use Rattle.clocks.specs.VClock.{dots_of, vclock, normalised}
use Rattle.clocks.specs.Calls.{last, crowded}
use Rattle.contexts.specs.declared.ReadCtx.{ReadCtx}
use Rattle.contexts.specs.declared.AddCtx.{AddCtx}
use Rattle.contexts.specs.declared.RmCtx.{RmCtx}

-- "a clock argument isn't normalised or has over 16 actors": both clocks of a context are judged
unfoldable pub fit : ReadCtx → Bool
fit x = normalised x.add_clock && normalised x.rm_clock

abbrev pub unfit : ReadCtx → Refusal
unfit x = 3 if not (fit x)

-- "`derive_add_ctx` for an actor gives the add clock's `inc` dot and the add clock with that dot applied"
unfoldable pub add_ctx_call : ReadCtx → ℕ → Result AddCtx Refused
add_ctx_call x a =
    let c = dots_of x.add_clock in
    let d = dot a (count c a + 1) in
    answer (first_of (unfit x ∷ last (count c a) ∷ crowded (applied c d) ∷ [])) (record { clock = vclock (applied c d); dot = d })

-- "`derive_rm_ctx` gives the remove clock"
unfoldable pub rm_ctx_call : ReadCtx → Result RmCtx Refused
rm_ctx_call x = answer (first_of (unfit x ∷ [])) (record { clock = x.rm_clock })

-- the answer, and the context without it
unfoldable pub split_call : ReadCtx → Result (Bool × ReadCtx) Refused
split_call x = answer (first_of (unfit x ∷ [])) (x.answer, record { add_clock = x.add_clock; rm_clock = x.rm_clock; answer = false })
