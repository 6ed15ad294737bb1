-- What each call answers: the first refusal that applies, by the order of document 01's table, and the value where none does.
use Rattle.std.specs.Prelude.{ℕ, zero, suc, ◌+◌, Bool, not, ◌&&◌, List, [], ◌∷◌, eqb, ltb, length, Option, Some, None, Result, ⊤}
use Rattle.std.specs.declared.cmp.Ordering.{Ordering}
use Rattle.std.proofs.Math.Option as math
use Rattle.tables.specs.Table.{pick, every, is_some}
use Rattle.tables.specs.Zip.{zip}
use Rattle.tables.specs.Refusal.{Refusal, ◌if◌, first_of}
use Rattle.dots.specs.declared.Dot.{Dot}
use Rattle.dots.specs.declared.DotRange.{DotRange}
use Rattle.dots.specs.declared.refusals.Refused.{Refused}
use Rattle.dots.specs.declared.refusals.OpRefused.{OpRefused}
use Rattle.dots.specs.Answers.{answer, op_answer}
use Rattle.dots.specs.Dot.{clocks, dot}
use Rattle.dots.specs.Calls.{standing, named}
use Rattle.dots.specs.Clock.{Clock, count, filled, covers, merged, applied, reset_by, intersection, glb, gap}
use Rattle.places.specs.declared.Rule.{Rule}
use Rattle.places.specs.Turn.{rule_of}
use Rattle.clocks.specs.declared.VClock.{VClock}
use Rattle.clocks.specs.VClock.{dots_of, vclock, normalised}

-- ---- refusals

-- 3: "a clock argument isn't normalised or has over 16 actors"
abbrev pub unfit : List VClock → Refusal
unfit cs = 3 if not (every normalised cs)

-- 5: "a successor is asked of counter 18446744073709551615"
abbrev pub last : ℕ → Refusal
last n = 5 if eqb n 18446744073709551615

-- 6: "the result's clock would have over 16 actors"
abbrev pub crowded : Clock → Refusal
crowded c = 6 if ltb 16 (length c)

-- 11: "`validate_op` only: gap, with start and end"
abbrev pub gapped : math.Option DotRange → Refusal
gapped g = 11 if is_some g

-- ---- answers

-- the value where each clock is normalised: 3 otherwise
unfoldable pub judged : {A : Type 0} → List VClock → A → Result A Refused
judged cs a = answer (first_of (unfit cs ∷ [])) a

-- the record of a clock where the number is 0
unfoldable pub clock_answer : ℕ → Clock → Result VClock Refused
clock_answer number c = answer number (vclock c)

-- ---- the calls

-- "A missing actor counts 0."
unfoldable pub get_call : VClock → ℕ → Result ℕ Refused
get_call c a = judged (c ∷ []) (count (dots_of c) a)

unfoldable pub dot_call : VClock → ℕ → Result Dot Refused
dot_call c a = judged (c ∷ []) (dot a (count (dots_of c) a))

unfoldable pub empty_call : VClock → Result Bool Refused
empty_call c = judged (c ∷ []) (not (filled (dots_of c)))

-- "`inc` gives the actor's counter plus 1."
unfoldable pub inc_call : VClock → ℕ → Result Dot Refused
inc_call c a = answer (first_of (unfit (c ∷ []) ∷ last (count (dots_of c) a) ∷ [])) (dot a (count (dots_of c) a + 1))

unfoldable pub apply_call : VClock → Dot → Result VClock Refused
apply_call c d = clock_answer (first_of (unfit (c ∷ []) ∷ crowded (applied (dots_of c) d) ∷ [])) (applied (dots_of c) d)

unfoldable pub merge_call : VClock → VClock → Result VClock Refused
merge_call a b = clock_answer (first_of (unfit (a ∷ b ∷ []) ∷ crowded (merged (dots_of a) (dots_of b)) ∷ [])) (merged (dots_of a) (dots_of b))

unfoldable pub reset_call : VClock → VClock → Result VClock Refused
reset_call x c = clock_answer (first_of (unfit (x ∷ c ∷ []) ∷ [])) (reset_by (dots_of c) (dots_of x))

unfoldable pub intersection_call : VClock → VClock → Result VClock Refused
intersection_call a b = clock_answer (first_of (unfit (a ∷ b ∷ []) ∷ [])) (intersection (dots_of a) (dots_of b))

unfoldable pub glb_call : VClock → VClock → Result VClock Refused
glb_call a b = clock_answer (first_of (unfit (a ∷ b ∷ []) ∷ [])) (glb (dots_of a) (dots_of b))

-- two clocks under a rule: what it makes of each actor's two counters, zeros dropped
unfoldable pub zipped : Rule → Clock → Clock → Clock
zipped r x y = zip clocks (λ a. rule_of r) x y

unfoldable pub join_call : Rule → VClock → VClock → Result VClock Refused
join_call r a b = clock_answer (first_of (unfit (a ∷ b ∷ []) ∷ crowded (zipped r (dots_of a) (dots_of b)) ∷ [])) (zipped r (dots_of a) (dots_of b))

-- "Equal if the same; Greater if the first covers the second; Less if the second covers the first; otherwise none"
unfoldable pub compare_call : VClock → VClock → Result (Option Ordering) Refused
compare_call a b = judged (a ∷ b ∷ []) (named (standing (covers (dots_of a) (dots_of b)) (covers (dots_of b) (dots_of a))))

-- "otherwise none (`concurrent`)"
unfoldable pub concurrent_call : VClock → VClock → Result Bool Refused
concurrent_call a b = judged (a ∷ b ∷ []) (not (covers (dots_of a) (dots_of b)) && not (covers (dots_of b) (dots_of a)))

-- "`validate_op` refuses a dot above get + 1, with start get + 1 and end the dot's counter, end excluded."
unfoldable pub validate_op_call : VClock → Dot → Result ⊤ OpRefused
validate_op_call c d = op_answer (first_of (unfit (c ∷ []) ∷ gapped (gap (dots_of c) d) ∷ [])) (pick (normalised c) (gap (dots_of c) d) math.none)

unfoldable pub validate_merge_call : VClock → VClock → Result ⊤ Refused
validate_merge_call a b = judged (a ∷ b ∷ []) tt

-- the dot at a place of a list
abbrev pub dot_at : Clock → ℕ → Option Dot
dot_at [] i = None
dot_at (d ∷ c) zero = Some d
dot_at (d ∷ c) (suc i) = dot_at c i

unfoldable pub nth_call : VClock → ℕ → Result (Option Dot) Refused
nth_call c i = judged (c ∷ []) (dot_at (dots_of c) i)
