-- A clock as the list of its dots, and document 01's operations on it.
use Prim.Native.Nat.{ℕ, ◌+◌, compare, max, min, Ordering}
use Rattle.std.specs.Prelude.{Bool, true, false, ◌&&◌, List, [], ◌∷◌, map, leb, ltb, eqb}
use Rattle.std.proofs.Math.Option.{Option, none, some}
use Rattle.tables.specs.Order.{Order, lex, lex_order}
use Rattle.tables.specs.Table.{get, pick, every, collect}
use Rattle.tables.specs.Ascending.{ascending}
use Rattle.tables.specs.Zip.{zip}
use Rattle.dots.specs.declared.Dot.{Dot}
use Rattle.dots.specs.declared.DotRange.{DotRange}
use Rattle.dots.specs.Dot.{actor_of, clocks, cmp_dot, dot_order}

abbrev pub Clock : Type 0
Clock = List Dot

-- the counter of an actor; "a missing actor counts 0"
abbrev pub count : Clock → ℕ → ℕ
count c a = get clocks c a

-- "A clock is normalised: actors strictly ascending, no zero counter"
unfoldable pub normal : Clock → Bool
normal c = ascending compare (map (λ d. actor_of d) c) && every (λ d. ltb 0 d.counter) c

unfoldable pub filled : Clock → Bool
filled [] = false
filled (d ∷ c) = true

-- "A clock *covers* a dot if its counter for that actor is at least the dot's; it covers a clock if it covers all of its dots."
abbrev pub covers_dot : Clock → Dot → Bool
covers_dot v d = leb d.counter (count v (actor_of d))

unfoldable pub covers : Clock → Clock → Bool
covers v c = every (covers_dot v) c

-- "`merge` does so for every dot": the larger counter per actor
unfoldable pub merged : Clock → Clock → Clock
merged c d = zip clocks (λ a. max) c d

-- "`apply` raises the actor's counter to the dot's if that is larger"
unfoldable pub applied : Clock → Dot → Clock
applied c d = merged c (d ∷ [])

-- "`reset_remove` by c drops each actor whose counter c covers"
unfoldable pub reset_by : Clock → Clock → Clock
reset_by c x = collect (λ d. pick (covers_dot c d) none (some d)) x

-- "`intersection` keeps dots equal in both."
abbrev pub holds_dot : Clock → Dot → Bool
holds_dot c d = eqb (count c (actor_of d)) d.counter

unfoldable pub intersection : Clock → Clock → Clock
intersection x c = collect (λ d. pick (holds_dot c d) (some d) none) x

-- "`glb` takes the smaller counter per actor and drops zeros."
unfoldable pub glb : Clock → Clock → Clock
glb x c = zip clocks (λ a. min) x c

-- the image's order: "pairs compared in turn, actor then counter; a proper prefix first"
abbrev pub cmp_clock : Clock → Clock → Ordering
cmp_clock = lex cmp_dot

pub clock_order : Order cmp_clock
clock_order = lex_order cmp_dot dot_order

-- "`validate_op` refuses a dot above get + 1, with start get + 1 and end the dot's counter, end excluded"
unfoldable pub gap : Clock → Dot → Option DotRange
gap c d = pick (ltb (count c (actor_of d) + 1) d.counter) (some (record { actor = d.actor; start = count c (actor_of d) + 1; end = d.counter })) none
