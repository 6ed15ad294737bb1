-- What merging two replicas leaves of their waiting removes: joined by equal clock, less those that the merged clock covers; one by one in the
-- order of clocks.
use Prim.Native.Nat.{ℕ, Ordering}
use Rattle.std.specs.Prelude.{◌≡◌, Bool, true, false, ◌||◌}
use Rattle.std.proofs.Math.Path.{refl, ap}
use Rattle.std.proofs.Common.{sym, ◌∙◌}
use Rattle.std.proofs.Math.Bool.{or-false}
use Rattle.std.proofs.Math.Option.{Option, none, some}
use mathlib.Core.List.{List, [], ◌∷◌}
use Rattle.tables.specs.Table.{get, Normal, All, pick, cons?, ext, normal_join, get_join}
use Rattle.tables.specs.Zip.{zip, turn_of, left_after, right_after, turn_row, Ascend, zip_turn}
use Rattle.dots.specs.Clock.{Clock, covers, merged, cmp_clock}
use Rattle.replica.specs.Replica.{Wait, Replica, waits, member_sets, wait?}
use Rattle.replica.specs.Rules.{unite, merge}
use Rattle.replica.specs.WellFormed.{Fine}
use Rattle.replica.specs.ByDots.{by_dots}
use Rattle.replica.proofs.ByDotsFacts.{literal}

unfoldable pub kept_waits : Clock → List Wait → List Wait → List Wait
kept_waits v xs ys = zip waits (λ c x y. pick (covers v c) none (unite x y)) xs ys

-- the waiting removes of the merge
pub waits_kept : (A B : Replica) → Fine A → Fine B → (merge A B).waiting ≡ kept_waits (merged A.clock B.clock) A.waiting B.waiting
unfolding kept_waits zip by_dots
waits_kept A B h g = ap (λ (R : Replica). R.waiting) (literal A B h g)

-- ---- one turn

-- the members of two sets
unfoldable pub both_sets : List ℕ → List ℕ → List ℕ
both_sets x y = zip member_sets (λ m. ◌||◌) x y

-- the clock that is next, and the members that each side has for it
abbrev pub next_clock : Ordering → Wait → Wait → Clock
next_clock Ordering.lt x y = x.clock
next_clock Ordering.eq x y = x.clock
next_clock Ordering.gt x y = y.clock

abbrev pub next_left : Ordering → Wait → List ℕ
next_left Ordering.lt x = x.members
next_left Ordering.eq x = x.members
next_left Ordering.gt x = []

abbrev pub next_right : Ordering → Wait → List ℕ
next_right Ordering.lt y = []
next_right Ordering.eq y = y.members
next_right Ordering.gt y = y.members

-- the waiting remove that a turn leaves
unfoldable pub next_wait : Clock → Ordering → Wait → Wait → Option Wait
next_wait v o x y = pick (covers v (next_clock o x y)) none (some (record { clock = next_clock o x y; members = both_sets (next_left o x) (next_right o y) }))

no_members : Normal member_sets []
no_members = record { asc = tt; proper = tt }

pub sets_left : (x : List ℕ) → Normal member_sets x → both_sets x [] ≡ x
unfolding both_sets zip
sets_left x h = ext member_sets (both_sets x []) x (normal_join member_sets (λ m. get member_sets x m || false) x [] no_members) h
    (λ m. get_join member_sets (λ m. get member_sets x m || false) x [] (λ m e f. rw e) m ∙ or-false (get member_sets x m))

pub sets_right : (y : List ℕ) → Normal member_sets y → both_sets [] y ≡ y
unfolding both_sets zip
sets_right y h = ext member_sets (both_sets [] y) y (normal_join member_sets (λ m. get member_sets y m) [] y h) h
    (λ m. get_join member_sets (λ m. get member_sets y m) [] y (λ m e f. f) m)

pub sets_same : (x : List ℕ) → Normal member_sets x → both_sets x x ≡ x
unfolding both_sets zip
sets_same x h = ext member_sets (both_sets x x) x (normal_join member_sets (λ m. get member_sets x m || get member_sets x m) x x h) h
    (λ m. get_join member_sets (λ m. get member_sets x m || get member_sets x m) x x (λ m e f. rw e) m ∙ or_self (get member_sets x m))
  where
    or_self : (b : Bool) → (b || b) ≡ b
    or_self true = refl
    or_self false = refl

wait_pick : (b : Bool) (c : Clock) (o : Option (List ℕ)) (ms : List ℕ) → o ≡ some ms → wait? c (pick b none o) ≡ pick b none (some (record { clock = c; members = ms }))
wait_pick true c o ms e = refl
wait_pick false c o ms e = ap (wait? c) e

-- a row ahead, or any other where none is
abbrev pub first : Wait → List Wait → Wait
first d [] = d
first d (w ∷ ws) = w

abbrev pub Named : List Wait → Type 0
Named ws = All (λ w. Normal member_sets w.members) ws

module _ (v : Clock) (d e : Wait) where
  abbrev rule : Clock → Option (List ℕ) → Option (List ℕ) → Option (List ℕ)
  rule c x y = pick (covers v c) none (unite x y)

  left_row : (x : Wait) (xs ys : List Wait) → Normal member_sets x.members → turn_row waits rule Ordering.lt (x ∷ xs) ys ≡ next_wait v Ordering.lt x (first e ys)
  unfolding next_wait unite
  left_row x xs ys h = wait_pick (covers v x.clock) x.clock (some x.members) (both_sets x.members []) (ap some (sym (sets_left x.members h)))

  right_row : (y : Wait) (xs ys : List Wait) → Normal member_sets y.members → turn_row waits rule Ordering.gt xs (y ∷ ys) ≡ next_wait v Ordering.gt (first d xs) y
  unfolding next_wait unite
  right_row y xs ys h = wait_pick (covers v y.clock) y.clock (some y.members) (both_sets [] y.members) (ap some (sym (sets_right y.members h)))

  both_row : (x y : Wait) (xs ys : List Wait) → turn_row waits rule Ordering.eq (x ∷ xs) (y ∷ ys) ≡ next_wait v Ordering.eq x y
  unfolding next_wait unite both_sets
  both_row x y xs ys = wait_pick (covers v x.clock) x.clock (some (both_sets x.members y.members)) (both_sets x.members y.members) refl

  turn_is : (xs ys : List Wait) → Named xs → Named ys → (xs ≡ [] → ys ≡ [] → ⊥) → turn_row waits rule (turn_of waits xs ys) xs ys ≡ next_wait v (turn_of waits xs ys) (first d xs) (first e ys)
  turn_is [] [] h g z = absurd (z refl refl)
  turn_is [] (y ∷ ys) h g z = right_row y [] ys g.0
  turn_is (x ∷ xs) [] h g z = left_row x xs [] h.0
  turn_is (x ∷ xs) (y ∷ ys) h g z = go (cmp_clock x.clock y.clock)
    where
      go : (o : Ordering) → turn_row waits rule o (x ∷ xs) (y ∷ ys) ≡ next_wait v o x y
      go Ordering.lt = left_row x xs (y ∷ ys) h.0
      go Ordering.eq = both_row x y xs ys
      go Ordering.gt = right_row y (x ∷ xs) ys g.0

  pub waits_turn : (xs ys : List Wait) → Ascend waits xs → Ascend waits ys → Named xs → Named ys → (xs ≡ [] → ys ≡ [] → ⊥)
      → kept_waits v xs ys ≡ cons? (next_wait v (turn_of waits xs ys) (first d xs) (first e ys)) (kept_waits v (left_after waits (turn_of waits xs ys) xs) (right_after waits (turn_of waits xs ys) ys))
  unfolding kept_waits
  waits_turn xs ys a b h g z = zip_turn waits rule xs ys a b ∙ ap (λ (o : Option Wait). cons? o (zip waits rule (left_after waits (turn_of waits xs ys) xs) (right_after waits (turn_of waits xs ys) ys))) (turn_is xs ys h g z)

pub waits_end : (v : Clock) → kept_waits v [] [] ≡ []
unfolding kept_waits zip
waits_end v = refl
