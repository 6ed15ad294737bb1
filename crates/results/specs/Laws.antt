-- What a promise that is kept says, for any call and any limits: the number is right, what a refusal leaves, what a granted call writes.
use Prim.Native.Nat.{ℕ, ◌≤◌, ◌<◌, compare}
use Rattle.std.specs.Prelude.{Result, ◌≡◌, Bool, T, take}
use Rattle.std.proofs.Math.Bool.{true, false}
use mathlib.Core.List.{List, [], ◌∷◌, ◌++◌, map}
use Rattle.std.proofs.Math.Dec.{eqb}
use Rattle.std.proofs.Math.ListN.{length, drop}
use Rattle.tables.specs.Ascending.{ascending}
use Rattle.tables.specs.Table.{pick}
use Rattle.tables.specs.Refusal.{Refusal}
use Rattle.layout.specs.Image.{encode}
use Rattle.dots.specs.declared.refusals.Refused.{Refused}
use Rattle.results.specs.Call.{Call, length_in}

abbrev pub numbers : List Refusal → List ℕ
numbers = map (λ r. r.number)

-- a call judges its arguments by numbers between 0 and 6, ascending
abbrev pub Orderly : Call → Type 0
Orderly c = T (ascending compare (0 ∷ (map (λ r. r.number) c.refusals ++ 6 ∷ [])))

-- A number by its three parts: x of the arguments, then y of the limits, then 10 where there is no room.
abbrev pub in_turn : ℕ → ℕ → Bool → ℕ
in_turn x y short = pick (eqb x 0) (pick (eqb y 0) (pick short 10 0) y) x

pub data Turn (x y : ℕ) (short : Bool) (n : ℕ) : Type 0 where
  by_argument : 0 < x → n ≡ x → Turn x y short n
  by_limit : x ≡ 0 → 0 < y → n ≡ y → Turn x y short n
  by_room : x ≡ 0 → y ≡ 0 → short ≡ true → n ≡ 10 → Turn x y short n
  by_none : x ≡ 0 → y ≡ 0 → short ≡ false → n ≡ 0 → Turn x y short n

-- "A granted call writes the result from byte 0, returns its length, and leaves later bytes unchanged."
pub record Wrote (c : Call) (before : List ℕ) (r : Result ℕ Refused) (after : List ℕ) : Type 0 where
  pub length_is : length_in r ≡ length (encode c.result)
  pub room : length_in r ≤ length before
  pub image_is : take (length_in r) after ≡ encode c.result
  pub later_kept : drop (length_in r) after ≡ drop (length_in r) before
  pub length_kept : length after ≡ length before
