-- "The lowest number that applies is given": refusals as an ordered list of conditions, and the number of the first that holds.
use Prim.Native.Nat.{ℕ, ◌<◌}
use Rattle.std.specs.Prelude.{◌≡◌, Bool, true, false, List, [], ◌∷◌, ◌++◌}
use Rattle.tables.specs.Table.{pick, All}

pub record Refusal : Type 0 where
  pub number : ℕ
  pub applies : Bool

-- the refusal with a number, given exactly when the condition holds
infixl 80 ◌if◌
abbrev pub ◌if◌ : ℕ → Bool → Refusal
n if b = record { number = n; applies = b }

-- 0 where none applies
unfoldable pub first_of : List Refusal → ℕ
first_of [] = 0
first_of (r ∷ rs) = pick r.applies r.number (first_of rs)

-- ---- the number is right

-- no refusal has the number 0, which says "done"
abbrev pub Numbered : List Refusal → Type 0
Numbered rs = All (λ r. 0 < r.number) rs

abbrev pub NoneApplies : List Refusal → Type 0
NoneApplies rs = All (λ r. r.applies ≡ false) rs

-- the refusal with number k applies, and none that is listed before it does
pub record First (rs : List Refusal) (k : ℕ) : Type 0 where
  pub earlier : List Refusal
  pub this : Refusal
  pub later : List Refusal
  pub listed : rs ≡ earlier ++ (this ∷ later)
  pub none_earlier : NoneApplies earlier
  pub this_applies : this.applies ≡ true
  pub this_number : this.number ≡ k
