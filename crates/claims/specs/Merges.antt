-- Merges of images: where both are well-formed and the output has room for any image, the merge of the two replicas decides.
use Rattle.std.specs.Prelude.{ℕ, ◌≡◌, Bool, not, List, [], eqb, length}
use Rattle.tables.specs.Table.{pick}
use Rattle.replica.specs.Replica.{Replica}
use Rattle.replica.specs.Rules.{merge}
use Rattle.replica.specs.Limits.{full, broken}
use Rattle.layout.specs.Image.{encode, image_of}
use Rattle.std.specs.Prelude.{Result}
use Rattle.dots.specs.declared.refusals.Refused.{Refused}
use Rattle.results.specs.Call.{answered, Meets}
use Rattle.merging.specs.Merge.{merge_call}
use Rattle.claims.specs.Granted.{WellFormed, image}

-- the promise of merge(a, b, out): r is its answer, and `after` are the output's bytes where `before` was lent
abbrev pub Merges : List ℕ → List ℕ → List ℕ → Result ℕ Refused → List ℕ → Type 0
Merges a b before r after = Meets full (merge_call a b) before r after

-- two calls with the same number and length, and the same bytes from 0 to that length
pub record Same (r : Result ℕ Refused) (p : List ℕ) (s : Result ℕ Refused) (q : List ℕ) : Type 0 where
  pub answers : r ≡ s
  pub bytes : image r p ≡ image s q

-- what is in hand after a merge whose result is the replica M: the limits' number with nothing, or the image of M
pub record Outcome (M : Replica) (r : Result ℕ Refused) (after : List ℕ) : Type 0 where
  pub answer_is : r ≡ answered (broken full M) (length (encode M))
  pub image_is : image r after ≡ pick (eqb (broken full M) 0) (encode M) []

-- what a granted merge tells that gave z: both sides are well-formed, and z is a well-formed image of the merge
pub record Joined (a b z : List ℕ) : Type 0 where
  pub first_formed : WellFormed a
  pub second_formed : WellFormed b
  pub is_formed : WellFormed z
  pub says : image_of z ≡ merge (image_of a) (image_of b)

-- ---- which side is refused

abbrev pub side : Bool → Bool → ℕ
side x y = pick (not x) 1 (pick (not y) 2 0)
