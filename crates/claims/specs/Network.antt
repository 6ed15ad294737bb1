-- Offices that merge one another's replicas, and what each has gathered.
use Rattle.std.specs.Prelude.{ℕ, ◌≡◌, ◌↔◌, List, [], ◌∷◌, ◌++◌, map}
use Rattle.tables.specs.Table.{All}
use Rattle.offices.specs.Network.{merge_all}
use Rattle.layout.specs.Image.{image_of}
use Rattle.std.specs.Prelude.{Result}
use Rattle.dots.specs.declared.refusals.Refused.{Refused}
use Rattle.claims.specs.Granted.{WellFormed, Granted, image}
use Rattle.claims.specs.Merges.{Merges}

-- these bytes are among them
pub data In (x : List ℕ) : List (List ℕ) → Type 0 where
  here : {xs : List (List ℕ)} → In x (x ∷ xs)
  later : {y : List ℕ} {xs : List (List ℕ)} → In x xs → In x (y ∷ xs)

-- the same images, whatever their order and however often each
abbrev pub SameOnes : List (List ℕ) → List (List ℕ) → Type 0
SameOnes xs ys = (x : List ℕ) → In x xs ↔ In x ys

-- z is gathered from the images a and bs: it is an image as it came, or a granted merge of two that were gathered, the one from a and xs, the other from b
-- and ys. So an office may merge what others have merged, in any order and any pairing.
pub data Gathers : List ℕ → List (List ℕ) → List ℕ → Type 0 where
  came : {a : List ℕ} → WellFormed a → Gathers a [] a
  merged : {a b p q before after : List ℕ} {xs ys : List (List ℕ)} {r : Result ℕ Refused} → Gathers a xs p → Gathers b ys q → Merges p q before r after → Granted r → Gathers a (xs ++ (b ∷ ys)) (image r after)

-- what is gathered is the merge of all of them, one after the other
pub record Gathered (a : List ℕ) (bs : List (List ℕ)) (z : List ℕ) : Type 0 where
  pub first_formed : WellFormed a
  pub all_formed : All WellFormed bs
  pub end_formed : WellFormed z
  pub end_says : image_of z ≡ merge_all (image_of a) (map image_of bs)
