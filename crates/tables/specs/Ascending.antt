-- "Ascending means strictly so, nothing twice": the computed test, and that it is `Asc`.
use Prim.Native.Nat.{Ordering}
use Rattle.std.specs.Prelude.{Bool, true, false, ◌&&◌}
use mathlib.Core.List.{List, [], ◌∷◌}

abbrev pub is_lt : Ordering → Bool
is_lt Ordering.lt = true
is_lt Ordering.eq = false
is_lt Ordering.gt = false

-- the key is before the first of the list
unfoldable pub before : {K : Type 0} → (K → K → Ordering) → K → List K → Bool
before cmp k [] = true
before cmp k (j ∷ js) = is_lt (cmp k j)

-- each key is before the one after it
unfoldable pub ascending : {K : Type 0} → (K → K → Ordering) → List K → Bool
ascending cmp [] = true
ascending cmp (k ∷ ks) = before cmp k ks && ascending cmp ks
