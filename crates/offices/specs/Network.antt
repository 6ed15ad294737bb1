-- A network of offices: what the first has once it has merged the others.
use Rattle.std.specs.Prelude.{List, [], ◌∷◌, T}
use Rattle.replica.specs.Replica.{Replica}
use Rattle.replica.specs.Rules.{merge}
use Rattle.replica.specs.WellFormed.{sound}

-- the first merged with the others, one after the other
abbrev pub merge_all : Replica → List Replica → Replica
merge_all A [] = A
merge_all A (B ∷ Bs) = merge_all (merge A B) Bs

abbrev pub Sound : Replica → Type 0
Sound A = T (sound A)

-- X is one of them
pub data In (X : Replica) : List Replica → Type 0 where
  here : {Bs : List Replica} → In X (X ∷ Bs)
  later : {B : Replica} {Bs : List Replica} → In X Bs → In X (B ∷ Bs)
