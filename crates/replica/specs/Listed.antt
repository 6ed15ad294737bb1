-- An argument list as the set of its members: "duplicates and any order allowed; an empty list too".
use Prim.Native.Nat.{ℕ, compare}
use Rattle.std.specs.Prelude.{Bool, List}
use Rattle.tables.specs.Table.{has}

-- the member is in the list
abbrev pub listed : List ℕ → ℕ → Bool
listed ms m = has compare m ms
