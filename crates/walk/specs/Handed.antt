-- What a walk hands out: of a well-formed image exactly its entries, ascending, each with the bytes of its clock; of any other bytes none.
use Rattle.std.specs.Prelude.{List, [], ◌∷◌, ℕ, suc, zero, Option, Some, None}
use Rattle.replica.specs.Replica.{Entry}
use Rattle.layout.specs.Clock.{encode_clock}
use Rattle.dots.specs.declared.Member.{Member}
use Rattle.walk.specs.Walks.{hand_at, part_at, onward_at}

-- a member and the bytes handed out with it
pub record Handing : Type 0 where
  pub member : ℕ
  pub part : List ℕ

abbrev pub taken : Option Member → List ℕ → List Handing → List Handing
taken (Some m) part rest = record { member = m.0; part = part } ∷ rest
taken None part rest = []

-- all that a walk hands out in n steps
unfoldable pub handed : ℕ → List ℕ → ℕ → List Handing
handed zero s at = []
handed (suc n) s at = taken (hand_at s at) (part_at s at) (handed n s (onward_at s at))

abbrev pub handing_of : Entry → Handing
handing_of e = record { member = e.member; part = encode_clock e.clock }
