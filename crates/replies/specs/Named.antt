-- What 11 and 12 name, in bytes.
use Rattle.std.specs.Prelude.{ℕ, List, [], ◌++◌}
use Rattle.std.proofs.Math.Option.{Option, none, some}
use Rattle.dots.specs.declared.DotRange.{DotRange}
use Rattle.replica.specs.Validate.{Spent}
use Rattle.layout.specs.Fields.{le32, le64}
use Rattle.layout.specs.Clock.{encode_dot}
use Rattle.validating.specs.declared.Spent.{Spent as SpentDot}

-- "start, the first counter missing, and end, the dot's counter, which is not missing itself; 64-bit little-endian"
unfoldable pub gap_bytes : DotRange → List ℕ
gap_bytes g = le64 g.start ++ le64 g.end

unfoldable pub named_gap : Option DotRange → List ℕ
named_gap none = []
named_gap (some g) = gap_bytes g

-- "actor, counter (64 bits), a's member, b's member; little-endian"
unfoldable pub spent_bytes : Spent → List ℕ
spent_bytes x = encode_dot x.dot ++ (le32 x.our ++ le32 x.their)

abbrev pub spent_of : SpentDot → Spent
spent_of x = record { dot = x.dot; our = x.our.0; their = x.their.0 }
