-- The longest image is reached: a replica at all its limits.
use Rattle.std.specs.Prelude.{ℕ, zero, suc, ◌≡◌, refl, List, [], ◌∷◌, T, length}
use Rattle.tables.specs.Table.{alls}
use Rattle.tables.specs.Ascending.{ascending, before}
use Rattle.tables.specs.Refusal.{first_of}
use Rattle.dots.specs.Dot.{dot}
use Rattle.dots.specs.Clock.{Clock, covers, normal, filled}
use Rattle.replica.specs.Replica.{Replica}
use Rattle.replica.specs.WellFormed.{spared, entry_tests, wait_tests, tests, sound}
use Rattle.replica.specs.Limits.{full, limits_of, broken, well_formed}
use Rattle.layout.specs.Fields.{le16, le32, le64}
use Rattle.layout.specs.Lists.{bytes_of}
use Rattle.layout.specs.Clock.{encode_dot_in, encode_clock_in}
use Rattle.layout.specs.Rows.{encode_row_in, encode_wait_in}
use Rattle.layout.specs.Image.{contents, contents_of, rows_from, waits_from, length_of, encode_in, encode}

-- the values of f at k, k + 1, .., n of them
abbrev from : {X : Type 0} → (ℕ → X) → ℕ → ℕ → List X
from f k zero = []
from f k (suc n) = f k ∷ from f (suc k) n

abbrev clock_of : ℕ → Clock
clock_of n = dot 0 n ∷ from (λ a. dot a 1) 1 15

abbrev pub fullest : Replica
fullest = record {
  clock = clock_of 1;
  entries = from (λ m. record { member = m; clock = clock_of 1 }) 0 64;
  waiting = from (λ n. record { clock = clock_of n; members = from (λ m. m) 64 32 }) 1 16;
}

pub fullest_formed : T (well_formed full fullest)
unfolding well_formed sound tests entry_tests wait_tests spared alls ascending before covers normal filled limits_of broken first_of
fullest_formed = tt

pub fullest_length : length (encode fullest) ≡ 18268
unfolding encode_in contents_of contents encode_clock_in bytes_of le16 le32 length_of rows_from waits_from encode_dot_in le64 encode_row_in encode_wait_in
fullest_length = refl
