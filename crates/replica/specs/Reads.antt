-- What `contains`, `read` and `read_ctx` answer, on replicas.
use Rattle.std.specs.Prelude.{ℕ, Bool, List, map}
use Rattle.dots.specs.Clock.{Clock}
use Rattle.replica.specs.Replica.{Replica, entry, is_in}

-- "A read context is its add clock, remove clock and answer."
pub record Read (X : Type 0) : Type 0 where
  pub add_clock : Clock
  pub rm_clock : Clock
  pub answer : X

-- "`contains` answers V as add clock, the entry clock or an empty one as remove clock, and whether it is there."
unfoldable pub contains : Replica → ℕ → Read Bool
contains A m = record { add_clock = A.clock; rm_clock = entry A m; answer = is_in A m }

-- "`read` and `read_ctx` answer V twice; `read` writes the members ascending"
unfoldable pub read : Replica → Read (List ℕ)
read A = record { add_clock = A.clock; rm_clock = A.clock; answer = map (λ e. e.member) A.entries }

unfoldable pub read_ctx : Replica → Read (Unit {0})
read_ctx A = record { add_clock = A.clock; rm_clock = A.clock; answer = tt }
