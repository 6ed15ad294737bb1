-- The public report "An Optimized Conflict-free Replicated Set" (INRIA RR-8083, 2012): its optimized set and that set's merge, in its words. Where
-- neither side has waiting removes, the rule for merge gives the report's.
use Prim.Native.Nat.{ℕ, ◌<◌}
use Rattle.std.specs.Prelude.{◌≡◌}
use Rattle.dots.specs.Clock.{count}
use Rattle.replica.specs.Replica.{Replica, entry}

-- ---- the report's set

-- payload: E, a set of triples (element, timestamp, replica), and v, a vector: the largest timestamp seen of each replica
pub record Payload : Type 1 where
  pub E : ℕ → ℕ → ℕ → Type 0
  pub v : ℕ → ℕ

-- a replica without waiting removes as such a payload
abbrev pub payload : Replica → Payload
payload A = record { E = λ e c i. (0 < c) × (count (entry A e) i ≡ c); v = λ i. count A.clock i }
