-- "Limits are judged on the finished result, never on a step between": a judge is any function that gives a finished replica a number, 0 where it
-- grants it. `broken` of Limits.antt is one.
use Rattle.std.specs.Prelude.{ℕ, zero, suc}
use Rattle.replica.specs.Replica.{Replica}
use Rattle.replica.specs.Rules.{merge}

pub data Verdict : Type 0 where
  refused : ℕ → Verdict
  granted : Replica → Verdict

abbrev pub verdict : ℕ → Replica → Verdict
verdict zero A = granted A
verdict (suc n) A = refused (suc n)

unfoldable pub judge : (Replica → ℕ) → Replica → Verdict
judge j A = verdict (j A) A

-- the merge under a judge
unfoldable pub merge_by : (Replica → ℕ) → Replica → Replica → Verdict
merge_by j A B = judge j (merge A B)
