-- The rule for merge says what the merge is to say, point by point; and it is `by_dots`, which takes for each member and actor the dot that lives.
use Rattle.std.specs.Prelude.{ℕ}
use Rattle.std.proofs.Math.Option.{none}
use Rattle.tables.specs.Table.{join, pick}
use Rattle.dots.specs.Dot.{clocks}
use Rattle.dots.specs.Clock.{count, covers, merged}
use Rattle.replica.specs.Replica.{Replica, entries, waits, entry, wait_at}
use Rattle.replica.specs.Rules.{unite}
use Rattle.replica.specs.Merged.{live}

-- ---- the replica with the dots that live

unfoldable pub live_at : Replica → Replica → ℕ → ℕ → ℕ
live_at A B m a =
    pick (live A B m a (count (entry A m) a)) (count (entry A m) a)
    (pick (live A B m a (count (entry B m) a)) (count (entry B m) a) 0)

unfoldable pub by_dots : Replica → Replica → Replica
by_dots A B = record {
  clock = merged A.clock B.clock;
  entries = join entries (λ m. join clocks (live_at A B m) (entry A m) (entry B m)) A.entries B.entries;
  waiting = join waits (λ c. pick (covers (merged A.clock B.clock) c) none (unite (wait_at A c) (wait_at B c))) A.waiting B.waiting;
}
