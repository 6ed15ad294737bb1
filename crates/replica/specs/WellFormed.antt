-- Well-formed, limits aside: the computed test `sound`, the pointwise facts `Fine`, and that the two say the same. Limits.antt adds the limits.
use Prim.Native.Nat.{ℕ, suc, ◌≤◌, compare}
use Rattle.std.specs.Prelude.{Bool, not, ◌||◌, List, [], ◌∷◌, map, ltb}
use Rattle.std.proofs.Math.Dec.{T}
use Rattle.tables.specs.Table.{get, Normal, every, alls}
use Rattle.tables.specs.Ascending.{ascending}
use Rattle.dots.specs.Dot.{clocks, actor_of}
use Rattle.dots.specs.Clock.{Clock, count, covers, cmp_clock, normal, filled}
use Rattle.replica.specs.Replica.{Entry, Wait, Replica, entries, waits, member_sets, entry, wait_at, holds, killed}
use Rattle.replica.specs.Waits.{GoodWait, Each}

-- ---- the test

-- "no entry holds a dot covered by a waiting remove that names its member"
unfoldable pub spared : Entry → Wait → Bool
spared e w = not (get member_sets w.members e.member) || every (λ d. ltb (count w.clock (actor_of d)) d.counter) e.clock

-- "all clocks are normalised .. entry clocks are not empty and V covers them"
unfoldable pub entry_tests : Replica → Entry → List Bool
entry_tests A e = normal e.clock ∷ filled e.clock ∷ covers A.clock e.clock ∷ every (spared e) A.waiting ∷ []

-- "waiting clocks are not empty"; their members are a set
unfoldable pub wait_tests : Wait → List Bool
wait_tests w = normal w.clock ∷ filled w.clock ∷ ascending compare w.members ∷ []

-- entries stand "by ascending member, waiting removes by ascending clock"
unfoldable pub tests : Replica → List Bool
tests A =
    normal A.clock
    ∷ ascending compare (map (λ e. e.member) A.entries) ∷ every (λ e. alls (entry_tests A e)) A.entries
    ∷ ascending cmp_clock (map (λ w. w.clock) A.waiting) ∷ every (λ w. alls (wait_tests w)) A.waiting
    ∷ []

unfoldable pub sound : Replica → Bool
sound A = alls (tests A)

-- ---- the same, point by point

pub record Fine (A : Replica) : Type 0 where
  -- "all clocks are normalised": V, the entries' (a member without an entry has the empty one), and below the waiting removes'
  pub clock_ok : Normal clocks A.clock
  pub each : (m : ℕ) → Normal clocks (entry A m)
  -- entries ascending by member, none with an empty clock; waiting removes ascending by clock
  pub entries_ok : Normal entries A.entries
  pub waiting_ok : Normal waits A.waiting
  -- "V covers them"
  pub within : (m a : ℕ) → count (entry A m) a ≤ count A.clock a
  -- "waiting clocks are not empty"
  pub late : (c : Clock) → Each (GoodWait c) (wait_at A c)
  -- "no entry holds a dot covered by a waiting remove that names its member"
  pub free : (m a n : ℕ) → T (holds A m a (suc n)) → T (killed A m a (suc n)) → ⊥

pub record EntryOk (A : Replica) (e : Entry) : Type 0 where
  pub normal_ok : Normal clocks e.clock
  pub filled_ok : T (filled e.clock)
  pub covers_ok : (a : ℕ) → count e.clock a ≤ count A.clock a
  pub spared_ok : T (every (spared e) A.waiting)
