-- The limits of a finished replica, and which of them it breaks first. Operations know no limits; a judge looks at what they give.
use Prim.Native.Nat.{ℕ, ◌≤◌}
use Rattle.std.specs.Prelude.{Bool, ◌&&◌, List, [], ◌∷◌, leb, ltb, eqb}
use Rattle.std.proofs.Math.ListN.{length}
use Rattle.tables.specs.Table.{All, any, every}
use Rattle.tables.specs.Refusal.{Refusal, ◌if◌, first_of}
use Rattle.replica.specs.Replica.{Replica}
use Rattle.replica.specs.WellFormed.{sound}

pub record Limits : Type 0 where
  pub actors : ℕ
  pub members : ℕ
  pub waiting : ℕ
  pub named : ℕ

-- "A clock has at most 16 actors, a replica at most 64 members and 16 waiting removes, a waiting remove at most 32 members"
abbrev pub full : Limits
full = record { actors = 16; members = 64; waiting = 16; named = 32 }

-- 6 to 9, in this order, each "given exactly when" the finished result breaks that limit
unfoldable pub limits_of : Limits → Replica → List Refusal
limits_of l A =
    6 if ltb l.actors (length A.clock)
    ∷ 7 if ltb l.members (length A.entries)
    ∷ 8 if ltb l.waiting (length A.waiting)
    ∷ 9 if any (λ w. ltb l.named (length w.members)) A.waiting
    ∷ []

unfoldable pub broken : Limits → Replica → ℕ
broken l A = first_of (limits_of l A)

-- "well-formed if: all clocks are normalised and limits hold; .." A waiting clock may name actors that V does not.
unfoldable pub well_formed : Limits → Replica → Bool
well_formed l A = sound A && (eqb (broken l A) 0 && every (λ w. leb (length w.clock) l.actors) A.waiting)

-- ---- what the number says

-- the limits hold
pub record Within (l : Limits) (A : Replica) : Type 0 where
  pub actors_fit : length A.clock ≤ l.actors
  pub members_fit : length A.entries ≤ l.members
  pub waiting_fit : length A.waiting ≤ l.waiting
  pub named_fit : All (λ w. length w.members ≤ l.named) A.waiting
