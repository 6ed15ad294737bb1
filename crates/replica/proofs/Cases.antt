-- Document 01's marked cases 1 to 13, one list under one statement, by computing.
use Rattle.std.specs.Prelude.{◌≡◌, refl, List, [], ◌∷◌, map, Bool, false, ℕ, zero, suc, Some, None}
use Rattle.std.specs.declared.cmp.Ordering.TheVariants.{Greater}
use Rattle.std.proofs.Math.Option.{Option, some}
use Rattle.tables.specs.Zip.{zip}
use Rattle.tables.specs.Refusal.{first_of}
use Rattle.dots.specs.declared.DotRange.{DotRange}
use Rattle.dots.specs.Dot.{dot}
use Rattle.dots.specs.Calls.{Standing, standing, means}
use Rattle.dots.specs.Clock.{Clock, covers, merged, applied, reset_by, intersection, gap}
use Rattle.replica.specs.Replica.{Entry, Wait, Replica, holds, seen}
use Rattle.replica.specs.Rules.{set_of, unite, join_waits, remove_from, removes_from, settle, takes, add, remove, stay, stay_at, staying, merge, rewait, reset_waits, reset, settled}
use Rattle.replica.specs.Limits.{full, limits_of, broken}
use Rattle.replica.specs.History.{Add}
use Rattle.replica.specs.Validate.{validate_op, Spent, reportable, first_spent, validate_merge}

-- what a case speaks of
pub data Value : Type 0 where
  Compared : Standing → Value
  Clocked : Clock → Value
  Replicated : Replica → Value
  Gap : Option DotRange → Value
  Whether : Bool → Value
  DoubleSpent : Option Spent → Value

-- a case: what document 01 gives, worked out by the definitions, and what it says comes of it
pub record Case : Type 0 where
  pub number : ℕ
  pub given : List Value
  pub expected : List Value

-- ---- short forms

abbrev rep : Clock → List Entry → List Wait → Replica
rep v es ws = record { clock = v; entries = es; waiting = ws }

abbrev holding : ℕ → Clock → Entry
holding m c = record { member = m; clock = c }

abbrev wait : Clock → List ℕ → Wait
wait c ms = record { clock = c; members = ms }

abbrev empty : Replica
empty = rep [] [] []

abbrev E : Replica
E = rep (dot 1 1 ∷ []) (holding 5 (dot 1 1 ∷ []) ∷ []) []

abbrev cover : Clock
cover = dot 1 1 ∷ dot 2 2 ∷ []

-- E, then the removes and adds of cases 7, 8 and 9
abbrev after7 : Replica
after7 = remove cover (5 ∷ []) E

abbrev after8 : Replica
after8 = add (dot 2 1) (5 ∷ []) after7

abbrev after9 : Replica
after9 = add (dot 2 3) (5 ∷ []) after8

abbrev both : Clock
both = dot 1 1 ∷ dot 2 1 ∷ []

abbrev after12 : Replica
after12 = reset (dot 1 2 ∷ []) (rep (dot 2 5 ∷ []) [] (wait (dot 1 2 ∷ dot 2 3 ∷ []) (5 ∷ []) ∷ []))

-- "Equal if the same; Greater if the first covers the second; Less if the second covers the first; otherwise none"
abbrev against : Clock → Clock → Standing
against c d = standing (covers c d) (covers d c)

-- ---- the list

abbrev pub cases : List Case
cases =
    -- "{1:1} against {}: Greater."
    record { number = 1; given = Compared (against (dot 1 1 ∷ []) []) ∷ []; expected = Compared (means (Some Greater)) ∷ [] }
    -- "{1:1} against {2:1}: none."
    ∷ record { number = 2; given = Compared (against (dot 1 1 ∷ []) (dot 2 1 ∷ [])) ∷ []; expected = Compared (means None) ∷ [] }
    -- "{1:1,2:1} reset by {1:1,3:9}: {2:1}; {1:2} reset by {1:1}: unchanged."
    ∷ record {
      number = 3;
      given = Clocked (reset_by (dot 1 1 ∷ dot 3 9 ∷ []) (dot 1 1 ∷ dot 2 1 ∷ [])) ∷ Clocked (reset_by (dot 1 1 ∷ []) (dot 1 2 ∷ [])) ∷ [];
      expected = Clocked (dot 2 1 ∷ []) ∷ Clocked (dot 1 2 ∷ []) ∷ [];
    }
    -- "`intersection` of {1:2,2:3} and {1:2,2:4}: {1:2}."
    ∷ record { number = 4; given = Clocked (intersection (dot 1 2 ∷ dot 2 3 ∷ []) (dot 1 2 ∷ dot 2 4 ∷ [])) ∷ []; expected = Clocked (dot 1 2 ∷ []) ∷ [] }
    -- "Empty replica, add 1.1 of 5: E."
    ∷ record { number = 5; given = Replicated (add (dot 1 1) (5 ∷ []) empty) ∷ []; expected = Replicated E ∷ [] }
    -- "E, add 1.3 of 6: V {1:3}, 5 {1:1}, 6 {1:3}; `validate_op` had said start 2, end 3."
    ∷ record {
      number = 6;
      given = Replicated (add (dot 1 3) (6 ∷ []) E) ∷ Gap (validate_op (Add (dot 1 3) (6 ∷ [])) E) ∷ [];
      expected = Replicated (rep (dot 1 3 ∷ []) (holding 5 (dot 1 1 ∷ []) ∷ holding 6 (dot 1 3 ∷ []) ∷ []) []) ∷ Gap (some (record { actor = record { 0 = 1 }; start = 2; end = 3 })) ∷ [];
    }
    -- "E, remove 5 by {1:1,2:2}: no entries, that remove waits."
    ∷ record { number = 7; given = Replicated after7 ∷ []; expected = Replicated (rep (dot 1 1 ∷ []) [] (wait cover (5 ∷ []) ∷ [])) ∷ [] }
    -- "Then add 2.1 of 5: V {1:1,2:1}, 5 absent, still waiting."
    ∷ record { number = 8; given = Replicated after8 ∷ []; expected = Replicated (rep both [] (wait cover (5 ∷ []) ∷ [])) ∷ [] }
    -- "Then add 2.3 of 5: 5 {2:3}, none waiting."
    ∷ record { number = 9; given = Replicated after9 ∷ []; expected = Replicated (rep (dot 1 1 ∷ dot 2 3 ∷ []) (holding 5 (dot 2 3 ∷ []) ∷ []) []) ∷ [] }
    -- "V {1:1,2:1} with 5 {1:1}, merged with the same V and 5 {2:1}: 5 is gone."
    ∷ record {
      number = 10;
      given = Replicated (merge (rep both (holding 5 (dot 1 1 ∷ []) ∷ []) []) (rep both (holding 5 (dot 2 1 ∷ []) ∷ []) [])) ∷ [];
      expected = Replicated (rep both [] []) ∷ [];
    }
    -- "E merged with V {2:1}, 5 {2:1}: 5 {1:1,2:1}."
    ∷ record {
      number = 11;
      given = Replicated (merge E (rep (dot 2 1 ∷ []) (holding 5 (dot 2 1 ∷ []) ∷ []) [])) ∷ [];
      expected = Replicated (rep both (holding 5 both ∷ []) []) ∷ [];
    }
    -- "V {2:5}, waiting {1:2,2:3} on 5, reset by {1:2}: waiting {2:3} on 5, unsettled; merged with itself: none waiting."
    ∷ record {
      number = 12;
      given = Replicated after12 ∷ Whether (settled after12) ∷ Replicated (merge after12 after12) ∷ [];
      expected = Replicated (rep (dot 2 5 ∷ []) [] (wait (dot 2 3 ∷ []) (5 ∷ []) ∷ [])) ∷ Whether false ∷ Replicated (rep (dot 2 5 ∷ []) [] []) ∷ [];
    }
    -- "V {}, waiting {1:1,2:2} on 5 and {1:2,2:2} on 6, reset by {1:2}: waiting {2:2} on 5 and 6."
    ∷ record {
      number = 13;
      given = Replicated (reset (dot 1 2 ∷ []) (rep [] [] (wait cover (5 ∷ []) ∷ wait (dot 1 2 ∷ dot 2 2 ∷ []) (6 ∷ []) ∷ []))) ∷ [];
      expected = Replicated (rep [] [] (wait (dot 2 2 ∷ []) (5 ∷ 6 ∷ []) ∷ [])) ∷ [];
    }
    ∷ []

-- none is left out
pub numbered : map (λ c. c.number) cases ≡ 1 ∷ 2 ∷ 3 ∷ 4 ∷ 5 ∷ 6 ∷ 7 ∷ 8 ∷ 9 ∷ 10 ∷ 11 ∷ 12 ∷ 13 ∷ []
numbered = refl

-- in every case the definitions give what document 01 says
pub marked : map (λ c. c.given) cases ≡ map (λ c. c.expected) cases
unfolding covers merged applied reset_by intersection gap zip holds seen set_of unite join_waits remove_from removes_from settle takes add remove stay stay_at staying merge rewait reset_waits reset settled validate_op
marked = refl

abbrev five : Entry
five = holding 5 (dot 1 1 ∷ dot 3 3 ∷ [])

abbrev eighth : Entry
eighth = holding 8 (dot 1 1 ∷ dot 3 3 ∷ [])

-- ---- "Easy ways to get it wrong", and what the rules for removes and for `validate_merge` say in passing

abbrev pub traps : List Case
traps =
    -- "Letting a remove settle older waiting ones": V {2:5} covers the waiting {2:3}, which a remove of 6 leaves alone
    record { number = 1; given = Replicated (remove (dot 2 1 ∷ []) (6 ∷ []) after12) ∷ []; expected = Replicated (rep (dot 2 5 ∷ []) [] (wait (dot 2 3 ∷ []) (5 ∷ []) ∷ [])) ∷ [] }
    -- "Testing "waits" by Greater only and losing the concurrent case": E, remove 5 by {2:1}
    ∷ record { number = 2; given = Replicated (remove (dot 2 1 ∷ []) (5 ∷ []) E) ∷ []; expected = Replicated (rep (dot 1 1 ∷ []) (holding 5 (dot 1 1 ∷ []) ∷ []) (wait (dot 2 1 ∷ []) (5 ∷ []) ∷ [])) ∷ [] }
    -- "Treating an add of no members as nothing: V still moves": E, add 1.2 of none
    ∷ record { number = 3; given = Replicated (add (dot 1 2) [] E) ∷ []; expected = Replicated (rep (dot 1 2 ∷ []) (holding 5 (dot 1 1 ∷ []) ∷ []) []) ∷ [] }
    -- "the remove waits, joined to one with an equal clock": case 7, then remove 6 and 4 by the same clock
    ∷ record { number = 4; given = Replicated (remove cover (6 ∷ 4 ∷ 6 ∷ []) after7) ∷ []; expected = Replicated (rep (dot 1 1 ∷ []) [] (wait cover (4 ∷ 5 ∷ 6 ∷ []) ∷ [])) ∷ [] }
    -- "An empty member list may wait": E, remove none by {2:1}
    ∷ record { number = 5; given = Replicated (remove (dot 2 1 ∷ []) [] E) ∷ []; expected = Replicated (rep (dot 1 1 ∷ []) (holding 5 (dot 1 1 ∷ []) ∷ []) (wait (dot 2 1 ∷ []) [] ∷ [])) ∷ [] }
    -- "Search order: our members ascending, then theirs, then actors": 1.1 of 5 and 8 comes before 2.2 of 6 and 7; 3.3 of 5 and 5 is none, nor is 1.1 of 5 by 1.2 of 7
    ∷ record {
      number = 6;
      given = DoubleSpent (validate_merge (rep [] (five ∷ holding 6 (dot 2 2 ∷ []) ∷ []) []) (rep [] (holding 5 (dot 3 3 ∷ []) ∷ holding 7 (dot 1 2 ∷ dot 2 2 ∷ []) ∷ eighth ∷ []) [])) ∷ [];
      expected = DoubleSpent (some (record { dot = dot 1 1; our = 5; their = 8 })) ∷ [];
    }
    ∷ []

pub avoided : map (λ c. c.given) traps ≡ map (λ c. c.expected) traps
unfolding covers merged applied reset_by zip set_of unite join_waits remove_from removes_from settle takes add remove rewait reset_waits reset reportable first_spent validate_merge
avoided = refl

-- ---- "At the limits: 16 actors granted, a 17th refused with 6; 64 members granted, 65 refused with 7; an add of a 65th member that a waiting

-- remove kills at once is granted."
abbrev up_to : {X : Type 0} → (ℕ → X) → ℕ → List X → List X
up_to f zero rest = rest
up_to f (suc n) rest = up_to f n (f n ∷ rest)

-- V with actors 0 to n - 1, each at 1
abbrev actors : ℕ → Replica
actors n = rep (up_to (λ a. dot a 1) n []) [] []

-- members 0 to n - 1, each with a dot of actor 1
abbrev members : ℕ → List Wait → Replica
members n ws = rep (dot 1 n ∷ []) (up_to (λ m. holding m (dot 1 (suc m) ∷ [])) n []) ws

abbrev pub at_the_limits : List ℕ
at_the_limits =
    broken full (add (dot 15 1) [] (actors 15))
    ∷ broken full (add (dot 16 1) [] (actors 16))
    ∷ broken full (add (dot 1 64) (63 ∷ []) (members 63 []))
    ∷ broken full (add (dot 1 65) (64 ∷ []) (members 64 []))
    ∷ broken full (add (dot 1 65) (64 ∷ []) (members 64 (wait (dot 1 65 ∷ dot 2 1 ∷ []) (64 ∷ []) ∷ [])))
    ∷ []

pub limits : at_the_limits ≡ 0 ∷ 6 ∷ 0 ∷ 7 ∷ 0 ∷ []
unfolding covers merged applied reset_by zip set_of remove_from removes_from settle takes add limits_of broken first_of
limits = refl
