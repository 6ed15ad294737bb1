-- Document 01's rules for the set, on replicas without limits. Each definition stands under the sentence that it renders.
use Prim.Native.Nat.{ℕ, compare}
use Rattle.std.specs.Prelude.{Bool, not, ◌&&◌, ◌||◌, List, [], ◌∷◌, map}
use Rattle.std.proofs.Math.Option.{Option, none, some}
use Rattle.tables.specs.Table.{get, join, collect, pick, union, any}
use Rattle.tables.specs.Zip.{zip}
use Rattle.dots.specs.declared.Dot.{Dot}
use Rattle.dots.specs.Dot.{clocks}
use Rattle.dots.specs.Clock.{Clock, count, covers, merged, applied, reset_by}
use Rattle.replica.specs.Replica.{Entry, Wait, Replica, entry?, entries, waits, member_sets, entry, holds, seen}

-- an argument list: "duplicates and any order allowed; an empty list too"
unfoldable pub set_of : List ℕ → List ℕ
set_of ms = union compare ms []

-- the members of two waiting removes with an equal clock; none where there is no such remove
unfoldable pub unite : Option (List ℕ) → Option (List ℕ) → Option (List ℕ)
unite none y = y
unite (some x) none = some x
unite (some x) (some y) = some (zip member_sets (λ m. ◌||◌) x y)

-- waiting removes "joined by equal clock"
unfoldable pub join_waits : List Wait → List Wait → List Wait
join_waits xs ys = zip waits (λ c. unite) xs ys

-- "each listed member's entry is reset by c and dropped if empty"
unfoldable pub remove_from : Wait → List Entry → List Entry
remove_from w es = collect (λ e. pick (get member_sets w.members e.member) (entry? e.member (reset_by w.clock e.clock)) (some e)) es

-- the same by several removes, one after the other
unfoldable pub removes_from : List Wait → List Entry → List Entry
removes_from [] es = es
removes_from (w ∷ ws) es = removes_from ws (remove_from w es)

-- the waiting removes whose clock v does not cover
abbrev pub uncovered : Clock → List Wait → List Wait
uncovered v ws = collect (λ w. pick (covers v w.clock) none (some w)) ws

-- "Applying waiting removes again: each resets its members' entries; those whose clock V covers are gone, the rest stay."
unfoldable pub settle : Replica → Replica
settle A = record { clock = A.clock; entries = removes_from A.waiting A.entries; waiting = uncovered A.clock A.waiting }

-- "Add: if V covers the dot (counter 0 always), nothing changes. Otherwise each listed member's clock takes the dot, V takes it,
-- then all waiting removes are applied again."
unfoldable pub takes : Dot → List ℕ → List Entry → List Entry
takes d ms es = zip entries (λ m. merged) es (map (λ m. record { member = m; clock = d ∷ [] }) (set_of ms))

unfoldable pub add : Dot → List ℕ → Replica → Replica
add d ms A = pick (covers A.clock (d ∷ [])) A (settle (record { clock = applied A.clock d; entries = takes d ms A.entries; waiting = A.waiting }))

-- "Remove with clock c: each listed member's entry is reset by c and dropped if empty. If V doesn't cover c, the remove waits, joined to
-- one with an equal clock. An empty member list may wait. Other waiting removes aren't looked at."
unfoldable pub remove : Clock → List ℕ → Replica → Replica
remove c ms A = record {
  clock = A.clock;
  entries = remove_from (record { clock = c; members = set_of ms }) A.entries;
  waiting = pick (covers A.clock c) A.waiting (join_waits A.waiting (record { clock = c; members = set_of ms } ∷ []));
}

-- "Merge: a dot stays in a member's entry if both hold it, or one holds it and the other's V doesn't cover it."
unfoldable pub stay : Replica → Replica → ℕ → ℕ → ℕ → Bool
stay A B m a n = holds A m a n && holds B m a n || (holds A m a n && not (seen B a n) || holds B m a n && not (seen A a n))

-- the counter of a in the entry of m then: the first's if that dot stays, else the second's if that one does
unfoldable pub stay_at : Replica → Replica → ℕ → ℕ → ℕ
stay_at A B m a = pick (stay A B m a (count (entry A m) a)) (count (entry A m) a) (pick (stay A B m a (count (entry B m) a)) (count (entry B m) a) 0)

-- and the entries: those of the members of either, with the actors of either clock
unfoldable pub staying : Replica → Replica → List Entry
staying A B = join entries (λ m. join clocks (stay_at A B m) (entry A m) (entry B m)) A.entries B.entries

-- "V is the larger per actor. The waiting removes of both, joined by equal clock,"
abbrev pub together : Replica → Replica → Replica
together A B = record { clock = merged A.clock B.clock; entries = staying A B; waiting = join_waits A.waiting B.waiting }

-- "are then applied again"
unfoldable pub merge : Replica → Replica → Replica
merge A B = settle (together A B)

-- "Reset by c: V and each entry and waiting clock are reset by c; entries and waiting removes with empty clocks go. Waiting removes whose
-- clocks became equal are joined. The result may be unsettled."
unfoldable pub rewait : Clock → List ℕ → List Wait → List Wait
rewait [] ms ws = ws
rewait (d ∷ c) ms ws = join_waits (record { clock = d ∷ c; members = ms } ∷ []) ws

unfoldable pub reset_waits : Clock → List Wait → List Wait
reset_waits c [] = []
reset_waits c (w ∷ ws) = rewait (reset_by c w.clock) w.members (reset_waits c ws)

unfoldable pub reset : Clock → Replica → Replica
reset c A = record {
  clock = reset_by c A.clock;
  entries = collect (λ e. entry? e.member (reset_by c e.clock)) A.entries;
  waiting = reset_waits c A.waiting;
}

-- "It is *settled* if V covers no waiting clock."
unfoldable pub settled : Replica → Bool
settled A = not (any (λ w. covers A.clock w.clock) A.waiting)
