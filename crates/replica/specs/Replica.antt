-- What a replica is, and what it says of a member and a dot.
use Rattle.std.specs.Prelude.{ℕ, ◌≡◌, refl, Bool, true, false, ◌&&◌, List, [], ◌∷◌, leb, eqb}
use Rattle.std.proofs.Common.{ap}
use Rattle.std.proofs.lemmas.Bool.{false≢true}
use Rattle.std.proofs.Math.Option.{Option, none, some}
use Rattle.tables.specs.Table.{Kind, get, row_at, is_some, any}
use Rattle.tables.specs.Zip.{Rows, kind}
use Rattle.dots.specs.Clock.{Clock, count, cmp_clock, clock_order}

-- "A replica has a clock V, entries (member with clock) and waiting removes (clock with member set, the Rust's `deferred`)."
pub record Entry : Type 0 where
  pub member : ℕ
  pub clock : Clock

pub record Wait : Type 0 where
  pub clock : Clock
  pub members : List ℕ

pub record Replica : Type 0 where
  pub clock : Clock
  pub entries : List Entry
  pub waiting : List Wait

-- ---- its three kinds of table

-- the entries: member to clock; an empty clock is no entry
abbrev pub entry? : ℕ → Clock → Option Entry
entry? m [] = none
entry? m (d ∷ c) = some (record { member = m; clock = d ∷ c })

abbrev pub clock_of : Option Entry → Clock
clock_of none = []
clock_of (some e) = e.clock

pub entry_val : (m : ℕ) (c : Clock) → clock_of (entry? m c) ≡ c
entry_val m [] = refl
entry_val m (d ∷ c) = refl

pub entry_key : (m : ℕ) (c : Clock) (e : Entry) → entry? m c ≡ some e → e.member ≡ m
entry_key m [] e h = absurd (false≢true (ap is_some h))
entry_key m (d ∷ c) e h = cc

abbrev pub entry_rows : Rows
entry_rows = record { Row = Entry; Val = Clock; key = λ e. e.member; row = entry?; val = clock_of; val_row = entry_val; key_row = entry_key; row_none = λ m. refl }

abbrev pub entries : Kind
entries = kind entry_rows

-- a set of members: member to whether it is there
abbrev pub member? : ℕ → Bool → Option ℕ
member? m true = some m
member? m false = none

pub member_val : (m : ℕ) (b : Bool) → is_some (member? m b) ≡ b
member_val m true = refl
member_val m false = refl

pub member_key : (m : ℕ) (b : Bool) (k : ℕ) → member? m b ≡ some k → k ≡ m
member_key m true k e = cc
member_key m false k e = absurd (false≢true (ap is_some e))

abbrev pub member_rows : Rows
member_rows = record { Row = ℕ; Val = Bool; key = λ m. m; row = member?; val = is_some; val_row = member_val; key_row = member_key; row_none = λ m. refl }

abbrev pub member_sets : Kind
member_sets = kind member_rows

-- the waiting removes: clock to members, by the image's order of clocks
abbrev pub wait? : Clock → Option (List ℕ) → Option Wait
wait? c none = none
wait? c (some ms) = some (record { clock = c; members = ms })

abbrev pub members_of : Option Wait → Option (List ℕ)
members_of none = none
members_of (some w) = some w.members

pub wait_val : (c : Clock) (o : Option (List ℕ)) → members_of (wait? c o) ≡ o
wait_val c none = refl
wait_val c (some ms) = refl

pub wait_key : (c : Clock) (o : Option (List ℕ)) (w : Wait) → wait? c o ≡ some w → w.clock ≡ c
wait_key c none w e = absurd (false≢true (ap is_some e))
wait_key c (some ms) w e = cc

abbrev pub waits : Kind
waits = record { Key = Clock; Row = Wait; Val = Option (List ℕ); cmp = cmp_clock; order = clock_order; key = λ w. w.clock; row = wait?; val = members_of; val_row = wait_val; key_row = wait_key; row_none = λ c. refl }

-- ---- what a replica says

-- the clock of a member's entry; empty where it has none
abbrev pub entry : Replica → ℕ → Clock
entry A m = get entries A.entries m

-- the members of the waiting remove with a clock
abbrev pub wait_at : Replica → Clock → Option (List ℕ)
wait_at A c = get waits A.waiting c

-- there are such members, and m is one of them
abbrev pub names : Option (List ℕ) → ℕ → Bool
names none m = false
names (some ms) m = get member_sets ms m

-- the member is there
unfoldable pub is_in : Replica → ℕ → Bool
is_in A m = is_some (row_at entries A.entries m)

-- the member's entry holds the dot (a, n)
abbrev pub holds_in : List Entry → ℕ → ℕ → ℕ → Bool
holds_in es m a n = eqb (count (get entries es m) a) n

unfoldable pub holds : Replica → ℕ → ℕ → ℕ → Bool
holds A m a n = holds_in A.entries m a n

-- V covers the dot (a, n)
unfoldable pub seen : Replica → ℕ → ℕ → Bool
seen A a n = leb n (count A.clock a)

-- a waiting remove names the member and covers the dot
abbrev pub kills : ℕ → ℕ → ℕ → Wait → Bool
kills m a n w = get member_sets w.members m && leb n (count w.clock a)

unfoldable pub killed : Replica → ℕ → ℕ → ℕ → Bool
killed A m a n = any (kills m a n) A.waiting
