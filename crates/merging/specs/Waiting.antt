-- What the loops over the waiting removes of two images and over their members start from, and what they leave.
use Prim.Native.Nat.{ℕ, ◌+◌, ◌*◌, ◌≤◌, ◌<◌, max, Ordering}
use Rattle.std.specs.Prelude.{◌≡◌, Bool, List, [], ◌∷◌, eqb, ltb, length}
use Rattle.std.specs.declared.cmp.Ordering.{Ordering as Order}
use Rattle.std.specs.declared.cmp.Ordering.TheVariants.{Less, Equal, Greater}
use Rattle.std.proofs.Math.Option.{Option, none, some}
use Rattle.std.proofs.lemmas.List.Edits.{sets}
use Rattle.tables.specs.Table.{Normal, All, pick, cons?}
use Rattle.tables.specs.Zip.{Rise, turn_of, left_after, right_after, Ascend}
use Rattle.dots.specs.Dot.{clocks}
use Rattle.dots.specs.Clock.{Clock}
use Rattle.dots.specs.Covering.{cover_of}
use Rattle.replica.specs.Replica.{Wait, waits, member_rows, member_sets}
use Rattle.layout.specs.Fields.{u32_at, le32}
use Rattle.layout.specs.Clock.{clock_end}
use Rattle.layout.specs.Rows.{members_at, encode_members, waits_at, waits_end_at, wait_end, wait_at_place, encode_waits}
use Rattle.merging.specs.declared.waits.Names.{Names}
use Rattle.merging.specs.declared.waits.Part.{Part}
use Rattle.merging.specs.declared.waits.Put.{Put}
use Rattle.merging.specs.declared.waits.Waits.{Waits}
use Rattle.merging.specs.declared.waits.WaitsDone.{WaitsDone}
use Rattle.changing.specs.KeptWaits.{both_sets, next_clock, next_left, next_right}

-- what the side that is next has: the first, unless it is the second alone
abbrev pub of_side : {A : Type 0} → Order → A → A → A
of_side Less x y = x
of_side Equal x y = x
of_side Greater x y = y

-- ---- members

-- one turn along two lists of members
pub record Named (s t out : List ℕ) (at : ℕ) (w : Names) (out' : List ℕ) (w' : Names) : Type 0 where
  pub low : ℕ
  pub step : both_sets (members_at s w.p w.m) (members_at t w.q w.k) ≡ low ∷ both_sets (members_at s w'.p w'.m) (members_at t w'.q w'.k)
  pub left_rise : Rise member_rows (members_at s w'.p w'.m)
  pub right_rise : Rise member_rows (members_at t w'.q w'.k)
  pub left_edge : w'.p + 4 * w'.m ≡ w.p + 4 * w.m
  pub right_edge : w'.q + 4 * w'.k ≡ w.q + 4 * w.k
  pub moves : w'.m + w'.k < w.m + w.k
  pub next : w'.n ≡ w.n + 1
  pub bytes : out' ≡ sets out (at + 4 * w.n) (le32 low)

pub record MembersReady (s : List ℕ) (p m : ℕ) (t : List ℕ) (q k : ℕ) : Type 0 where
  pub left_rise : Rise member_rows (members_at s p m)
  pub right_rise : Rise member_rows (members_at t q k)
  pub left_edge : p + 4 * m < 274877906944
  pub right_edge : q + 4 * k < 274877906944

-- members written from a place on, at most `most`
pub record WroteMembers (out : List ℕ) (at : ℕ) (ms : List ℕ) (out' : List ℕ) (most n : ℕ) : Type 0 where
  pub count : n ≡ length ms
  pub few : n ≤ most
  pub bytes : out' ≡ sets out at (encode_members ms)

-- ---- one waiting remove

pub record PartAt (s : List ℕ) (p taken : ℕ) (r : Part) : Type 0 where
  pub start : r.start ≡ p
  pub names : r.names ≡ clock_end s p + 4
  pub count : r.count ≡ pick (eqb taken 0) 0 (u32_at s (clock_end s p))
  pub end : r.end ≡ pick (eqb taken 0) p (wait_end s p)
  pub small : r.names + 4 * r.count < 274877906944

-- a waiting remove that is taken, and lies inside
pub record Whole (s : List ℕ) (p : ℕ) (x : Part) : Type 0 where
  pub few : u32_at s p ≤ 16
  pub names : x.names ≡ clock_end s p + 4
  pub count : x.count ≡ u32_at s (clock_end s p)
  pub end : x.end ≡ wait_end s p
  pub inside : wait_end s p ≤ length s
  pub normal : Normal member_sets (members_at s x.names x.count)
  pub named : x.count ≤ 512

-- the waiting remove that is next: x of s, or y of t; a side that doesn't have it names no members
pub record Next (side : Order) (s : List ℕ) (x : Part) (t : List ℕ) (y : Part) : Type 0 where
  pub left : (side ≡ Greater → ⊥) → Whole s x.start x
  pub right : (side ≡ Less → ⊥) → Whole t y.start y
  pub left_none : side ≡ Greater → x.count ≡ 0
  pub right_none : side ≡ Less → y.count ≡ 0
  pub left_small : x.start < 4294967296
  pub right_small : y.start < 4294967296
  pub ready : MembersReady s x.names x.count t y.names y.count

-- the waiting remove of a clock and members, unless it is covered
abbrev pub wait_of : Bool → Clock → List ℕ → Option Wait
wait_of b c ms = pick b none (some (record { clock = c; members = ms }))

-- the most members that one names
unfoldable pub most_named : List Wait → ℕ
most_named [] = 0
most_named (w ∷ ws) = max (length w.members) (most_named ws)

pub record PutWait (b : Bool) (c : Clock) (ms : List ℕ) (most : ℕ) (out : List ℕ) (at : ℕ) (out' : List ℕ) (r : Put) : Type 0 where
  pub count : r.count ≡ length (cons? (wait_of b c ms) [])
  pub long : r.long ≡ length (encode_waits (cons? (wait_of b c ms) []))
  pub names : r.names ≡ most_named (cons? (wait_of b c ms) [])
  pub short : r.long ≤ 8 + 12 * length c + 4 * most
  pub bytes : out' ≡ sets out at (encode_waits (cons? (wait_of b c ms) []))

-- ---- the walk

-- what is well-formed of a waiting remove
pub record Sound (w : Wait) : Type 0 where
  pub clock_ok : Normal clocks w.clock
  pub members_ok : Normal member_sets w.members
  pub few : length w.clock ≤ 16
  pub named : length w.members ≤ 512

pub record WaitsAhead (s t : List ℕ) (w : Waits) : Type 0 where
  pub more : 0 < w.m + w.k
  pub left_rise : Ascend waits (waits_at s w.p w.m)
  pub right_rise : Ascend waits (waits_at t w.q w.k)
  pub left_sound : All Sound (waits_at s w.p w.m)
  pub right_sound : All Sound (waits_at t w.q w.k)
  pub left_edge : waits_end_at s w.p w.m < 4294967296
  pub right_edge : waits_end_at t w.q w.k < 4294967296
  pub left_inside : waits_end_at s w.p w.m ≤ length s
  pub right_inside : waits_end_at t w.q w.k ≤ length t

abbrev pub turn_wait : Clock → Ordering → Wait → Wait → Option Wait
turn_wait v o x y = wait_of (cover_of v (next_clock o x y)) (next_clock o x y) (both_sets (next_left o x) (next_right o y))

pub record MergedWait (v : Clock) (s t out : List ℕ) (w : Waits) (out' : List ℕ) (w' : Waits) : Type 0 where
  pub side : Ordering
  pub turn : side ≡ turn_of waits (waits_at s w.p w.m) (waits_at t w.q w.k)
  pub left : waits_at s w'.p w'.m ≡ left_after waits side (waits_at s w.p w.m)
  pub right : waits_at t w'.q w'.k ≡ right_after waits side (waits_at t w.q w.k)
  pub left_edge : waits_end_at s w'.p w'.m ≡ waits_end_at s w.p w.m
  pub right_edge : waits_end_at t w'.q w'.k ≡ waits_end_at t w.q w.k
  pub moves : w'.m + w'.k < w.m + w.k
  pub room : w'.at + (w.p + w.q) ≤ w.at + (w'.p + w'.q)
  pub count : w'.n ≡ w.n + length (cons? (turn_wait v side (wait_at_place s w.p) (wait_at_place t w.q)) [])
  pub ends : w'.at ≡ w.at + length (encode_waits (cons? (turn_wait v side (wait_at_place s w.p) (wait_at_place t w.q)) []))
  pub most : w'.most ≡ max w.most (most_named (cons? (turn_wait v side (wait_at_place s w.p) (wait_at_place t w.q)) []))
  pub bytes : out' ≡ sets out w.at (encode_waits (cons? (turn_wait v side (wait_at_place s w.p) (wait_at_place t w.q)) []))

pub record WaitsReady (v : Clock) (s : List ℕ) (p m : ℕ) (t : List ℕ) (q k : ℕ) : Type 0 where
  pub left_few : m ≤ 16
  pub right_few : k ≤ 16
  pub left_rise : Ascend waits (waits_at s p m)
  pub right_rise : Ascend waits (waits_at t q k)
  pub left_sound : All Sound (waits_at s p m)
  pub right_sound : All Sound (waits_at t q k)
  pub left_edge : waits_end_at s p m < 65536
  pub right_edge : waits_end_at t q k < 65536
  pub left_inside : waits_end_at s p m ≤ length s
  pub right_inside : waits_end_at t q k ≤ length t
  pub clock_ok : Normal clocks v

-- waiting removes written from a place on: how many, where they end, and whether one names more than 32 members
pub record WroteWaits (out : List ℕ) (at : ℕ) (ws : List Wait) (out' : List ℕ) (r : WaitsDone) : Type 0 where
  pub count : r.n ≡ length ws
  pub ends : r.at ≡ at + length (encode_waits ws)
  pub most : ltb 32 r.most ≡ ltb 32 (most_named ws)
  pub few : r.n ≤ 32
  pub room : r.at ≤ at + 131072
  pub bytes : out' ≡ sets out at (encode_waits ws)
