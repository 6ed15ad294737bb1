-- What each test of the code says of the definition, for what stands at one place.
use Prim.Native.Nat.{ℕ, ◌+◌, ◌*◌, ◌≤◌, ◌<◌}
use Rattle.std.specs.Prelude.{Some, None}
use Rattle.std.specs.Bool.{then_some}
use mathlib.Core.Path.{◌≡◌, refl}
use mathlib.Core.Bool.{Bool, true, false, ◌&&◌, and-false}
use mathlib.Core.List.{List, [], ◌∷◌}
use native.Mathlib.Omega.{arith}
use lib.Dec.{leb, leb→le}
use lib.ListN.{length}
use borrow.Author.Tests.{le-leb, lt-leb, lt-ltb, le-ltb}
use Rattle.tables.specs.Ascending.{is_lt}
use Rattle.dots.specs.Clock.{Clock, cmp_clock}
use Rattle.dots.specs.Rising.{rising}
use Rattle.replica.specs.Limits.{full}
use Rattle.layout.specs.Fields.{u32_at, u64_at}
use Rattle.layout.specs.Clock.{narrow, dot_in, dot_at, dots_at, clock_in, clock_at, clock_end, clock_end_in}
use Rattle.layout.specs.Rows.{members_at, row_end, wait_end, wait_end_in}
use Rattle.layout.specs.Good.{rising_members, good_members_in, good_members, good_clock_in, good_clock, chain, wait_tests}
use Rattle.layout.proofs.KitFacts.{each_from, stands}
use Rattle.fields.proofs.Steps.{list_step, list_end}
use Rattle.scan.specs.Scan.{DotsIn, count_tests, counted, clock_ends, members_end, laid_tests, row_ends, wait_ends}

-- ---- dots and members that rise

module _ (s : List ℕ) (p k j low : ℕ) (e : k ≡ j + 1) where
  first_dot : dots_at s p k ≡ dot_at s p ∷ dots_at s (p + 12) j
  first_dot = list_step dot_at (λ s p. p + 12) s p k j e

  pub rise_low : u32_at s p < low → rising low (dots_at s p k) ≡ false
  unfolding rising dot_in
  rise_low h = rw (first_dot, lt-leb low (u32_at s p) h)

  pub rise_zero : u64_at s (p + 4) ≡ 0 → rising low (dots_at s p k) ≡ false
  unfolding rising dot_in
  rise_zero h = rw (first_dot, le-ltb 0 (u64_at s (p + 4)) (omega arith), and-false)

  pub rise_next : low ≤ u32_at s p → (u64_at s (p + 4) ≡ 0 → ⊥) → rising low (dots_at s p k) ≡ rising (u32_at s p + 1) (dots_at s (p + 12) j)
  unfolding rising dot_in
  rise_next h z = rw (first_dot, le-leb low (u32_at s p) h, lt-ltb 0 (u64_at s (p + 4)) (omega arith))

  first_member : members_at s p k ≡ u32_at s p ∷ members_at s (p + 4) j
  first_member = list_step u32_at (λ s p. p + 4) s p k j e

  pub member_low : u32_at s p < low → rising_members low (members_at s p k) ≡ false
  unfolding rising_members
  member_low h = rw (first_member, lt-leb low (u32_at s p) h)

  pub member_next : low ≤ u32_at s p → rising_members low (members_at s p k) ≡ rising_members (u32_at s p + 1) (members_at s (p + 4) j)
  unfolding rising_members
  member_next h = rw (first_member, le-leb low (u32_at s p) h)

pub rise_end : (s : List ℕ) (p k low : ℕ) → k ≤ 0 → rising low (dots_at s p k) ≡ true
unfolding rising
rise_end s p k low h = rw (list_end dot_at (λ s p. p + 12) s p k h)

pub member_end : (s : List ℕ) (p k low : ℕ) → k ≤ 0 → rising_members low (members_at s p k) ≡ true
unfolding rising_members
member_end s p k low h = rw (list_end u32_at (λ s p. p + 4) s p k h)

-- ---- a value where a test holds

pub some_of : {A : Type 0} (b : Bool) (x y : A) → Some y ≡ then_some b x → (b ≡ true) × (y ≡ x)
some_of true x y e = (refl, cc)
some_of false x y e = cc

pub none_of : {A : Type 0} (b : Bool) (x : A) → None ≡ then_some b x → b ≡ false
none_of true x e = cc
none_of false x e = refl

pub chain_last : (ts : List Bool) (b : Bool) → chain ts b ≡ (chain ts true && b)
chain_last [] b = refl
chain_last (t ∷ ts) b = go t (chain_last ts b)
  where
    go : (t : Bool) → chain ts b ≡ (chain ts true && b) → (t && chain ts b) ≡ (t && chain ts true && b)
    go true e = e
    go false e = refl

-- ---- a clock, and members

module _ (s : List ℕ) (at width most : ℕ) where
  pub count_short : length s < at + 4 → None ≡ counted s at width most
  unfolding counted
  count_short h = rw (lt-leb (at + 4) (length s) h)

  pub count_many : most < u32_at s at → None ≡ counted s at width most
  unfolding counted
  count_many h = simp (lt-leb (u32_at s at) most h, and-false)

  pub count_no_room : length s < at + (4 + width * u32_at s at) → None ≡ counted s at width most
  unfolding counted
  count_no_room h = simp (lt-leb (at + (4 + width * u32_at s at)) (length s) h, and-false)

  pub count_stands : u32_at s at ≤ most → at + (4 + width * u32_at s at) ≤ length s → Some (u32_at s at) ≡ counted s at width most
  unfolding counted
  count_stands n room =
      let h : at + 4 ≤ length s = omega arith in
      rw (le-leb (at + 4) (length s) h, le-leb (u32_at s at) most n, le-leb (at + (4 + width * u32_at s at)) (length s) room)

  -- what is counted
  pub record Counted (n : ℕ) : Type 0 where
    pub tests : chain (count_tests s at width most) true ≡ true
    pub is : n ≡ u32_at s at
    pub few : n ≤ most
    pub room : at + (4 + width * n) ≤ length s

  pub count_some : (n : ℕ) → Some n ≡ counted s at width most → Counted n
  unfolding counted
  count_some n e =
      let r = some_of (chain (count_tests s at width most) true) (u32_at s at) n e in
      let h = each_from (count_tests s at width most) true (rw r.0 tt) in
      record { tests = r.0; is = r.1; few = rw r.1 (leb→le (u32_at s at) most h.1.0); room = rw r.1 (leb→le (at + (4 + width * u32_at s at)) (length s) h.1.1.0) }

  count_none : None ≡ counted s at width most → chain (count_tests s at width most) true ≡ false
  unfolding counted
  count_none e = none_of (chain (count_tests s at width most) true) (u32_at s at) e

module _ (s : List ℕ) (at : ℕ) where
  clock_is : good_clock s at ≡ (chain (count_tests s at 12 16) true && rising 0 (dots_at s (at + 4) (u32_at s at)))
  unfolding good_clock_in clock_in clock_end_in
  clock_is = chain_last (count_tests s at 12 16) (rising 0 (dots_at s (at + 4) (u32_at s at)))

  pub clock_uncounted : None ≡ counted s at 12 16 → None ≡ clock_ends s at
  unfolding clock_ends
  clock_uncounted e = rw (clock_is, count_none s at 12 16 e)

  pub clock_counted : (n : ℕ) → Some n ≡ counted s at 12 16 → (b : Bool) → b ≡ rising 0 (dots_at s (at + 4) n) → then_some b (at + (4 + 12 * n)) ≡ clock_ends s at
  unfolding clock_ends clock_end_in
  clock_counted n w b e = let r = count_some s at 12 16 n w in rw (clock_is, r.tests, ← r.is, e)

  members_is : good_members s at ≡ (chain (count_tests s at 4 32) true && rising_members 0 (members_at s (at + 4) (u32_at s at)))
  unfolding good_members_in
  members_is = chain_last (count_tests s at 4 32) (rising_members 0 (members_at s (at + 4) (u32_at s at)))

  pub members_uncounted : None ≡ counted s at 4 32 → None ≡ members_end s at
  unfolding members_end
  members_uncounted e = rw (members_is, count_none s at 4 32 e)

  pub members_counted : (n : ℕ) → Some n ≡ counted s at 4 32 → (b : Bool) → b ≡ rising_members 0 (members_at s (at + 4) n) → then_some b (at + (4 + 4 * n)) ≡ members_end s at
  unfolding members_end
  members_counted n w b e = let r = count_some s at 4 32 n w in rw (members_is, r.tests, ← r.is, e)

-- ---- an entry, and a waiting remove

pub clock_in_dots : (s : List ℕ) (p q : ℕ) → Some q ≡ clock_ends s p → DotsIn s p
unfolding clock_ends
clock_in_dots s p q e = record { room = λ h. (stands s p (some_of (good_clock s p) (clock_end s p) q e).0).room }

module _ (s : List ℕ) (p low : ℕ) where
  pub row_low : u32_at s p < low → None ≡ row_ends s p low
  unfolding row_ends
  row_low h = rw (lt-leb low (u32_at s p) h)

  pub row_empty : u32_at s (p + 4) ≡ 0 → None ≡ row_ends s p low
  unfolding row_ends
  row_empty h = simp (le-ltb 0 (u32_at s (p + 4)) (omega arith), and-false)

  pub row_many : 16 < u32_at s (p + 4) → None ≡ row_ends s p low
  unfolding row_ends
  row_many h = simp (lt-leb (u32_at s (p + 4)) 16 h, and-false)

  pub row_stands : low ≤ u32_at s p → (u32_at s (p + 4) ≡ 0 → ⊥) → u32_at s (p + 4) ≤ 16 → (b : Bool) → b ≡ leb (row_end s p) (length s) → then_some b (row_end s p) ≡ row_ends s p low
  unfolding row_ends
  row_stands h z n b e = rw (le-leb low (u32_at s p) h, lt-ltb 0 (u32_at s (p + 4)) (omega arith), le-leb (u32_at s (p + 4)) 16 n, ← e) (both b)
    where
      both : (b : Bool) → then_some b (row_end s p) ≡ then_some (b && true) (row_end s p)
      both true = refl
      both false = refl

  pub row_some : (e : ℕ) → Some e ≡ row_ends s p low → (chain (laid_tests s p low) true ≡ true) × (e ≡ row_end s p)
  unfolding row_ends
  row_some e w = some_of (chain (laid_tests s p low) true) (row_end s p) e w

module _ (s : List ℕ) (p : ℕ) (last : Clock) where
  pub wait_no_clock : None ≡ clock_ends s p → None ≡ wait_ends s p last
  unfolding clock_ends wait_ends
  wait_no_clock e = rw (none_of (good_clock s p) (clock_end s p) e)

  pub wait_early : is_lt (cmp_clock last (clock_at s p)) ≡ false → None ≡ wait_ends s p last
  unfolding wait_ends
  wait_early h = simp (h, and-false)

  pub wait_members : (q : ℕ) → Some q ≡ clock_ends s p → is_lt (cmp_clock last (clock_at s p)) ≡ true → members_end s q ≡ wait_ends s p last
  unfolding clock_ends wait_ends members_end wait_end_in
  wait_members q e h = let r = some_of (good_clock s p) (clock_end s p) q e in rw (r.1, r.0, h) (both (good_members s (clock_end s p)))
    where
      both : (b : Bool) → then_some b (clock_end s p + (4 + 4 * u32_at s (clock_end s p))) ≡ then_some (b && true) (clock_end s p + (4 + 4 * u32_at s (clock_end s p)))
      both true = refl
      both false = refl

  pub wait_some : (e : ℕ) → Some e ≡ wait_ends s p last → (chain (wait_tests narrow full s p last) true ≡ true) × (e ≡ wait_end s p)
  unfolding wait_ends
  wait_some e w = some_of (chain (wait_tests narrow full s p last) true) (wait_end s p) e w
