-- What each call reads and writes, in the code's terms.
use Prim.Native.Nat.{ℕ, ◌+◌, ◌-◌, ◌*◌, ◌≤◌, ◌<◌, min, compare, Ordering}
use mathlib.Core.Path.{◌≡◌, refl, sym, ap, ◌∙◌}
use mathlib.Core.Bool.{Bool, true, false, ◌||◌}
use mathlib.Core.List.{List, ◌++◌}
use native.Mathlib.Omega.{arith}
use lib.Dec.{compare_is_eq}
use lib.ListN.{length, take, length-take, length-append}
use lib.Seq.{length-sets, take_all}
use Rattle.tables.specs.Stores.{sets_append}
use Rattle.tables.specs.Order.{nat_order, self}
use Rattle.tables.specs.Table.{has, has_cons}
use Rattle.tables.specs.Zip.{by_lt}
use Rattle.dots.specs.declared.Member.{Member}
use Rattle.clocks.specs.declared.VClock.{VClock}
use Rattle.clocks.specs.VClock.{dots_of, vclock}
use Rattle.layout.specs.Fields.{u32_at, le32}
use Rattle.layout.proofs.FieldsFacts.{length_le32}
use Rattle.layout.specs.Lists.{list_at}
use Rattle.layout.specs.Clock.{clock_end, clock_end_in, encode_clock}
use Rattle.layout.specs.Rows.{members_at, member_end, encode_members, encode_wait, encode_wait_in}
use Rattle.layout.proofs.KitFacts.{length_encode_members}
use Rattle.fields.specs.Read.{clock_read, Put}
use Rattle.fields.proofs.Steps.{list_step, list_end, u32_past, sets_past, of_few}
use Rattle.rows.specs.declared.Row.{Row}
use Rattle.rows.specs.declared.WaitRow.{WaitRow}
use Rattle.rows.specs.Rows.{row_read, wait_read, named_read, counted, wait_of}

-- ---- an entry, a waiting remove

pub row_is : (s : List ℕ) (at m : ℕ) (c : VClock) → m ≡ u32_at s at → c ≡ vclock (clock_read s (at + 4)) → ◌≡◌ {A = Row} (record { member = record { 0 = m }; clock = c }) (row_read s at)
unfolding row_read
row_is s at m c e f = λ i. record { member = record { 0 = e i }; clock = f i }

pub end_is : (s : List ℕ) (at w : ℕ) → w ≡ u32_at s at → at + 4 + 12 * w ≡ clock_end s at
unfolding clock_end_in
end_is s at w e = omega arith

pub wait_is : (s : List ℕ) (at n : ℕ) (c : VClock) → c ≡ vclock (clock_read s at) → n ≡ u32_at s (clock_end s at) → ◌≡◌ {A = WaitRow} (record { clock = c; count = n }) (wait_read s at)
unfolding wait_read
wait_is s at n c e f = λ i. record { clock = e i; count = f i }

pub end_past : (s : List ℕ) (at : ℕ) → length s ≤ at → u32_at s (clock_end s at) ≡ 0
unfolding clock_end_in
end_past s at h = u32_past s (clock_end s at) (omega arith)

-- ---- the members that a waiting remove names

pub names_past : (s : List ℕ) (at : ℕ) (m : Member) → length s ≤ at → false ≡ named_read s at m
unfolding named_read list_at
names_past s at m h = rw (end_past s at h)

pub names_all : (s : List ℕ) (at q n : ℕ) (m : Member) → q ≡ clock_end s at → n ≡ min (u32_at s q) 32 → has compare m.0 (members_at s (q + 4) n) ≡ named_read s at m
unfolding named_read
names_all s at q n m e f = rw (f, e)

module _ (s : List ℕ) (p k m : ℕ) where
  pub names_here : 0 < k → u32_at s p ≡ m → true ≡ has compare m (members_at s p k)
  names_here h e = rw (list_step u32_at member_end s p k (k - 1) (omega arith), e, self compare nat_order m)

  pub names_next : (j : ℕ) → k ≡ j + 1 → (u32_at s p ≡ m → ⊥) → has compare m (members_at s (p + 4) j) ≡ has compare m (members_at s p k)
  names_next j h d =
      sym (ap (has compare m) (list_step u32_at member_end s p k j h) ∙ has_cons compare nat_order m (u32_at s p) (members_at s (p + 4) j)
      ∙ ap (λ (b : Bool). b || has compare m (members_at s (p + 4) j)) (go (compare m (u32_at s p)) refl))
    where
      go : (o : Ordering) → compare m (u32_at s p) ≡ o → compare_is_eq o ≡ false
      go Ordering.lt e = refl
      go Ordering.eq e = absurd (d (sym (nat_order.same m (u32_at s p) e)))
      go Ordering.gt e = refl

  pub names_end : k ≤ 0 → has compare m (members_at s p k) ≡ false
  names_end h = rw (list_end u32_at member_end s p k h)

-- ---- members written

short_part : (ms : List ℕ) (n : ℕ) → n ≡ min (length ms) 32 → length (take n ms) ≤ 64
short_part ms n e = simp length-take (omega arith)

-- the first 32, where there are so many
pub first_written : (ms : List ℕ) (n : ℕ) (s t : List ℕ) (at r : ℕ) → n ≡ min (length ms) 32 → Put s at (le32 (length (take 64 (take n ms))) ++ encode_members (take 64 (take n ms))) t r → Put s at (counted (take 32 ms)) t r
unfolding counted
first_written ms n s t at r e p = rw first at (of_few _ _ _ _ _ (short_part ms n e) p)
  where
    first : take n ms ≡ take 32 ms
    first = by_lt (length ms) 32
        (λ l. take_all n ms (omega arith) ∙ sym (take_all 32 ms (omega arith)))
        (λ l. let q : n ≡ 32 = omega arith in rw q)

pub named_short : (ms s t : List ℕ) (n at r : ℕ) → n ≡ min (length ms) 32 → Put s at (le32 (length (take 64 (take n ms))) ++ encode_members (take 64 (take n ms))) t r → r ≤ 132
named_short ms s t n at r e q =
    let p = of_few _ _ _ _ _ (short_part ms n e) q in
    let l = p.long in
    let k : length (take n ms) ≤ 32 = simp length-take (omega arith) in
    omega (arith, simp (length-append, length_le32, length_encode_members) at l)

-- ---- a waiting remove written in two parts

module _ (s t u : List ℕ) (at r k : ℕ) (c : VClock) (ms : List ℕ) (p : Put s at (encode_clock (dots_of c)) t r) where
  wait_long : k ≡ length (counted (take 32 ms)) → r + k ≡ length (encode_wait (wait_of c ms))
  unfolding encode_wait_in counted
  wait_long b = let a = p.long in simp length-append (omega (arith, simp length-append at b))

  pub wait_done : Put t (at + r) (counted (take 32 ms)) u k → Put s at (encode_wait (wait_of c ms)) u (r + k)
  unfolding encode_wait_in counted
  wait_done q = record {
    long = wait_long q.long;
    is = q.is ∙ rw (p.is, p.long) (sym (sets_append s at (encode_clock (dots_of c)) (counted (take 32 ms))));
  }

  pub wait_past : length t ≤ at → Put t at (counted (take 32 ms)) u k → Put s at (encode_wait (wait_of c ms)) u (r + k)
  wait_past h q =
      let l : length s ≤ at = omega (arith, ap length p.is ∙ length-sets s at (encode_clock (dots_of c))) in record {
        long = wait_long q.long;
        is = q.is ∙ sets_past t at (counted (take 32 ms)) h ∙ p.is ∙ sets_past s at (encode_clock (dots_of c)) l ∙ sym (sets_past s at (encode_wait (wait_of c ms)) l);
      }
