-- One turn of the loop over the waiting removes of two images.
use Prim.Native.Nat.{ℕ, zero, suc, ◌+◌, ◌*◌, ◌-◌, ◌≤◌, ◌<◌, max, Ordering}
use mathlib.Core.Path.{◌≡◌, refl, sym, ap, ap₂, ◌∙◌, subst}
use mathlib.Core.Bool.{Bool, true, false, false≢true}
use mathlib.Core.List.{List, [], ◌∷◌, ◌++◌}
use native.Mathlib.Omega.{arith}
use native.Mathlib.Nat.{add-zero}
use lib.ListN.{length, length-append}
use lib.Seq.{sets, slice, length-sets}
use borrow.Author.Tests.{ne_eqb}
use Rattle.std.specs.Int.{from_bool}
use Rattle.std.specs.Ordering.{is_le, is_ge}
use Rattle.std.specs.declared.cmp.Ordering.{Ordering as Order}
use Rattle.std.specs.declared.cmp.Ordering.TheVariants.{Less, Equal, Greater}
use Rattle.tables.specs.Stores.{sets_append}
use Rattle.tables.specs.Table.{Normal, All, pick, cons?}
use Rattle.tables.specs.Zip.{tail, Rise, turn_of, left_after, right_after}
use Rattle.dots.specs.Calls.{ordered}
use Rattle.dots.specs.Clock.{Clock}
use Rattle.dots.specs.Covering.{cover_of}
use Rattle.replica.specs.Replica.{Wait, waits, member_rows, member_sets}
use Rattle.layout.specs.Fields.{Bytes, u32_at, le32}
use Rattle.layout.proofs.FieldsFacts.{length_le32}
use Rattle.layout.specs.Lists.{list_at, end_after, bytes_of}
use Rattle.layout.proofs.Form.{length_list_at}
use Rattle.layout.specs.Clock.{dot_at, dots_at, clock_in, clock_end_in, clock_at, clock_end, encode_clock, encode_clock_in}
use Rattle.layout.specs.Rows.{member_end, members_at, encode_members, wait_in, wait_end_in, waits_at, waits_end_at, wait_end, wait_at_place, encode_waits, encode_wait_in}
use Rattle.merging.specs.declared.waits.Part.{Part}
use Rattle.merging.specs.declared.waits.Put as putting
use Rattle.merging.specs.declared.waits.Waits.{Waits}
use Rattle.changing.specs.KeptWaits.{both_sets, sets_left, sets_right, sets_same, next_clock, next_left, next_right}
use Rattle.merging.specs.Waiting as waiting
use Rattle.merging.proofs.CopySteps.{wait_copied, clock_copied}
use Rattle.merging.proofs.KeepSteps.{length_dots}
use Rattle.merging.proofs.RowSteps.{sets_before}

abbrev Putting : Type 0
Putting = putting.Put

pub append-nil : (l : List ℕ) → l ++ [] ≡ l
append-nil [] = refl
append-nil (x ∷ l) = ap (λ (r : List ℕ). x ∷ r) (append-nil l)

length_members : (ms : List ℕ) → length (encode_members ms) ≡ 4 * length ms
unfolding bytes_of
length_members [] = refl
length_members (m ∷ ms) = let e = length_members ms in let f = length_le32 m in simp length-append (omega arith)

pub length_clock : (c : Clock) → length (encode_clock c) ≡ 4 + 12 * length c
unfolding encode_clock_in
length_clock c = simp (length-append, length_le32, length_dots)

-- ---- a clock in bytes

pub length_clock_at : (s : List ℕ) (p : ℕ) → length (clock_at s p) ≡ u32_at s p
unfolding clock_in
length_clock_at s p = length_list_at dot_at (λ s p. p + 12) s (p + 4) (u32_at s p)

pub cover_clock : (v : Clock) (s : List ℕ) (p n : ℕ) (r : Bool) → n ≡ u32_at s p → r ≡ cover_of v (dots_at s (p + 4) n) → r ≡ cover_of v (clock_at s p)
unfolding clock_in
cover_clock v s p n r e h = rw e at h

-- ---- what is written

wait_end_is : (s : List ℕ) (p : ℕ) → wait_end s p ≡ p + (8 + 12 * u32_at s p + 4 * u32_at s (clock_end s p))
unfolding wait_end_in clock_end_in
wait_end_is s p = omega arith

module _ (c : Clock) (ms : List ℕ) (most : ℕ) (out : List ℕ) (at : ℕ) where
  pub put_none : (b : Bool) → b ≡ true → waiting.PutWait b c ms most out at out (record { long = 0; count = 0; names = 0 })
  unfolding waiting.most_named bytes_of
  put_none b e = rw e (record { count = refl; long = refl; names = refl; short = omega arith; bytes = refl })

  -- by its bytes
  pub put_some : (b : Bool) (long n : ℕ) (out' : List ℕ) → b ≡ false → n ≡ length ms → n ≤ most → long ≡ 8 + 12 * length c + 4 * n
      → out' ≡ sets out at (encode_clock c ++ (le32 (length ms) ++ encode_members ms)) → waiting.PutWait b c ms most out at out' (record { long = long; count = 1; names = n })
  unfolding waiting.most_named bytes_of encode_wait_in
  put_some b long n out' e en few el eo =
      let all = encode_clock c ++ (le32 (length ms) ++ encode_members ms) in
      let lc = length_clock c in
      let lm = length_members ms in
      let la : length all ≡ length (encode_clock c) + (4 + length (encode_members ms)) = simp (length-append, length_le32) in
      rw e (record {
        count = refl;
        long = rw (append-nil all, la) (omega arith);
        names = omega arith;
        short = omega arith;
        bytes = rw (append-nil all) eo;
      })

-- one that is copied whole
pub put_whole : (s : List ℕ) (p : ℕ) (x : Part) (out : List ℕ) (at : ℕ) (b : Bool) (out' : List ℕ) → Bytes s → waiting.Whole s p x → b ≡ false → out' ≡ sets out at (slice p x.end s)
    → waiting.PutWait b (clock_at s p) (members_at s x.names x.count) x.count out at out' (record { long = x.end - p; count = 1; names = x.count })
unfolding wait_in encode_wait_in
put_whole s p x out at b out' bs h e f =
    let lc = length_clock_at s p in let we = wait_end_is s p in let en = h.end in let ec = h.count in
    let ms : members_at s x.names x.count ≡ (wait_at_place s p).members = ap₂ (members_at s) h.names h.count in
    put_some (clock_at s p) (members_at s x.names x.count) x.count out at b (x.end - p) x.count out' e (sym (length_list_at u32_at member_end s x.names x.count)) (omega arith) (omega arith)
    (f ∙ ap (sets out at) (ap (λ (k : ℕ). slice p k s) h.end ∙ wait_copied s p bs h.inside) ∙ rw ms)

-- one whose clock is copied, with other members
pub put_united : (s : List ℕ) (p : ℕ) (x : Part) (ms : List ℕ) (most : ℕ) (out : List ℕ) (at : ℕ) (b : Bool) (n long r : ℕ) (out₁ out₂ out₃ : List ℕ) → Bytes s → waiting.Whole s p x → b ≡ false → n ≡ u32_at s p → long ≡ 4 + 12 * n
    → out₁ ≡ sets out at (slice p (p + long) s) → waiting.WroteMembers out₁ (at + long + 4) ms out₂ most r → out₃ ≡ sets out₂ (at + long) (le32 r)
    → waiting.PutWait b (clock_at s p) ms most out at out₃ (record { long = long + 4 + 4 * r; count = 1; names = r })
unfolding wait_end_in clock_end_in
put_united s p x ms most out at b n long r out₁ out₂ out₃ bs h e en el f w g =
    let c = clock_at s p in
    let lc = length_clock_at s p in
    let ce : p + long ≡ clock_end s p = omega arith in
    let lr : long ≡ length (encode_clock c) = let k = length_clock c in omega arith in
    let cl : out₁ ≡ sets out at (encode_clock c) = f ∙ ap (sets out at) (ap (λ (k : ℕ). slice p k s) ce ∙ clock_copied s p bs h.inside) in
    put_some c ms most out at b (long + 4 + 4 * r) r out₃ e w.count w.few (omega arith)
    (g ∙ ap (λ (l : List ℕ). sets l (at + long) (le32 r)) (w.bytes ∙ ap (λ (j : ℕ). sets out₁ j (encode_members ms)) (ap (λ (j : ℕ). at + long + j) (sym (length_le32 r))))
    ∙ sets_before out₁ (at + long) (le32 r) (encode_members ms)
    ∙ rw (cl, lr, w.count) (sym (sets_append out at (encode_clock c) (le32 (length ms) ++ encode_members ms))))

pub whole_end : {s : List ℕ} {p : ℕ} {x : Part} → waiting.Whole s p x → p ≤ x.end
whole_end {s} {p} h = let e = h.end in let w = wait_end_is s p in omega arith

pub clock_inside : {s : List ℕ} {p : ℕ} {x : Part} {n : ℕ} → waiting.Whole s p x → n ≡ u32_at s p → p + 4 + 12 * n ≤ length s
unfolding wait_end_in clock_end_in
clock_inside h e = let i = h.inside in omega arith

pub names_inside : {s : List ℕ} {p : ℕ} {x : Part} → waiting.Whole s p x → x.names + 4 * x.count ≤ length s
unfolding wait_end_in
names_inside h = let n = h.names in let c = h.count in let i = h.inside in omega arith

-- the members of one side alone, or the same of both
pub only_left_named : (xs t : List ℕ) (q n : ℕ) → n ≡ 0 → Normal member_sets xs → xs ≡ both_sets xs (members_at t q n)
unfolding list_at
only_left_named xs t q n e h = rw e (sym (sets_left xs h))

pub only_right_named : (s : List ℕ) (p n : ℕ) (ys : List ℕ) → n ≡ 0 → Normal member_sets ys → ys ≡ both_sets (members_at s p n) ys
unfolding list_at
only_right_named s p n ys e h = rw e (sym (sets_right ys h))

pub same_named : (xs ys : List ℕ) → xs ≡ ys → Normal member_sets xs → xs ≡ both_sets xs ys
same_named xs ys e h = rw (← e) (sym (sets_same xs h))

-- the same members, at most as many
pub put_same : {b : Bool} {c : Clock} {ms ms' : List ℕ} {most most' : ℕ} {out : List ℕ} {at : ℕ} {out' : List ℕ} {r : Putting} → ms ≡ ms' → most ≤ most' → waiting.PutWait b c ms most out at out' r → waiting.PutWait b c ms' most' out at out' r
put_same {b} {c} {ms} {ms'} {most} {most'} {out} {at} {out'} {r} e h k =
    let w : waiting.PutWait b c ms most' out at out' r = record { count = k.count; long = k.long; names = k.names; short = let s = k.short in omega arith; bytes = k.bytes } in
    rw e at w

pub put_size : {b : Bool} {c : Clock} {ms : List ℕ} {most : ℕ} {out : List ℕ} {at : ℕ} {out' : List ℕ} {r : Putting} → waiting.PutWait b c ms most out at out' r → length out' ≡ length out
put_size {b} {c} {ms} {most} {out} {at} k = ap length k.bytes ∙ length-sets out at (encode_waits (cons? (waiting.wait_of b c ms) []))

pub put_one : {b : Bool} {c : Clock} {ms : List ℕ} {most : ℕ} {out : List ℕ} {at : ℕ} {out' : List ℕ} {r : Putting} → waiting.PutWait b c ms most out at out' r → r.count ≤ 1
put_one {b} {c} {ms} k = let e = k.count in let f = go b in omega arith
  where
    go : (b : Bool) → length (cons? (waiting.wait_of b c ms) []) ≤ 1
    go true = omega arith
    go false = omega arith

-- ---- one side

pub end_ge : (s : List ℕ) (p m : ℕ) → p ≤ waits_end_at s p m
unfolding end_after wait_end_in clock_end_in
end_ge s p zero = omega arith
end_ge s p (suc m) = let h = end_ge s (wait_end s p) m in omega arith

-- the clock of the first of them ends before they do
pub first_inside : (s : List ℕ) (p m : ℕ) {n : ℕ} → waits_end_at s p m ≤ n → 0 < m → clock_end s p ≤ n
unfolding end_after wait_end_in
first_inside s p zero h l = absurd (omega arith)
first_inside s p (suc m) h l = let k = end_ge s (wait_end s p) m in omega arith

pub part_none : (s : List ℕ) (p e n taken : ℕ) → n ≡ u32_at s p → e ≡ p + 4 + 12 * n → n < 4294967296 → p < 4294967296 → taken ≡ 0 → waiting.PartAt s p taken (record { start = p; names = e + 4; count = 0; end = p })
unfolding clock_end_in
part_none s p e n taken en ee l h t = rw t (record { start = refl; names = omega arith; count = refl; end = refl; small = omega arith })

pub part_some : (s : List ℕ) (p e n taken k : ℕ) → n ≡ u32_at s p → e ≡ p + 4 + 12 * n → n < 4294967296 → p < 4294967296 → (taken ≡ 0 → ⊥) → k ≡ u32_at s e → k < 4294967296
    → waiting.PartAt s p taken (record { start = p; names = e + 4; count = k; end = e + 4 + 4 * k })
unfolding clock_end_in wait_end_in
part_some s p e n taken k en ee l h t ek lk =
    let z : e ≡ p + (4 + 12 * u32_at s p) = omega arith in
    let y : k ≡ u32_at s (p + (4 + 12 * u32_at s p)) = ek ∙ ap (u32_at s) z in
    let n = ne_eqb taken 0 t in
    record { start = refl; names = omega arith; count = rw n y; end = rw n (omega arith); small = omega arith }

-- a side of which the next waiting remove is taken, or not
pub record WaitSide (s : List ℕ) (p m : ℕ) (b : Bool) (x : Part) : Type 0 where
  pub start : x.start ≡ p
  pub fits : pick b 1 0 ≤ m
  pub rows : waits_at s x.end (m - pick b 1 0) ≡ pick b (tail (waits_at s p m)) (waits_at s p m)
  pub edge : waits_end_at s x.end (m - pick b 1 0) ≡ waits_end_at s p m
  pub members : members_at s x.names x.count ≡ pick b (wait_at_place s p).members []
  pub long : x.end ≡ p + pick b (8 + 12 * u32_at s p + 4 * x.count) 0
  pub none_left : b ≡ false → x.count ≡ 0
  pub rise : Rise member_rows (members_at s x.names x.count)
  pub whole : b ≡ true → waiting.Whole s p x
  pub named : x.count ≤ 512

pub wait_side : (s : List ℕ) (p m : ℕ) (b : Bool) (x : Part) → waiting.PartAt s p (pick b 1 0) x → pick b 1 0 ≤ m → All waiting.Sound (waits_at s p m) → waits_end_at s p m ≤ length s → WaitSide s p m b x
unfolding list_at wait_in end_after
wait_side s p m false x h f g r =
    let y : m - 0 ≡ m = omega arith in
    let ec = h.count in
    record {
      start = h.start;
      fits = f;
      rows = rw (h.end, y);
      edge = rw (h.end, y);
      members = rw ec;
      long = h.end ∙ sym (add-zero p);
      none_left = λ e. ec;
      rise = rw ec tt;
      whole = λ e. absurd (false≢true e);
      named = omega arith;
    }
wait_side s p zero true x h f g r = absurd (omega arith)
wait_side s p (suc m) true x h f g r =
    let y : suc m - 1 ≡ m = omega arith in
    let mem : members_at s x.names x.count ≡ (wait_at_place s p).members = rw (h.names, h.count) in
    let we = wait_end_is s p in let ec = h.count in let ee = h.end in
    let few : x.count ≤ 512 = let l = length_list_at u32_at (λ s p. p + 4) s (clock_end s p + 4) (u32_at s (clock_end s p)) in let n = g.0.named in omega arith in
    record {
      start = h.start;
      fits = f;
      rows = rw (h.end, y);
      edge = rw (h.end, y);
      members = mem;
      long = omega arith;
      none_left = λ e. absurd (false≢true (sym e));
      rise = rw mem g.0.members_ok.asc;
      whole = λ e. record {
        few = rw (length_clock_at s p) at g.0.few;
        names = h.names;
        count = ec;
        end = ee;
        inside = let k = end_ge s (wait_end s p) m in omega arith;
        normal = rw mem g.0.members_ok;
        named = few;
      };
      named = few;
    }

-- ---- the turn

-- whether a turn takes the left row, and the right one
abbrev takes_left : Ordering → Bool
takes_left Ordering.lt = true
takes_left Ordering.eq = true
takes_left Ordering.gt = false

abbrev takes_right : Ordering → Bool
takes_right Ordering.lt = false
takes_right Ordering.eq = true
takes_right Ordering.gt = true

left_taken : (o : Ordering) → is_le (ordered o) ≡ takes_left o
left_taken Ordering.lt = refl
left_taken Ordering.eq = refl
left_taken Ordering.gt = refl

right_taken : (o : Ordering) → is_ge (ordered o) ≡ takes_right o
right_taken Ordering.lt = refl
right_taken Ordering.eq = refl
right_taken Ordering.gt = refl

-- how the code counts what a side takes
pub one_taken : (b : Bool) (i : ℕ) → i ≡ from_bool b → i ≡ pick b 1 0
one_taken true i e = e
one_taken false i e = e

left_rows : (o : Ordering) (xs : List Wait) → pick (takes_left o) (tail xs) xs ≡ left_after waits o xs
left_rows Ordering.lt xs = refl
left_rows Ordering.eq xs = refl
left_rows Ordering.gt xs = refl

right_rows : (o : Ordering) (ys : List Wait) → pick (takes_right o) (tail ys) ys ≡ right_after waits o ys
right_rows Ordering.lt ys = refl
right_rows Ordering.eq ys = refl
right_rows Ordering.gt ys = refl

left_members : (o : Ordering) (x : Wait) → pick (takes_left o) x.members [] ≡ next_left o x
left_members Ordering.lt x = refl
left_members Ordering.eq x = refl
left_members Ordering.gt x = refl

right_members : (o : Ordering) (y : Wait) → pick (takes_right o) y.members [] ≡ next_right o y
right_members Ordering.lt y = refl
right_members Ordering.eq y = refl
right_members Ordering.gt y = refl

next_clock_is : (o : Ordering) (x y : Wait) → waiting.of_side (ordered o) x.clock y.clock ≡ next_clock o x y
next_clock_is Ordering.lt x y = refl
next_clock_is Ordering.eq x y = refl
next_clock_is Ordering.gt x y = refl

-- a side that is taken has a row, since one of the two has
taken_left : (xs ys : List Wait) → 0 < length xs + length ys → pick (takes_left (turn_of waits xs ys)) 1 0 ≤ length xs
taken_left [] [] h = absurd (omega arith)
taken_left [] (y ∷ ys) h = omega arith
taken_left (x ∷ xs) [] h = omega arith
taken_left (x ∷ xs) (y ∷ ys) h = go (takes_left (turn_of waits (x ∷ xs) (y ∷ ys)))
  where
    go : (b : Bool) → pick b 1 0 ≤ suc (length xs)
    go true = omega arith
    go false = omega arith

taken_right : (xs ys : List Wait) → 0 < length xs + length ys → pick (takes_right (turn_of waits xs ys)) 1 0 ≤ length ys
taken_right [] [] h = absurd (omega arith)
taken_right [] (y ∷ ys) h = omega arith
taken_right (x ∷ xs) [] h = omega arith
taken_right (x ∷ xs) (y ∷ ys) h = go (takes_right (turn_of waits (x ∷ xs) (y ∷ ys)))
  where
    go : (b : Bool) → pick b 1 0 ≤ suc (length ys)
    go true = omega arith
    go false = omega arith

-- both sides of a turn
pub record Turned (s t : List ℕ) (w : Waits) (side : Order) (x y : Part) : Type 0 where
  pub o : Ordering
  pub turn : o ≡ turn_of waits (waits_at s w.p w.m) (waits_at t w.q w.k)
  pub is : side ≡ ordered o
  pub left : WaitSide s w.p w.m (takes_left o) x
  pub right : WaitSide t w.q w.k (takes_right o) y

pub turned : (s t : List ℕ) (w : Waits) (side : Order) (i j : ℕ) (x y : Part) → waiting.WaitsAhead s t w → side ≡ ordered (turn_of waits (waits_at s w.p w.m) (waits_at t w.q w.k))
    → i ≡ pick (is_le side) 1 0 → j ≡ pick (is_ge side) 1 0 → waiting.PartAt s w.p i x → waiting.PartAt t w.q j y → Turned s t w side x y
turned s t w side i j x y h e ei ej px py =
    let xs = waits_at s w.p w.m in
    let ys = waits_at t w.q w.k in
    let o = turn_of waits xs ys in
    let lx = length_list_at wait_at_place wait_end s w.p w.m in
    let ly = length_list_at wait_at_place wait_end t w.q w.k in
    let mo = h.more in
    let ti : i ≡ pick (takes_left o) 1 0 = ei ∙ ap (λ (b : Bool). pick b 1 0) (ap is_le e ∙ left_taken o) in
    let tj : j ≡ pick (takes_right o) 1 0 = ej ∙ ap (λ (b : Bool). pick b 1 0) (ap is_ge e ∙ right_taken o) in
    record {
      o = o;
      turn = refl;
      is = e;
      left = wait_side s w.p w.m (takes_left o) x (rw ti at px) (rw lx at (taken_left xs ys (omega arith))) h.left_sound h.left_inside;
      right = wait_side t w.q w.k (takes_right o) y (rw tj at py) (rw ly at (taken_right xs ys (omega arith))) h.right_sound h.right_inside;
    }

-- the numbers of a turn: which side has the clock, and how many bytes both take
-- both places are in 32 bits
pub starts_small : {s t : List ℕ} {w : Waits} → waiting.WaitsAhead s t w → (w.p < 4294967296) × (w.q < 4294967296)
starts_small {s} {t} {w} h = let a = end_ge s w.p w.m in let b = end_ge t w.q w.k in let ea = h.left_edge in let eb = h.right_edge in (omega arith, omega arith)

pub record Numbers (s t : List ℕ) (w : Waits) (side : Order) (i j : ℕ) (x y : Part) : Type 0 where
  pub left : (side ≡ Greater → ⊥) → waiting.Whole s x.start x
  pub right : (side ≡ Less → ⊥) → waiting.Whole t y.start y
  pub left_none : side ≡ Greater → x.count ≡ 0
  pub right_none : side ≡ Less → y.count ≡ 0
  pub left_fits : i ≤ w.m
  pub right_fits : j ≤ w.k
  pub moves : 0 < i + j
  pub clock_few : waiting.of_side side (u32_at s w.p) (u32_at t w.q) ≤ 16
  pub few : x.count + y.count ≤ 1024
  pub room : 8 + 12 * waiting.of_side side (u32_at s w.p) (u32_at t w.q) + 4 * (x.count + y.count) + (w.p + w.q) ≤ x.end + y.end

pub numbers : (s t : List ℕ) (w : Waits) (side : Order) (i j : ℕ) (x y : Part) → i ≡ pick (is_le side) 1 0 → j ≡ pick (is_ge side) 1 0 → Turned s t w side x y → Numbers s t w side i j x y
numbers s t w side i j x y ei ej d = go d.o d.is d.left d.right
  where
    go : (o : Ordering) → side ≡ ordered o → WaitSide s w.p w.m (takes_left o) x → WaitSide t w.q w.k (takes_right o) y → Numbers s t w side i j x y
    go Ordering.lt e l r =
        let li : i ≡ 1 = ei ∙ rw e in let lj : j ≡ 0 = ej ∙ rw e in
        let el = l.long in let er = r.long in let z = r.none_left refl in let fi = l.fits in let nl = l.named in let nr = r.named in let cf = (l.whole refl).few in
        record { clock_few = rw e cf; few = omega arith; left = λ n. subst (λ (p : ℕ). waiting.Whole s p x) (sym l.start) (l.whole refl); right = λ n. absurd (n e); left_none = λ n. absurd cc; right_none = λ n. z; left_fits = omega arith; right_fits = omega arith; moves = omega arith; room = rw e (omega arith) }
    go Ordering.eq e l r =
        let li : i ≡ 1 = ei ∙ rw e in let lj : j ≡ 1 = ej ∙ rw e in
        let el = l.long in let er = r.long in let fi = l.fits in let fj = r.fits in let nl = l.named in let nr = r.named in let cf = (l.whole refl).few in
        record { clock_few = rw e cf; few = omega arith; left = λ n. subst (λ (p : ℕ). waiting.Whole s p x) (sym l.start) (l.whole refl); right = λ n. subst (λ (q : ℕ). waiting.Whole t q y) (sym r.start) (r.whole refl); left_none = λ n. absurd cc; right_none = λ n. absurd cc; left_fits = omega arith; right_fits = omega arith; moves = omega arith; room = rw e (omega arith) }
    go Ordering.gt e l r =
        let li : i ≡ 0 = ei ∙ rw e in let lj : j ≡ 1 = ej ∙ rw e in
        let el = l.long in let er = r.long in let z = l.none_left refl in let fj = r.fits in let nl = l.named in let nr = r.named in let cf = (r.whole refl).few in
        record { clock_few = rw e cf; few = omega arith; left = λ n. absurd (n e); right = λ n. subst (λ (q : ℕ). waiting.Whole t q y) (sym r.start) (r.whole refl); left_none = λ n. z; right_none = λ n. absurd cc; left_fits = omega arith; right_fits = omega arith; moves = omega arith; room = rw e (omega arith) }

pub clock_length : (side : Order) (s t : List ℕ) (p q : ℕ) → length (waiting.of_side side (clock_at s p) (clock_at t q)) ≡ waiting.of_side side (u32_at s p) (u32_at t q)
clock_length Less s t p q = length_clock_at s p
clock_length Equal s t p q = length_clock_at s p
clock_length Greater s t p q = length_clock_at t q

wait_clock : (s : List ℕ) (p : ℕ) → (wait_at_place s p).clock ≡ clock_at s p
unfolding wait_in
wait_clock s p = refl

module _ (v : Clock) (s t out : List ℕ) (w : Waits) where
  pub merged_wait : (side : Order) (i j : ℕ) (x y : Part) (long count names most : ℕ) (out' : List ℕ) → i ≡ pick (is_le side) 1 0 → j ≡ pick (is_ge side) 1 0 → Turned s t w side x y
      → waiting.PutWait (cover_of v (waiting.of_side side (clock_at s x.start) (clock_at t y.start))) (waiting.of_side side (clock_at s x.start) (clock_at t y.start))
      (both_sets (members_at s x.names x.count) (members_at t y.names y.count)) (x.count + y.count) out w.at out' (record { long = long; count = count; names = names })
      → most ≡ max w.most names
      → waiting.MergedWait v s t out w out' (record { p = x.end; m = w.m - i; q = y.end; k = w.k - j; at = w.at + long; n = w.n + count; most = most })
  merged_wait side i j x y long count names most out' ei ej d k₀ em =
      let o = d.o in
      let k = rw (d.left.start, d.right.start) at k₀ in
      let nm = numbers s t w side i j x y ei ej d in
      let ti : i ≡ pick (takes_left o) 1 0 = ei ∙ ap (λ (b : Bool). pick b 1 0) (ap is_le d.is ∙ left_taken o) in
      let tj : j ≡ pick (takes_right o) 1 0 = ej ∙ ap (λ (b : Bool). pick b 1 0) (ap is_ge d.is ∙ right_taken o) in
      let ec : waiting.of_side side (clock_at s w.p) (clock_at t w.q) ≡ next_clock o (wait_at_place s w.p) (wait_at_place t w.q) =
      ap₂ (waiting.of_side side) (sym (wait_clock s w.p)) (sym (wait_clock t w.q)) ∙ ap (λ (k : Order). waiting.of_side k (wait_at_place s w.p).clock (wait_at_place t w.q).clock) d.is ∙ next_clock_is o (wait_at_place s w.p) (wait_at_place t w.q) in
      let ex = d.left.members ∙ left_members o (wait_at_place s w.p) in
      let ey = d.right.members ∙ right_members o (wait_at_place t w.q) in
      let sh = k.short in let lc = clock_length side s t w.p w.q in let rm = nm.room in
      let k' = rw (ec, ex, ey) at k in
      let fi = nm.left_fits in let fj = nm.right_fits in let mv = nm.moves in
      record {
        side = o;
        turn = d.turn;
        left = rw ti (d.left.rows ∙ left_rows o (waits_at s w.p w.m));
        right = rw tj (d.right.rows ∙ right_rows o (waits_at t w.q w.k));
        left_edge = rw ti d.left.edge;
        right_edge = rw tj d.right.edge;
        moves = omega arith;
        room = omega arith;
        count = ap (λ (n : ℕ). w.n + n) k'.count;
        ends = ap (λ (n : ℕ). w.at + n) k'.long;
        most = em ∙ ap (max w.most) k'.names;
        bytes = k'.bytes;
      }
