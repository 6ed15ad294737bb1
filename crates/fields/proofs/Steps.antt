-- One turn of a loop over things that stand in bytes one after the other, in the code's terms.
use Prim.Native.Nat.{ℕ, zero, suc, ◌+◌, ◌*◌, ◌≤◌, ◌<◌, min}
use mathlib.Core.Path.{◌≡◌, refl, sym, ap, ◌∙◌}
use mathlib.Core.List.{List, [], ◌∷◌, ◌++◌}
use native.Mathlib.Omega.{arith}
use native.Mathlib.Numerals.{add-one}
use lib.ListN.{length, set, take, drop, get_or, length-take, length-append, drop_of_length-le, get_or-eq_default}
use lib.Seq.{sets, drop-cons, set_out, take_all, length-take-le}
use Rattle.tables.specs.Stores.{sets_append}
use Rattle.tables.specs.Zip.{by_lt}
use Rattle.dots.specs.declared.Dot.{Dot}
use Rattle.dots.specs.Dot.{no_dot, actor_of}
use Rattle.dots.specs.Clock.{Clock}
use Rattle.layout.specs.Image.{contents}
use Rattle.layout.specs.Fields.{u32_at, le16, le32, le64}
use Rattle.layout.proofs.FieldsFacts.{length_le32, length_le64}
use Rattle.layout.specs.Lists.{list_at, bytes_of}
use Rattle.layout.specs.Clock.{dot_at, dots_at, encode_dot_in, encode_dots, encode_clock, encode_clock_in}
use Rattle.layout.specs.Rows.{encode_row, encode_row_in, encode_members}
use Rattle.layout.proofs.KitFacts.{length_encode_members}
use Rattle.fields.specs.Read.{clock_read, Put}

pub list_step : {R : Type 0} (here : List ℕ → ℕ → R) (end : List ℕ → ℕ → ℕ) (s : List ℕ) (p k j : ℕ) → k ≡ j + 1
    → list_at here end s p k ≡ here s p ∷ list_at here end s (end s p) j
unfolding list_at
list_step here end s p k j e = rw (e, add-one)

pub list_end : {R : Type 0} (here : List ℕ → ℕ → R) (end : List ℕ → ℕ → ℕ) (s : List ℕ) (p k : ℕ) → k ≤ 0 → list_at here end s p k ≡ []
unfolding list_at
list_end here end s p k h = let e : k ≡ 0 = omega arith in rw e

pub length_list : {R : Type 0} (here : List ℕ → ℕ → R) (end : List ℕ → ℕ → ℕ) (s : List ℕ) (p n : ℕ) → length (list_at here end s p n) ≡ n
unfolding list_at
length_list here end s p zero = refl
length_list here end s p (suc n) = ap suc (length_list here end s (end s p) n)

-- ---- past the end

pub u32_past : (s : List ℕ) (p : ℕ) → length s ≤ p → u32_at s p ≡ 0
unfolding u32_at
u32_past s p h =
    rw (get_or-eq_default s 0 {n = p} h, get_or-eq_default s 0 {n = p + 1} (omega arith), get_or-eq_default s 0 {n = p + 2} (omega arith), get_or-eq_default s 0 {n = p + 3} (omega arith))

pub read_past : (s : List ℕ) (p : ℕ) → length s ≤ p → clock_read s p ≡ []
unfolding clock_read list_at
read_past s p h = rw (u32_past s p h)

pub sets_past : (l : List ℕ) (p : ℕ) (vs : List ℕ) → length l ≤ p → sets l p vs ≡ l
sets_past l p [] h = refl
sets_past l p (v ∷ vs) h = rw (set_out l p v h) (sets_past l (suc p) vs (omega arith))

-- ---- loops that read and write dots

-- a dot is read and stored: what is left to store is one less
pub load_step : (ds : List Dot) (s : List ℕ) (p k j i : ℕ) (d : Dot) → k ≡ j + 1 → d ≡ dot_at s p → sets (set ds i d) (i + 1) (dots_at s (p + 12) j) ≡ sets ds i (dots_at s p k)
load_step ds s p k j i d e ed = rw (list_step dot_at (λ s p. p + 12) s p k j e, add-one, ed)

pub load_end : (ds : List Dot) (s : List ℕ) (p k i : ℕ) → k ≤ 0 → sets ds i (dots_at s p k) ≡ ds
load_end ds s p k i h = rw (list_end dot_at (λ s p. p + 12) s p k h)

pub length_dots_at : (s : List ℕ) (p n : ℕ) → length (dots_at s p n) ≡ n
length_dots_at s p n = length_list dot_at (λ s p. p + 12) s p n

-- a dot is written: what is left to write is one less
pub store_step : (s : List ℕ) (ds : List Dot) (p i : ℕ) (d : Dot) → i < length ds → d ≡ get_or ds i no_dot
    → sets (sets (sets s p (le32 (actor_of d))) (p + 4) (le64 d.counter)) (p + 12) (encode_dots (drop (i + 1) ds)) ≡ sets s p (encode_dots (drop i ds))
unfolding bytes_of encode_dot_in
store_step s ds p i d h e =
    rw (add-one, drop-cons ds i no_dot h, ← e, sets_append, sets_append, length-append, length_le32, length_le64)

pub store_end : (s : List ℕ) (ds : List Dot) (p i : ℕ) → length ds ≤ i → sets s p (encode_dots (drop i ds)) ≡ s
unfolding bytes_of
store_end s ds p i h = rw (drop_of_length-le ds h)

-- the count and then the dots are the clock
pub head_step : (s : List ℕ) (at : ℕ) (ds : List Dot) (n : ℕ) → length ds ≡ n → sets (sets s at (le32 n)) (at + 4) (encode_dots ds) ≡ sets s at (encode_clock ds)
unfolding encode_clock_in
head_step s at ds n e = rw (e, sets_append, length_le32)

length_encode_dots : (ds : List Dot) → length (encode_dots ds) ≡ 12 * length ds
unfolding bytes_of encode_dot_in
length_encode_dots [] = refl
length_encode_dots (d ∷ ds) = simp (length-append, length_le32, length_le64, length_encode_dots ds) (omega arith)

pub length_encode_clock : (ds : List Dot) → length (encode_clock ds) ≡ 4 + 12 * length ds
unfolding encode_clock_in
length_encode_clock ds = simp (length-append, length_le32, length_encode_dots)

-- the first 16 places are all
pub few_take : (ds : List Dot) (len n : ℕ) → length ds ≡ 16 → n ≡ min len 16 → take n ds ≡ take len ds
few_take ds len n h e = by_lt len 16
    (λ l. let q : n ≡ len = omega arith in rw q)
    (λ l. take_all n ds (omega arith) ∙ sym (take_all len ds (omega arith)))

module _ (s : List ℕ) (at len n : ℕ) (ds : List Dot) (h : length ds ≡ 16) (e : n ≡ min len 16) where
  pub put_long : 4 + 12 * n ≡ length (encode_clock (take len ds))
  put_long = rw (length_encode_clock (take len ds)) (simp length-take (omega arith))

  pub put_none : length s ≤ at → Put s at (encode_clock (take len ds)) s (4 + 12 * n)
  put_none past = record { long = put_long; is = sym (sets_past s at (encode_clock (take len ds)) past) }

  pub put_done : (t : List ℕ) → t ≡ sets (sets s at (le32 n)) (at + 4) (encode_dots (take n ds)) → Put s at (encode_clock (take len ds)) t (4 + 12 * n)
  put_done t w = record {
    long = put_long;
    is = w ∙ head_step s at (take n ds) n (length-take-le n ds (omega arith)) ∙ ap (λ (l : List Dot). sets s at (encode_clock l)) (few_take ds len n h e);
  }

  -- an entry: the member, then the clock
  pub row_none : (m : ℕ) → length s ≤ at → Put s at (encode_row (record { member = m; clock = take len ds })) s (8 + 12 * n)
  unfolding encode_row_in
  row_none m past = record { long = rw (length-append, length_le32) (omega (arith, put_long)); is = sym (sets_past s at (le32 m ++ encode_clock (take len ds)) past) }

pub row_done : (s t u : List ℕ) (at m r : ℕ) (c : Clock) → t ≡ sets s at (le32 m) → Put t (at + 4) (encode_clock c) u r → Put s at (encode_row (record { member = m; clock = c })) u (4 + r)
unfolding encode_row_in
row_done s t u at m r c e w = record { long = rw (length-append, length_le32) (ap (λ (k : ℕ). 4 + k) w.long); is = w.is ∙ rw (e, sets_append, length_le32) }

pub put_short : (l : List Dot) (len r : ℕ) → length l ≡ 16 → r ≡ length (encode_clock (take len l)) → r ≤ 196
put_short l len r h e = let k : length (take len l) ≤ 16 = simp length-take (omega arith) in omega (arith, length_encode_clock (take len l))

-- the version and the zero field are one 32-bit number
pub contents_are : (s a b c d e f : List ℕ) (total start count wstart wcount : ℕ) → a ≡ sets s 0 (le32 1) → b ≡ sets a 4 (le32 total) → c ≡ sets b 8 (le32 start)
    → d ≡ sets c 12 (le32 count) → e ≡ sets d 16 (le32 wstart) → f ≡ sets e 20 (le32 wcount) → f ≡ sets s 0 (contents total start count wstart wcount)
unfolding contents le16 le32
contents_are s a b c d e f total start count wstart wcount p q r t u v = rw (v, u, t, r, q, p)

-- ---- members after their count

pub member_step : (s ms : List ℕ) (p i : ℕ) → i < length ms
    → sets (sets s p (le32 (get_or ms i 0))) (p + 4) (encode_members (drop (i + 1) ms)) ≡ sets s p (encode_members (drop i ms))
unfolding bytes_of
member_step s ms p i h = rw (add-one, drop-cons ms i 0 h, sets_append, length_le32)

pub member_end : (s ms : List ℕ) (p i : ℕ) → length ms ≤ i → sets s p (encode_members (drop i ms)) ≡ s
unfolding bytes_of
member_end s ms p i h = rw (drop_of_length-le ms h)

module _ (ms : List ℕ) where
  members_long : 4 + 4 * length ms ≡ length (le32 (length ms) ++ encode_members ms)
  members_long = simp (length-append, length_le32, length_encode_members)

  pub members_none : (s : List ℕ) (at : ℕ) → length s ≤ at → Put s at (le32 (length ms) ++ encode_members ms) s (4 + 4 * length ms)
  members_none s at past = record { long = members_long; is = sym (sets_past s at (le32 (length ms) ++ encode_members ms) past) }

  pub members_done : (s t : List ℕ) (at : ℕ) → t ≡ sets (sets s at (le32 (length ms))) (at + 4) (encode_members ms) → Put s at (le32 (length ms) ++ encode_members ms) t (4 + 4 * length ms)
  members_done s t at w = record { long = members_long; is = w ∙ rw (sets_append, length_le32) }

-- ---- members, of which the first 64 are written

pub first_few : (ms : List ℕ) (n : ℕ) → n ≡ min (length ms) 64 → take n ms ≡ take 64 ms
first_few ms n e = by_lt (length ms) 64 (λ h. let f : n ≡ length ms = omega arith in rw (f, take_all (length ms) ms (omega arith), take_all 64 ms (omega arith))) (λ h. let f : n ≡ 64 = omega arith in rw f)

pub of_few : (ms s : List ℕ) (at : ℕ) (t : List ℕ) (r : ℕ) → length ms ≤ 64 → Put s at (le32 (length (take 64 ms)) ++ encode_members (take 64 ms)) t r → Put s at (le32 (length ms) ++ encode_members ms) t r
of_few ms s at t r h w = rw (take_all 64 ms h) at w
