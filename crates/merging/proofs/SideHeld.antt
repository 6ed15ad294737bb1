-- The bytes of what an operation brings say it, and it is held by what tells where it stands.
use Prim.Native.Nat.{ℕ, zero, suc, ◌+◌, ◌*◌, ◌^◌, ◌≤◌, ◌<◌, min, compare}
use mathlib.Core.Path.{◌≡◌, refl, sym, ap, ap₂, ◌∙◌, subst}
use mathlib.Core.List.{List, [], ◌∷◌, ◌++◌, map, append-nil}
use native.Mathlib.Omega.{arith}
use native.Mathlib.Nat.{zero-add}
use lib.ListN.{length, take, length-append, length-map, length-take}
use lib.Seq.{sets, take-take}
use Rattle.tables.specs.Stores.{sets_append}
use Rattle.tables.specs.Table.{All, Asc, Below, Normal, map_id}
use Rattle.tables.specs.Zip.{Rise}
use Rattle.dots.specs.Dot.{clocks}
use Rattle.dots.specs.Clock.{Clock}
use Rattle.clocks.specs.declared.VClock.{VClock}
use Rattle.clocks.specs.VClock.{dots_of}
use Rattle.replica.specs.Replica.{Entry, Wait, Replica, entry_rows}
use Rattle.layout.specs.Fields.{u32_at, le32}
use Rattle.layout.proofs.FieldsFacts.{length_le32}
use Rattle.layout.specs.Fits.{FitsClock, FitsRow, FitMembers, Fits}
use Rattle.layout.specs.Lists.{list_at, starts_at, bytes_of}
use Rattle.layout.specs.Clock.{narrow, clock_in, clock_end, encode_clock_in, encode_clock}
use Rattle.layout.specs.Rows.{row_in, row_at, row_end, rows_at, encode_rows, encode_wait, encode_waits, wait_in, wait_at_place, member_end}
use Rattle.layout.specs.Image.{contents, contents_of, rows_from, waits_from, length_of, encode_in, encode, image_in}
use Rattle.layout.proofs.Parts.{row_laws}
use Rattle.layout.proofs.Form.{length_list_at}
use Rattle.layout.proofs.KitFacts.{length_clock_at, length_encode_clock, length_encode_row, length_encode_wait}
use Rattle.layout.proofs.Round.{length_contents, length_encode}
use Rattle.fields.specs.Read.{clock_read, Put}
use Rattle.kills.specs.Lines.{members_of, wait_read, waits_of}
use Rattle.lists.specs.declared.Members.{Members}
use Rattle.lists.specs.Members.{list_of}
use Rattle.brought.specs.Brought.{counted_members}
use Rattle.brought.proofs.Steps.{wait_done}
use Rattle.changing.specs.Brought.{brought, brought_keys}
use Rattle.image.specs.declared.Image.{Image}
use Rattle.merging.specs.Side.{places_of, side_of, Brings}
use Rattle.merging.proofs.SideImage.{all_take, back, rows_count, waits_count_is, rows_start, waits_start, brings}

below_take : (k n : ℕ) (l : List ℕ) → Below compare k l → Below compare k (take n l)
below_take k zero l h = tt
below_take k (suc n) [] h = tt
below_take k (suc n) (x ∷ l) h = (h.0, below_take k n l h.1)

asc_take : (n : ℕ) (l : List ℕ) → Asc compare l → Asc compare (take n l)
asc_take zero l h = tt
asc_take (suc n) [] h = tt
asc_take (suc n) (x ∷ l) h = (below_take x n l h.0, asc_take n l h.1)

-- ---- what stands at the places

rows_long : (c : Clock) (ks : List ℕ) → (0 < length ks → length c ≡ 1) → length (encode_rows (brought c ks)) ≡ 20 * length ks
unfolding bytes_of
rows_long c [] one = refl
rows_long c (k ∷ ks) one =
    let e = one (omega arith) in
    let l = length_encode_row (record { member = k; clock = c }) in
    let r = rows_long c ks (λ h. e) in
    simp length-append (omega arith)

rows_fit : (c : Clock) (ks : List ℕ) → FitsClock c → FitMembers ks → All FitsRow (brought c ks)
rows_fit c [] f g = tt
rows_fit c (k ∷ ks) f g = ((g.0, f), rows_fit c ks f g.1)

members_at : (s : List ℕ) (c : Clock) (n p : ℕ) (ks : List ℕ) → (0 < n → length c ≡ 1) → rows_at s p n ≡ brought c ks → map (λ q. u32_at s q) (starts_at (λ s p. p + 20) [] p n) ≡ ks
unfolding list_at starts_at row_in
members_at s c zero p [] one e = refl
members_at s c zero p (k ∷ ks) one e = absurd (let l = ap length e in omega arith)
members_at s c (suc n) p [] one e = absurd (let l = ap length e in omega arith)
members_at s c (suc n) p (k ∷ ks) one e =
    let h : row_at s p ≡ record { member = k; clock = c } = cc in
    let t : rows_at s (row_end s p) n ≡ brought c ks = cc in
    let z : row_end s p ≡ p + 20 = let l = length_encode_row (row_at s p) in let r = row_laws.span s p in let y = ap (λ (x : Entry). length x.clock) h in let o = one (omega arith) in omega arith in
    ap₂ ◌∷◌ (ap (λ (x : Entry). x.member) h) (members_at s c n (p + 20) ks (λ l. one (omega arith)) (rw z at t))

read_wait : (s : List ℕ) (q : ℕ) (w : Wait) → wait_at_place s q ≡ w → length w.clock ≤ 16 → length w.members ≤ 64 → wait_read s q ≡ w
unfolding wait_read wait_in clock_read clock_in
read_wait s q w e few many =
    let n : length (wait_at_place s q).clock ≡ u32_at s q = length_clock_at s q in
    let k : length (wait_at_place s q).members ≡ u32_at s (clock_end s q) = length_list_at u32_at member_end s (clock_end s q + 4) (u32_at s (clock_end s q)) in
    let a : u32_at s q ≤ 16 = let y = ap (λ (x : Wait). length x.clock) e in omega arith in
    let b : u32_at s (clock_end s q) ≤ 64 = let y = ap (λ (x : Wait). length x.members) e in omega arith in
    let c : min (u32_at s q) 16 ≡ u32_at s q = omega arith in
    let d : min (u32_at s (clock_end s q)) 64 ≡ u32_at s (clock_end s q) = omega arith in
    rw (c, d) e

-- ---- the whole

in_turn_of : (s a b d e : List ℕ) (q : ℕ) → length a ≡ 24 → length b ≡ 4 → 28 + length d ≡ q → sets s 0 (a ++ (b ++ (d ++ e))) ≡ sets (sets (sets (sets s 0 a) 24 b) 28 d) q e
in_turn_of s a b d e q la lb ld =
    sets_append s 0 a (b ++ (d ++ e)) ∙ ap (λ (i : ℕ). sets (sets s 0 a) i (b ++ (d ++ e))) (zero-add (length a) ∙ la)
    ∙ sets_append (sets s 0 a) 24 b (d ++ e) ∙ ap (λ (i : ℕ). sets (sets (sets s 0 a) 24 b) (24 + i) (d ++ e)) lb
    ∙ sets_append (sets (sets s 0 a) 24 b) 28 d e ∙ ap (λ (i : ℕ). sets (sets (sets (sets s 0 a) 24 b) 28 d) i e) ld

module _ (c : VClock) (m : Members) (n : ℕ) (wide : length m.at ≡ 64) (long : length c.dots ≡ 16) (few : c.len ≤ 16) (many : m.len ≤ 64) (within : n ≤ m.len) (one : 0 < n → c.len ≡ 1) where
  abbrev B : Replica
  B = side_of c m n

  abbrev s : List ℕ
  s = encode B

  clock_len : length (dots_of c) ≡ c.len
  clock_len = simp length-take (omega arith)

  list_len : length (list_of m) ≡ m.len
  list_len = simp length-take (omega arith)

  rows_len : length (take n m.at) ≡ n
  rows_len = simp length-take (omega arith)

  entries_len : length B.entries ≡ n
  entries_len = simp length-map rows_len

  rows_end : length (encode_rows (brought (dots_of c) (take n m.at))) ≡ 20 * n
  rows_end = let k = clock_len in let l = rows_len in rows_long (dots_of c) (take n m.at) (λ h. let o = one (omega arith) in omega arith) ∙ ap (λ (i : ℕ). 20 * i) l

  wait_end_is : length (encode_waits B.waiting) ≡ 8 + 12 * c.len + 4 * m.len
  unfolding bytes_of
  wait_end_is = let k = clock_len in let l = list_len in let w = length_encode_wait (record { clock = dots_of c; members = list_of m }) in simp length-append (omega arith)

  from_rows : rows_from narrow B ≡ 28
  unfolding rows_from
  from_rows = let e = length_encode_clock [] in omega arith

  from_waits : waits_from narrow B ≡ 28 + 20 * n
  unfolding waits_from
  from_waits = let e = from_rows in let r = rows_end in omega arith

  whole : length_of narrow B ≡ 28 + 20 * n + 8 + 12 * c.len + 4 * m.len
  unfolding length_of
  whole = let e = from_waits in let r = wait_end_is in omega arith

  pub side_long : length (encode B) ≡ 36 + 20 * n + 12 * c.len + 4 * m.len
  side_long = length_encode narrow B ∙ whole ∙ omega arith

  contents_are : contents_of narrow B ≡ contents (28 + 20 * n + 8 + 12 * c.len + 4 * m.len) 28 n (28 + 20 * n) 1
  unfolding contents_of
  contents_are = λ i. contents (whole i) (from_rows i) (entries_len i) (from_waits i) 1

  pub side_bytes : (s₀ s₁ s₂ s₃ s₄ s₅ : List ℕ) (r k : ℕ)
      → s₁ ≡ sets s₀ 0 (contents (28 + 20 * n + 8 + 12 * c.len + 4 * m.len) 28 n (28 + 20 * n) 1) → s₂ ≡ sets s₁ 24 (le32 0) → s₃ ≡ sets s₂ 28 (encode_rows B.entries)
      → Put s₃ (28 + 20 * n) (encode_clock (dots_of c)) s₄ r → Put s₄ (28 + 20 * n + 4 + 12 * c.len) (counted_members m) s₅ k → s₅ ≡ sets s₀ 0 (encode B)
  unfolding encode_in encode_clock_in bytes_of
  side_bytes s₀ s₁ s₂ s₃ s₄ s₅ r k e₁ e₂ e₃ p q =
      let l : 28 + 20 * n + 4 + 12 * c.len ≡ 28 + 20 * n + r = let a = p.long in let b = length_encode_clock (dots_of c) in let d = clock_len in omega arith in
      let w : s₅ ≡ sets s₃ (28 + 20 * n) (encode_wait (record { clock = dots_of c; members = list_of m })) = (wait_done s₃ s₄ s₅ (28 + 20 * n) r k c m p (rw l at q)).is in
      w ∙ rw (e₃, e₂, e₁, append-nil (le32 0), append-nil (encode_wait (record { clock = dots_of c; members = list_of m })), contents_are)
      (sym (in_turn_of s₀ (contents (28 + 20 * n + 8 + 12 * c.len + 4 * m.len) 28 n (28 + 20 * n) 1) (le32 0) (encode_rows B.entries) (encode_wait (record { clock = dots_of c; members = list_of m })) (28 + 20 * n)
      (length_contents (28 + 20 * n + 8 + 12 * c.len + 4 * m.len) 28 n (28 + 20 * n) 1) (length_le32 0) (ap (λ (i : ℕ). 28 + i) rows_end)))

  module _ (fits : FitsClock (dots_of c)) (members_fit : FitMembers m.at) (asc : Asc compare (list_of m)) (normal : Normal clocks (dots_of c)) where
    fits_side : Fits B
    fits_side = record { clock_fits = tt; entries_fit = rows_fit (dots_of c) (take n m.at) fits (all_take (λ k. k < 2 ^ 32) n m.at members_fit); waiting_fit = ((fits, all_take (λ k. k < 2 ^ 32) m.len m.at members_fit), tt) }

    short : length_of narrow B < 65536
    short = let w = whole in omega arith

    rows_are : rows_at s 28 n ≡ B.entries
    unfolding image_in
    rows_are = rw (rows_start B fits_side short ∙ from_rows, rows_count B fits_side short ∙ entries_len) at (ap (λ (A : Replica). A.entries) (back B fits_side short))

    wait_is : wait_at_place s (28 + 20 * n) ≡ record { clock = dots_of c; members = list_of m }
    unfolding image_in list_at
    wait_is = let e : wait_at_place s (28 + 20 * n) ∷ [] ≡ B.waiting = rw (waits_start B fits_side short ∙ from_waits, waits_count_is B fits_side short) at (ap (λ (A : Replica). A.waiting) (back B fits_side short)) in cc

    rise : Rise entry_rows B.entries
    rise = rw (brought_keys (dots_of c) (take n m.at)) (subst (Asc compare) (take-take n m.len m.at within) (asc_take n (list_of m) asc))

    pub brings_side : (y : Image) → y.entries ≡ n → take n y.places ≡ places_of n → y.waits ≡ 1 → take 1 y.starts ≡ (28 + 20 * n) ∷ [] → Brings B s y
    unfolding members_of waits_of
    brings_side y en pn wn sn =
        brings B fits_side short (omega arith) (rw entries_len (omega arith)) rise (record { clock_asc = normal.asc; members_asc = rw map_id asc }, tt) y (en ∙ sym entries_len)
        (rw (en, pn) (members_at s (dots_of c) n 28 (take n m.at) (λ l. clock_len ∙ one l) rows_are ∙ sym (brought_keys (dots_of c) (take n m.at))))
        (rw (wn, sn) (ap (λ (w : Wait). w ∷ []) (read_wait s (28 + 20 * n) (record { clock = dots_of c; members = list_of m }) wait_is (let l = clock_len in omega arith) (let l = list_len in omega arith))))
