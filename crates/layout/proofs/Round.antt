-- The round trip of a whole image, over the width of an actor: bytes that can be read are the writing of what they say, and what is
-- written can be read and says what was written. Neither asks for well-formed values.
use Rattle.std.specs.Prelude.{◌≡◌, ℕ, ◌+◌, ◌^◌, ◌≤◌, ◌<◌, T, eqb}
use Rattle.std.proofs.Math.Path.{sym, ap, ap₂}
use Rattle.std.proofs.Common.{◌∙◌, arith, leb→le, eqb→eq, le→leb, eq-eqb, length-append}
use mathlib.Core.List.{List, ◌++◌}
use Rattle.std.proofs.Math.ListN.{length}
use Rattle.tables.specs.Table.{alls_from, alls_to}
use Rattle.dots.specs.Clock.{Clock}
use Rattle.replica.specs.Replica.{Entry, Wait, Replica}
use Rattle.layout.specs.Fields.{Bytes, le16, le32}
use Rattle.layout.proofs.FieldsFacts.{length_le16, length_le32}
use Rattle.layout.specs.Lists.{list_at, end_after, bytes_of}
use Rattle.layout.specs.Clock.{Width, clock_in, clock_end_in, encode_clock_in}
use Rattle.layout.specs.Rows.{row_in, row_end_in, encode_row_in, wait_in, wait_end_in, encode_wait_in}
use Rattle.layout.specs.Image.{version, zero_field, total_length, entries_start, entries_count, waits_start_at, waits_count, contents, contents_of, rows_from, waits_from, length_of, encode_in, readable_in, image_in}
use Rattle.layout.specs.Fits.{FitsIn}
use Rattle.layout.proofs.Held.{Holds, holds_join, holds_left, holds_right, holds_self, holds_all, holds_le16, reads_le16, bytes_le16, holds_le32, reads_le32, bytes_le32, bytes_append}
use Rattle.layout.proofs.Form.{length_list_at, span_list, stands_list, back_list, fits_list, bytes_list, few_list}
use Rattle.layout.proofs.Parts.{Sound, row_form, wait_form, faithful_clock, faithful_row, faithful_wait}

-- ---- the contents

pub length_contents : (t a m b n : ℕ) → length (contents t a m b n) ≡ 24
unfolding contents
length_contents t a m b n = simp (length-append, length_le16, length_le32)

-- what the contents of s say
pub record Says (s : List ℕ) (t a m b n : ℕ) : Type 0 where
  pub version_is : version s ≡ 1
  pub zero_is : zero_field s ≡ 0
  pub total_is : total_length s ≡ t
  pub start_is : entries_start s ≡ a
  pub count_is : entries_count s ≡ m
  pub waits_start_is : waits_start_at s ≡ b
  pub waits_count_is : waits_count s ≡ n

-- the contents stand where they are read
holds_contents : (s : List ℕ) → Bytes s → 24 ≤ length s → version s ≡ 1 → zero_field s ≡ 0
    → Holds s 0 (contents (total_length s) (entries_start s) (entries_count s) (waits_start_at s) (waits_count s))
unfolding contents
holds_contents s b h v z =
    let r20 = le32 (waits_count s) in
    let r16 = le32 (waits_start_at s) ++ r20 in
    let r12 = le32 (entries_count s) ++ r16 in
    let r8 = le32 (entries_start s) ++ r12 in
    let r4 = le32 (total_length s) ++ r8 in
    let r2 = le16 0 ++ r4 in
    let h0 : Holds s 0 (le16 1) = rw v at (holds_le16 s 0 b (omega arith)) in
    let h2 : Holds s 2 (le16 0) = rw z at (holds_le16 s 2 b (omega arith)) in
    let j16 : Holds s 16 r16 = holds_join s 16 (le32 (waits_start_at s)) r20 (holds_le32 s 16 b (omega arith)) (rw length_le32 (holds_le32 s 20 b (omega arith))) in
    let j12 : Holds s 12 r12 = holds_join s 12 (le32 (entries_count s)) r16 (holds_le32 s 12 b (omega arith)) (rw length_le32 j16) in
    let j8 : Holds s 8 r8 = holds_join s 8 (le32 (entries_start s)) r12 (holds_le32 s 8 b (omega arith)) (rw length_le32 j12) in
    let j4 : Holds s 4 r4 = holds_join s 4 (le32 (total_length s)) r8 (holds_le32 s 4 b (omega arith)) (rw length_le32 j8) in
    let j2 : Holds s 2 r2 = holds_join s 2 (le16 0) r4 h2 (rw length_le16 j4) in
    holds_join s 0 (le16 1) r2 h0 (rw length_le16 j2)

module _ (s : List ℕ) (t a m b n : ℕ) where
  says_contents : t < 2 ^ 32 → a < 2 ^ 32 → m < 2 ^ 32 → b < 2 ^ 32 → n < 2 ^ 32 → Holds s 0 (contents t a m b n) → Says s t a m b n
  unfolding contents
  says_contents ft fa fm fb fn h =
      let rn = le32 n in
      let rb = le32 b ++ rn in
      let rm = le32 m ++ rb in
      let ra = le32 a ++ rm in
      let rt = le32 t ++ ra in
      let rz = le16 0 ++ rt in
      let h2 : Holds s 2 rz = rw length_le16 at (holds_right s 0 (le16 1) rz h) in
      let h4 : Holds s 4 rt = rw length_le16 at (holds_right s 2 (le16 0) rt h2) in
      let h8 : Holds s 8 ra = rw length_le32 at (holds_right s 4 (le32 t) ra h4) in
      let h12 : Holds s 12 rm = rw length_le32 at (holds_right s 8 (le32 a) rm h8) in
      let h16 : Holds s 16 rb = rw length_le32 at (holds_right s 12 (le32 m) rb h12) in
      let h20 : Holds s 20 rn = rw length_le32 at (holds_right s 16 (le32 b) rn h16) in
      record {
        version_is = reads_le16 s 0 1 (omega arith) (holds_left s 0 (le16 1) rz h);
        zero_is = reads_le16 s 2 0 (omega arith) (holds_left s 2 (le16 0) rt h2);
        total_is = reads_le32 s 4 t ft (holds_left s 4 (le32 t) ra h4);
        start_is = reads_le32 s 8 a fa (holds_left s 8 (le32 a) rm h8);
        count_is = reads_le32 s 12 m fm (holds_left s 12 (le32 m) rb h12);
        waits_start_is = reads_le32 s 16 b fb (holds_left s 16 (le32 b) rn h16);
        waits_count_is = reads_le32 s 20 n fn h20;
      }

bytes_contents : (t a m b n : ℕ) → Bytes (contents t a m b n)
unfolding contents
bytes_contents t a m b n =
    bytes_append (le16 1) _ (bytes_le16 1) (bytes_append (le16 0) _ (bytes_le16 0) (bytes_append (le32 t) _ (bytes_le32 t) (bytes_append (le32 a) _ (bytes_le32 a)
    (bytes_append (le32 m) _ (bytes_le32 m) (bytes_append (le32 b) (le32 n) (bytes_le32 b) (bytes_le32 n))))))

-- ---- what it says of bytes that they can be read

pub record Readable (A : Width) (s : List ℕ) : Type 0 where
  pub long : 24 ≤ length s
  pub version_ok : version s ≡ 1
  pub zero_ok : zero_field s ≡ 0
  pub total_ok : total_length s ≡ length s
  pub start_ok : entries_start s ≡ clock_end_in A s 24
  pub waits_start_ok : waits_start_at s ≡ end_after (row_end_in A) s (entries_start s) (entries_count s)
  pub end_ok : length s ≡ end_after (wait_end_in A) s (waits_start_at s) (waits_count s)

pub same : (m n : ℕ) → m ≡ n → T (eqb m n)
same m n e = rw (eq-eqb m n e) tt

pub readable_from : (A : Width) (s : List ℕ) → T (readable_in A s) → Readable A s
unfolding readable_in
readable_from A s t =
    let h = alls_from _ t in
    record {
      long = leb→le 24 (length s) h.0;
      version_ok = eqb→eq (version s) 1 h.1.0;
      zero_ok = eqb→eq (zero_field s) 0 h.1.1.0;
      total_ok = eqb→eq (total_length s) (length s) h.1.1.1.0;
      start_ok = eqb→eq (entries_start s) (clock_end_in A s 24) h.1.1.1.1.0;
      waits_start_ok = eqb→eq (waits_start_at s) (end_after (row_end_in A) s (entries_start s) (entries_count s)) h.1.1.1.1.1.0;
      end_ok = eqb→eq (length s) (end_after (wait_end_in A) s (waits_start_at s) (waits_count s)) h.1.1.1.1.1.1.0;
    }

pub readable_to : (A : Width) (s : List ℕ) → Readable A s → T (readable_in A s)
unfolding readable_in
readable_to A s h = alls_to _ (
  le→leb 24 (length s) h.long,
  (
    same (version s) 1 h.version_ok,
    (
      same (zero_field s) 0 h.zero_ok,
      (
        same (total_length s) (length s) h.total_ok,
        (
          same (entries_start s) (clock_end_in A s 24) h.start_ok,
          (
            same (waits_start_at s) (end_after (row_end_in A) s (entries_start s) (entries_count s)) h.waits_start_ok,
            (same (length s) (end_after (wait_end_in A) s (waits_start_at s) (waits_count s)) h.end_ok, tt),
          ),
        ),
      ),
    ),
  ),
)

-- ---- the whole

module _ (A : Width) where
  length_head : (r : Replica) → length (contents_of A r) ≡ 24
  unfolding contents_of
  length_head r = length_contents (length_of A r) (rows_from A r) (length r.entries) (waits_from A r) (length r.waiting)

  pub length_encode : (r : Replica) → length (encode_in A r) ≡ length_of A r
  unfolding encode_in contents_of length_of waits_from rows_from
  length_encode r = simp (length-append, length_contents) (omega arith)

module _ (A : Width) (W : Sound A) where
  abbrev vs : Replica → List ℕ
  vs r = encode_clock_in A r.clock

  abbrev es : Replica → List ℕ
  es r = bytes_of (encode_row_in A) r.entries

  abbrev ws : Replica → List ℕ
  ws r = bytes_of (encode_wait_in A) r.waiting

  bytes_head : (r : Replica) → Bytes (contents_of A r)
  unfolding contents_of
  bytes_head r = bytes_contents (length_of A r) (rows_from A r) (length r.entries) (waits_from A r) (length r.waiting)

  pub bytes_encode : (r : Replica) → Bytes (encode_in A r)
  unfolding encode_in
  bytes_encode r =
      bytes_append (contents_of A r) _ (bytes_head r)
      (bytes_append (vs r) _ ((faithful_clock A W).bytes r.clock)
      (bytes_append (es r) (ws r) (bytes_list (row_form A) (faithful_row A W) r.entries) (bytes_list (wait_form A) (faithful_wait A W) r.waiting)))

  -- where the parts of what the bytes say stand
  module _ (s : List ℕ) (h : Readable A s) where
    from_rows : rows_from A (image_in A s) ≡ entries_start s
    unfolding rows_from image_in
    from_rows = sym (h.start_ok ∙ (faithful_clock A W).span s 24)

    from_waits : waits_from A (image_in A s) ≡ waits_start_at s
    unfolding waits_from image_in
    from_waits = ap (λ (n : ℕ). n + length (es (image_in A s))) from_rows ∙ sym (h.waits_start_ok ∙ span_list (row_form A) (faithful_row A W) s (entries_start s) (entries_count s))

    to_end : length_of A (image_in A s) ≡ length s
    unfolding length_of image_in
    to_end = ap (λ (n : ℕ). n + length (ws (image_in A s))) from_waits ∙ sym (h.end_ok ∙ span_list (wait_form A) (faithful_wait A W) s (waits_start_at s) (waits_count s))

    said : contents_of A (image_in A s) ≡ contents (total_length s) (entries_start s) (entries_count s) (waits_start_at s) (waits_count s)
    unfolding contents_of image_in
    said = rw (to_end ∙ sym h.total_ok, from_rows, from_waits, length_list_at (row_in A) (row_end_in A) s (entries_start s) (entries_count s), length_list_at (wait_in A) (wait_end_in A) s (waits_start_at s) (waits_count s))

    stood : Bytes s → Holds s 0 (encode_in A (image_in A s))
    unfolding encode_in image_in
    stood b =
        let v = encode_clock_in A (clock_in A s 24) in
        let e = es (image_in A s) in
        let w = ws (image_in A s) in
        let lv : clock_end_in A s 24 ≡ 24 + length v = (faithful_clock A W).span s 24 in
        let le = span_list (row_form A) (faithful_row A W) s (entries_start s) (entries_count s) in
        let lw = span_list (wait_form A) (faithful_wait A W) s (waits_start_at s) (waits_count s) in
        let sv : Holds s 24 v = (faithful_clock A W).stands s 24 b (omega arith) in
        let se : Holds s (24 + length v) e = rw (← lv, ← h.start_ok) (stands_list (row_form A) (faithful_row A W) s (entries_start s) (entries_count s) b (omega arith)) in
        let sw : Holds s (24 + length v + length e) w = rw (← lv, ← h.start_ok, ← le, ← h.waits_start_ok) (stands_list (wait_form A) (faithful_wait A W) s (waits_start_at s) (waits_count s) b (omega arith)) in
        rw said (holds_join s 0 (contents (total_length s) (entries_start s) (entries_count s) (waits_start_at s) (waits_count s)) (v ++ (e ++ w))
        (holds_contents s b h.long h.version_ok h.zero_ok)
        (rw length_contents (holds_join s 24 v (e ++ w) sv (holds_join s (24 + length v) e w se sw))))

    -- bytes that can be read are the writing of what they say
    pub rewritten : Bytes s → encode_in A (image_in A s) ≡ s
    rewritten b = holds_all s (encode_in A (image_in A s)) (stood b) (length_encode A (image_in A s) ∙ to_end)

    -- and the numbers that they say fit
    pub fits_image : Bytes s → FitsIn A (image_in A s)
    unfolding image_in
    fits_image b = record {
      clock_fits = (faithful_clock A W).fits s 24 b;
      entries_fit = fits_list (row_form A) (faithful_row A W) s (entries_start s) (entries_count s) b;
      waiting_fit = fits_list (wait_form A) (faithful_wait A W) s (waits_start_at s) (waits_count s) b;
    }

  -- what is written can be read, and says what was written
  module _ (r : Replica) (f : FitsIn A r) (small : length_of A r < 2 ^ 32) where
    few : length (encode_in A r) < 2 ^ 32
    few = rw length_encode small

    parts : Holds (encode_in A r) 0 (contents_of A r ++ (vs r ++ (es r ++ ws r)))
    unfolding encode_in
    parts = holds_self (encode_in A r)

    bodies : Holds (encode_in A r) 24 (vs r ++ (es r ++ ws r))
    bodies = rw length_head at (holds_right (encode_in A r) 0 (contents_of A r) (vs r ++ (es r ++ ws r)) parts)

    says : Says (encode_in A r) (length_of A r) (rows_from A r) (length r.entries) (waits_from A r) (length r.waiting)
    unfolding contents_of length_of waits_from
    says =
        let m = few_list (row_form A) (faithful_row A W) r.entries in
        let n = few_list (wait_form A) (faithful_wait A W) r.waiting in
        says_contents (encode_in A r) (length_of A r) (rows_from A r) (length r.entries) (waits_from A r) (length r.waiting) small (omega arith) (omega arith) (omega arith) (omega arith)
        (holds_left (encode_in A r) 0 (contents_of A r) (vs r ++ (es r ++ ws r)) parts)

    clock_back : clock_in A (encode_in A r) 24 ≡ r.clock
    clock_back = (faithful_clock A W).back (encode_in A r) 24 r.clock few f.clock_fits (holds_left (encode_in A r) 24 (vs r) (es r ++ ws r) bodies)

    entries_back : list_at (row_in A) (row_end_in A) (encode_in A r) (entries_start (encode_in A r)) (entries_count (encode_in A r)) ≡ r.entries
    unfolding rows_from
    entries_back =
        rw (says.start_is, says.count_is)
        (back_list (row_form A) (faithful_row A W) (encode_in A r) (rows_from A r) r.entries few f.entries_fit
        (holds_left (encode_in A r) (rows_from A r) (es r) (ws r) (holds_right (encode_in A r) 24 (vs r) (es r ++ ws r) bodies)))

    waiting_back : list_at (wait_in A) (wait_end_in A) (encode_in A r) (waits_start_at (encode_in A r)) (waits_count (encode_in A r)) ≡ r.waiting
    unfolding waits_from rows_from
    waiting_back =
        rw (says.waits_start_is, says.waits_count_is)
        (back_list (wait_form A) (faithful_wait A W) (encode_in A r) (waits_from A r) r.waiting few f.waiting_fit
        (holds_right (encode_in A r) (rows_from A r) (es r) (ws r) (holds_right (encode_in A r) 24 (vs r) (es r ++ ws r) bodies)))

    pub read_back : image_in A (encode_in A r) ≡ r
    unfolding image_in
    read_back = λ i. record { clock = clock_back i; entries = entries_back i; waiting = waiting_back i }

    pub readable_encode : Readable A (encode_in A r)
    unfolding length_of waits_from rows_from
    readable_encode =
        let e = span_list (row_form A) (faithful_row A W) (encode_in A r) (entries_start (encode_in A r)) (entries_count (encode_in A r)) in
        let w = span_list (wait_form A) (faithful_wait A W) (encode_in A r) (waits_start_at (encode_in A r)) (waits_count (encode_in A r)) in
        let l = length_encode A r in
        record {
          long = omega arith;
          version_ok = says.version_is;
          zero_ok = says.zero_is;
          total_ok = says.total_is ∙ sym (length_encode A r);
          start_ok = says.start_is ∙ sym ((faithful_clock A W).span (encode_in A r) 24 ∙ ap (λ (c : Clock). 24 + length (encode_clock_in A c)) clock_back);
          waits_start_ok = says.waits_start_is ∙ sym (e ∙ ap₂ (λ (p : ℕ) (l : List Entry). p + length (bytes_of (encode_row_in A) l)) says.start_is entries_back);
          end_ok = length_encode A r ∙ sym (w ∙ ap₂ (λ (p : ℕ) (l : List Wait). p + length (bytes_of (encode_wait_in A) l)) says.waits_start_is waiting_back);
        }
