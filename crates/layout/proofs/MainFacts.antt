-- What is proved of specs/Main.antt.
use Rattle.std.specs.Prelude.{ℕ, ◌≤◌, ◌<◌, ◌^◌, ◌≡◌, refl, ◌↔◌, List, [], ◌∷◌, T, length}
use Rattle.std.proofs.Common.{sym, ap, ◌∙◌, arith}
use Rattle.std.proofs.Math.Option.{some}
use Rattle.tables.specs.Truth.{and_l, and_r, and_i}
use Rattle.dots.specs.Rising.{true_from}
use Rattle.replica.specs.Replica.{Replica}
use Rattle.replica.specs.Limits.{full, well_formed}
use Rattle.layout.specs.Fields.{Bytes, le16, le32, le64}
use Rattle.layout.specs.Lists.{bytes_of, end_after}
use Rattle.layout.specs.Clock.{narrow, encode_dot_in, encode_clock_in}
use Rattle.layout.specs.Rows.{encode_row_in}
use Rattle.layout.specs.Image.{contents, contents_of, rows_from, waits_from, length_of, encode_in, encode, readable, image_of, good_in, good_image, decode, entries_start, entries_count, waits_start_at, waits_count}
use Rattle.layout.specs.Fits.{Fits}
use Rattle.layout.specs.Good.{checks}
use Rattle.layout.proofs.Form.{span_list}
use Rattle.layout.proofs.KitFacts.{place_inside}
use Rattle.layout.proofs.Parts.{sound_narrow, row_form, wait_form, row_laws, wait_laws}
use Rattle.layout.proofs.Round.{readable_from, readable_to, length_encode, bytes_encode, rewritten, fits_image, read_back, readable_encode}
use Rattle.layout.proofs.FormedFacts.{formed_from}
use Rattle.layout.proofs.Checks.{checks_is}
use Rattle.layout.proofs.Longest.{longest, longest_full}
use Rattle.layout.specs.Main.{empty_replica, E, Inside}

-- ---- the lengths

-- "Longest: 24 + 196 + 64 × 200 + 16 × 328 = 18,268."
pub at_most : (r : Replica) → T (well_formed full r) → length (encode r) ≤ 18268
at_most r w = let h = longest full r (formed_from full r w) in let e = longest_full in omega arith

small : (r : Replica) → T (well_formed full r) → length_of narrow r < 2 ^ 32
small r w = let h = at_most r w in let e = length_encode narrow r in omega arith

-- "the empty replica is 28 bytes"
pub empty_length : length (encode empty_replica) ≡ 28
unfolding encode_in contents_of contents encode_clock_in bytes_of le16 le32
empty_length = refl

-- "Without waiting removes their start is the total length"
pub no_waits : (b : List ℕ) → T (readable b) → waits_count b ≡ 0 → waits_start_at b ≡ length b
unfolding end_after
no_waits b t z = let h = readable_from narrow b t in sym (rw z at h.end_ok)

pub E_bytes : encode E ≡
    0x01 ∷ 0x00 ∷ 0x00 ∷ 0x00
    ∷ 0x3_c ∷ 0x00 ∷ 0x00 ∷ 0x00
    ∷ 0x28 ∷ 0x00 ∷ 0x00 ∷ 0x00
    ∷ 0x01 ∷ 0x00 ∷ 0x00 ∷ 0x00
    ∷ 0x3_c ∷ 0x00 ∷ 0x00 ∷ 0x00
    ∷ 0x00 ∷ 0x00 ∷ 0x00 ∷ 0x00
    ∷ 0x01 ∷ 0x00 ∷ 0x00 ∷ 0x00
    ∷ 0x01 ∷ 0x00 ∷ 0x00 ∷ 0x00
    ∷ 0x01 ∷ 0x00 ∷ 0x00 ∷ 0x00 ∷ 0x00 ∷ 0x00 ∷ 0x00 ∷ 0x00
    ∷ 0x05 ∷ 0x00 ∷ 0x00 ∷ 0x00
    ∷ 0x01 ∷ 0x00 ∷ 0x00 ∷ 0x00
    ∷ 0x01 ∷ 0x00 ∷ 0x00 ∷ 0x00
    ∷ 0x01 ∷ 0x00 ∷ 0x00 ∷ 0x00 ∷ 0x00 ∷ 0x00 ∷ 0x00 ∷ 0x00
    ∷ []
unfolding encode_in contents_of contents encode_clock_in bytes_of le16 le32 length_of rows_from waits_from encode_dot_in le64 encode_row_in
E_bytes = refl

-- ---- the round trip

-- what is written of a well-formed replica is accepted, and says that replica
pub good_encode : (r : Replica) → T (well_formed full r) → Fits r → T (good_image (encode r))
unfolding good_in
good_encode r w f = and_i (readable (encode r)) (well_formed full (image_of (encode r)))
    (readable_to narrow (encode r) (readable_encode narrow sound_narrow r f (small r w)))
    (rw (read_back narrow sound_narrow r f (small r w)) w)

pub image_encode : (r : Replica) → T (well_formed full r) → Fits r → image_of (encode r) ≡ r
image_encode r w f = read_back narrow sound_narrow r f (small r w)

pub decode_encode : (r : Replica) → T (well_formed full r) → Fits r → decode (encode r) ≡ some r
unfolding decode
decode_encode r w f = rw (true_from (good_image (encode r)) (good_encode r w f)) (ap some (image_encode r w f))

-- bytes that can be read, and so bytes that are accepted, are the writing of what they say
pub encode_image : (b : List ℕ) → Bytes b → T (readable b) → encode (image_of b) ≡ b
encode_image b y t = rewritten narrow sound_narrow b (readable_from narrow b t) y

pub encode_good : (b : List ℕ) → Bytes b → T (good_image b) → encode (image_of b) ≡ b
unfolding good_in
encode_good b y t = encode_image b y (and_l (readable b) (well_formed full (image_of b)) t)

-- what accepted bytes say is well-formed, and its numbers fit
pub good_formed : (b : List ℕ) → T (good_image b) → T (well_formed full (image_of b))
unfolding good_in
good_formed b t = and_r (readable b) (well_formed full (image_of b)) t

pub good_fits : (b : List ℕ) → Bytes b → T (good_image b) → Fits (image_of b)
unfolding good_in
good_fits b y t = fits_image narrow sound_narrow b (readable_from narrow b (and_l (readable b) (well_formed full (image_of b)) t)) y

-- exactly the images of well-formed replicas are accepted
pub accepted : (b : List ℕ) → (Bytes b × T (good_image b)) ↔ ((r : Replica) × T (well_formed full r) × Fits r × (b ≡ encode r))
accepted b = (
  λ h. (image_of b, good_formed b h.1, good_fits b h.0 h.1, sym (encode_good b h.0 h.1)),
  λ h. (rw h.3 (bytes_encode narrow sound_narrow h.0), rw h.3 (good_encode h.0 h.1 h.2)),
)

-- two replicas with the same image are the same
pub encode_once : (q r : Replica) → T (well_formed full q) → Fits q → T (well_formed full r) → Fits r → encode q ≡ encode r → q ≡ r
encode_once q r wq fq wr fr e = sym (image_encode q wq fq) ∙ ap image_of e ∙ image_encode r wr fr

-- no accepted bytes are longer than the longest
pub good_length : (b : List ℕ) → Bytes b → T (good_image b) → length b ≤ 18268
good_length b y t = let h = at_most (image_of b) (good_formed b t) in rw (encode_good b y t) at h

pub inside : (b : List ℕ) → T (readable b) → Inside b
inside b t =
    let h = readable_from narrow b t in
    let e = span_list (row_form narrow) row_laws b (entries_start b) (entries_count b) in
    let w = span_list (wait_form narrow) wait_laws b (waits_start_at b) (waits_count b) in
    record {
      clock_inside = omega arith;
      row_inside = λ i k. let p = place_inside (row_form narrow) row_laws b (entries_start b) (entries_count b) i k in omega arith;
      wait_inside = λ i k. let p = place_inside (wait_form narrow) wait_laws b (waits_start_at b) (waits_count b) i k in omega arith;
    }

-- ---- the check in one pass

pub checked : (b : List ℕ) → good_image b ≡ checks b
checked = checks_is narrow full sound_narrow
