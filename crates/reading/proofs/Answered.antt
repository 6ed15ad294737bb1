-- What each call has found is what its definition answers.
use Prim.Native.Nat.{ℕ, ◌+◌, ◌*◌, ◌≤◌, ◌<◌, compare}
use mathlib.Core.Path.{◌≡◌, refl, sym, ap, ◌∙◌}
use mathlib.Core.Bool.{true, false}
use mathlib.Core.Option.{Option, none, some}
use mathlib.Core.List.{List, [], ◌∷◌, map}
use native.Mathlib.Omega.{arith}
use lib.Dec.{eqb}
use lib.ListN.{length, get_or, take, length-map}
use lib.Seq.{sets, get_or-take, length-take-le}
use borrow.Author.Tests.{lt-ltb, le-ltb}
use Rattle.tables.specs.Refusal.{first_of}
use Rattle.tables.specs.Table.{find, is_some}
use Rattle.clocks.specs.declared.VClock.{VClock}
use Rattle.clocks.specs.VClock.{vclock}
use Rattle.contexts.specs.declared.ReadCtx.{ReadCtx}
use Rattle.replica.specs.Replica.{Entry, clock_of, is_in}
use Rattle.replica.specs.Reads.{contains, read, read_ctx}
use Rattle.fields.specs.Read.{clock_read}
use Rattle.layout.specs.Fields.{u32_at}
use Rattle.layout.specs.Clock.{clock_at}
use Rattle.layout.specs.Rows.{row_in, row_at, encode_members}
use Rattle.layout.specs.Image.{image_of, good_image}
use Rattle.layout.proofs.KitFacts.{length_encode_members}
use Rattle.image.specs.declared.Image.{Image}
use Rattle.checked.proofs.Known.{Known}
use Rattle.std.specs.Prelude.{Some, None, Ok, Err}
use Rattle.dots.specs.declared.refusals.Refused.TheVariants.{BadImage, ShortOutput}
use Rattle.dots.specs.Answers.{answer, refusal}
use Rattle.std.specs.List.{position}
use Rattle.reading.specs.Calls.{twice, contains_call, read_ctx_call, members_read, read_number, members_answer, read_call, read_output, ReadMeets}
use Rattle.reading.proofs.Held.{seat_in, seat_out}

-- ---- a bad image

module _ (s : List ℕ) (bad : good_image s ≡ false) where
  pub bad_contains : (m : ℕ) → Err BadImage ≡ contains_call s m
  unfolding contains_call answer refusal first_of
  bad_contains m = rw bad

  pub bad_ctx : Err BadImage ≡ read_ctx_call s
  unfolding read_ctx_call answer refusal first_of
  bad_ctx = rw bad

  pub bad_read : (out : List ℕ) → ReadMeets s out (Err BadImage) out
  unfolding read_call read_output read_number members_answer answer refusal first_of
  bad_read out = record { answer = rw bad; output = rw bad }

-- ---- a good one

module _ (s : List ℕ) (x : Image) (k : Known s x) where
  pub good_ctx : Ok (twice x.clock) ≡ read_ctx_call s
  unfolding read_ctx_call answer first_of read_ctx
  good_ctx = rw (k.is_good, k.clock_is)

  -- by what is found among the entries
  by_entry : (m : ℕ) (o : Option Entry) → find compare (λ e. e.member) m (image_of s).entries ≡ o
      → Ok (record { add_clock = x.clock; rm_clock = vclock (clock_of o); answer = is_some o }) ≡ contains_call s m
  unfolding contains_call answer first_of contains is_in
  by_entry m o q = rw (k.is_good, k.clock_is, ← q)

  abbrev ps : List ℕ
  ps = take x.entries x.places

  counted : length ps ≡ x.entries
  counted = length-take-le x.entries x.places (omega (arith, k.few, k.long))

  pub taken_whole : x.entries ≡ length (take x.entries x.places)
  taken_whole = sym counted

  pub seat_inside : (m i : ℕ) → Some i ≡ position (λ p. eqb (u32_at s p) m) ps → i < length ps
  seat_inside m i e = (seat_in s m ps i (sym e)).0

  pub held : (m i p : ℕ) (rm : VClock) → Some i ≡ position (λ p. eqb (u32_at s p) m) ps → p ≡ get_or ps i 0 → rm ≡ vclock (clock_read s (p + 4))
      → Ok (record { add_clock = x.clock; rm_clock = rm; answer = true }) ≡ contains_call s m
  unfolding row_in
  held m i p rm e f g =
      let h = seat_in s m ps i (sym e) in
      let l : i < x.entries = omega (arith, h.0, counted) in
      let q : find compare (λ e. e.member) m (image_of s).entries ≡ some (row_at s p) =
      ap (find compare (λ e. e.member) m) (sym k.rows_are) ∙ h.1 ∙ ap (λ (y : ℕ). some (row_at s y)) (sym f) in
      let r : rm ≡ vclock (clock_at s (p + 4)) = g ∙ ap vclock (rw (f ∙ get_or-take x.entries x.places i 0 l) (k.clock_reads i l)) in
      rw r (by_entry m (some (row_at s p)) q)

  pub absent : (m : ℕ) (rm : VClock) → None ≡ position (λ p. eqb (u32_at s p) m) ps → rm ≡ vclock []
      → Ok (record { add_clock = x.clock; rm_clock = rm; answer = false }) ≡ contains_call s m
  absent m rm e g =
      let q : find compare (λ e. e.member) m (image_of s).entries ≡ none =
      ap (find compare (λ e. e.member) m) (sym k.rows_are) ∙ seat_out s m ps (sym e) in
      rw g (by_entry m none q)

  -- the members written are those read
  named : map (u32_at s) ps ≡ members_read s
  unfolding read row_in
  named = go ps ∙ ap (map (λ e. e.member)) k.rows_are
    where
      go : (qs : List ℕ) → map (u32_at s) qs ≡ map (λ e. e.member) (map (row_at s) qs)
      go [] = refl
      go (q ∷ qs) = ap (λ (y : List ℕ). u32_at s q ∷ y) (go qs)

  many : length (members_read s) ≡ x.entries
  many = ap length (sym named) ∙ length-map ps (u32_at s) ∙ counted

  size : length (encode_members (members_read s)) ≡ 4 * x.entries
  size = length_encode_members (members_read s) ∙ ap (λ (y : ℕ). 4 * y) many

  module _ (out : List ℕ) where
    pub read_short : length out < 4 * x.entries → ReadMeets s out (Err ShortOutput) out
    unfolding read_call read_output read_number members_answer answer refusal first_of
    read_short h = record { answer = rw (k.is_good, size, lt-ltb (length out) (4 * x.entries) h); output = rw (k.is_good, size, lt-ltb (length out) (4 * x.entries) h) }

    pub read_done : (c : ReadCtx) (after : List ℕ) → c ≡ twice x.clock → 4 * x.entries ≤ length out → after ≡ sets out 0 (encode_members (map (u32_at s) ps)) → ReadMeets s out (Ok (c, x.entries)) after
    unfolding read_call read_output read_number members_answer answer first_of read
    read_done c after g h e = record {
      answer = rw (k.is_good, size, le-ltb (length out) (4 * x.entries) h, g, k.clock_is, many);
      output = rw (k.is_good, size, le-ltb (length out) (4 * x.entries) h, e, named);
    }
