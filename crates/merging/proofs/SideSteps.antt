-- A second side in bytes: one turn of the loop that writes its entries, and what its image is.
use Prim.Native.Nat.{ℕ, zero, suc, ◌+◌, ◌*◌, ◌≤◌, ◌<◌}
use mathlib.Core.Path.{◌≡◌, refl, sym, ap, ap₂, ◌∙◌}
use mathlib.Core.List.{List, [], ◌∷◌, ◌++◌, append-nil}
use native.Mathlib.Omega.{arith}
use native.Mathlib.Numerals.{add-one}
use lib.ListN.{length, take, drop, set, get_or, length-take, drop_of_length-le}
use lib.Seq.{sets, slice-cons, length-sets, take-suc-set}
use Rattle.tables.specs.Stores.{sets_append}
use Rattle.dots.specs.declared.Dot.{Dot}
use Rattle.dots.specs.Dot.{actor_of, no_dot}
use Rattle.dots.specs.Clock.{Clock}
use Rattle.clocks.specs.declared.VClock.{VClock}
use Rattle.clocks.specs.VClock.{dots_of}
use Rattle.replica.specs.Replica.{Entry}
use Rattle.layout.specs.Fields.{le32, le64}
use Rattle.layout.proofs.FieldsFacts.{length_le32}
use Rattle.layout.specs.Lists.{starts_at, bytes_of}
use Rattle.layout.specs.Clock.{encode_dot_in, encode_clock_in}
use Rattle.layout.specs.Rows.{encode_row_in, encode_row, encode_rows}
use Rattle.layout.proofs.Form.{steady_end}
use Rattle.layout.proofs.KitFacts.{starts_next, length_encode_row}
use Rattle.changing.specs.Brought.{brought}
use Rattle.merging.specs.Side.{places_of}

-- ---- one entry

-- where there is one, the clock is of one dot
pub one_brought : (c : VClock) (n : ℕ) (ms : List ℕ) → length c.dots ≡ 16 → (0 < n → c.len ≡ 1) → brought (get_or c.dots 0 no_dot ∷ []) (take n ms) ≡ brought (dots_of c) (take n ms)
one_brought c zero ms long one = refl
one_brought c (suc n) ms long one = ap (λ (k : Clock). brought k (take (suc n) ms)) (rw (one (omega arith)) (go c.dots (omega arith)))
  where
    go : (ds : List Dot) → 0 < length ds → get_or ds 0 no_dot ∷ [] ≡ take 1 ds
    go [] h = absurd (omega arith)
    go (d ∷ ds) h = refl

pub one_row : (s₀ s₁ s₂ s₃ s₄ : List ℕ) (p member : ℕ) (d : Dot) → s₁ ≡ sets s₀ p (le32 member) → s₂ ≡ sets s₁ (p + 4) (le32 1) → s₃ ≡ sets s₂ (p + 8) (le32 (actor_of d)) → s₄ ≡ sets s₃ (p + 12) (le64 d.counter)
    → s₄ ≡ sets s₀ p (encode_row (record { member = member; clock = d ∷ [] }))
unfolding encode_row_in encode_clock_in encode_dot_in bytes_of
one_row s₀ s₁ s₂ s₃ s₄ p member d e₁ e₂ e₃ e₄ =
    let dot = le32 (actor_of d) ++ le64 d.counter in
    let q : p + 4 + 4 ≡ p + 8 = omega arith in
    let r : p + 8 + 4 ≡ p + 12 = omega arith in
    e₄ ∙ rw (e₃, e₂, e₁) (sym (
    sets_append s₀ p (le32 member) (le32 1 ++ (dot ++ [])) ∙ ap (λ (k : ℕ). sets (sets s₀ p (le32 member)) (p + k) (le32 1 ++ (dot ++ []))) (length_le32 member)
    ∙ sets_append (sets s₀ p (le32 member)) (p + 4) (le32 1) (dot ++ []) ∙ ap (λ (k : ℕ). sets (sets (sets s₀ p (le32 member)) (p + 4) (le32 1)) (p + 4 + k) (dot ++ [])) (length_le32 1)
    ∙ ap₂ (λ (k : ℕ) (l : List ℕ). sets (sets (sets s₀ p (le32 member)) (p + 4) (le32 1)) k l) q (append-nil dot)
    ∙ sets_append (sets (sets s₀ p (le32 member)) (p + 4) (le32 1)) (p + 8) (le32 (actor_of d)) (le64 d.counter)
    ∙ ap (λ (k : ℕ). sets (sets (sets (sets s₀ p (le32 member)) (p + 4) (le32 1)) (p + 8) (le32 (actor_of d))) k (le64 d.counter)) (ap (λ (k : ℕ). p + 8 + k) (length_le32 (actor_of d)) ∙ r)))

-- ---- the entries

pub record Rowing (c : Clock) (ms : List ℕ) (n : ℕ) (s₀ s places : List ℕ) (i : ℕ) : Type 0 where
  pub within : i ≤ n
  pub size : length s ≡ length s₀
  pub ahead : sets s (28 + 20 * i) (encode_rows (brought c (drop i (take n ms)))) ≡ sets s₀ 28 (encode_rows (brought c (take n ms)))
  pub stand : take i places ≡ places_of i

pub rows_begin : (c : Clock) (ms : List ℕ) (n : ℕ) (s places : List ℕ) → Rowing c ms n s s places 0
unfolding starts_at
rows_begin c ms n s places = record { within = omega arith; size = refl; ahead = refl; stand = refl }

module _ {c : Clock} {ms : List ℕ} {n : ℕ} {s₀ s places : List ℕ} {i : ℕ} (z : Rowing c ms n s₀ s places i) where
  pub rows_again : i < n → n ≤ length ms → i < length places → length c ≡ 1 → (p : ℕ) (s' : List ℕ) → p ≡ 28 + 20 * i → s' ≡ sets s p (encode_row (record { member = get_or ms i 0; clock = c }))
      → Rowing c ms n s₀ s' (set places i p) (i + 1)
  unfolding bytes_of
  rows_again h hn room one p s' e w = record {
    within = omega arith;
    size = ap length w ∙ length-sets s p (encode_row r) ∙ z.size;
    ahead = rw w (ap (λ (q : ℕ). sets (sets s p (encode_row r)) q (encode_rows (brought c (drop (i + 1) (take n ms))))) next
        ∙ sym (sets_append s p (encode_row r) (encode_rows (brought c (drop (i + 1) (take n ms)))))
        ∙ ap (λ (ks : List ℕ). sets s p (encode_rows (brought c ks))) (sym front)
        ∙ ap (λ (q : ℕ). sets s q (encode_rows (brought c (drop i (take n ms))))) e ∙ z.ahead);
    stand = rw add-one (take-suc-set places i p room) ∙ ap (λ (l : List ℕ). l ++ p ∷ []) z.stand
        ∙ sym (starts_next (λ s p. p + 20) [] 28 i ∙ ap (λ (q : ℕ). places_of i ++ q ∷ []) (steady_end 20 [] 28 i ∙ sym e));
  }
    where
      r : Entry
      r = record { member = get_or ms i 0; clock = c }

      next : 28 + 20 * (i + 1) ≡ p + length (encode_row r)
      next = let k = length_encode_row r in omega arith

      front : drop i (take n ms) ≡ get_or ms i 0 ∷ drop (i + 1) (take n ms)
      front = rw add-one (slice-cons i n ms 0 h hn)

  pub rows_end : n ≤ i → (s ≡ sets s₀ 28 (encode_rows (brought c (take n ms)))) × (take n places ≡ places_of n)
  unfolding bytes_of
  rows_end h =
      let w = z.within in
      let e : i ≡ n = omega arith in
      let none : drop i (take n ms) ≡ [] = drop_of_length-le (take n ms) {i = i} (simp length-take (omega arith)) in
      (rw none at z.ahead, rw e at z.stand)
