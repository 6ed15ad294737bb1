-- The members of two lists in bytes, each once.
use Prim.Native.Nat.{ℕ, ◌+◌, ◌*◌, ◌-◌, ◌≤◌, ◌<◌, min}
use mathlib.Core.Path.{◌≡◌, refl, sym, ap, ap₂, ◌∙◌}
use mathlib.Core.Bool.{Bool, true, false, ◌||◌, false≢true}
use mathlib.Core.List.{List, []}
use native.Mathlib.Omega.{arith}
use native.Mathlib.Nat.{add-zero, zero-add, mul-zero}
use lib.Dec.{eqb}
use lib.ListN.{length}
use lib.Seq.{sets, length-sets}
use Rattle.tables.specs.Stores.{sets_append}
use Rattle.tables.specs.Table.{pick}
use Rattle.tables.specs.Zip.{zip_nil, said, past, Rise, rise_past, zip_step, by_lt}
use Rattle.replica.specs.Replica.{member_rows, member_sets}
use Rattle.layout.specs.Fields.{u32_at, le32}
use Rattle.layout.proofs.FieldsFacts.{length_le32}
use Rattle.layout.specs.Lists.{list_at, bytes_of}
use Rattle.layout.specs.Rows.{member_end, members_at, encode_members}
use Rattle.merging.specs.declared.waits.Names.{Names}
use Rattle.merging.specs.Ahead.{key_ahead, Met, front_ahead, said_ahead, past_ahead}
use Rattle.changing.specs.KeptWaits.{both_sets}
use Rattle.merging.specs.Waiting.{Named, MembersReady, WroteMembers}
use Rattle.merging.proofs.RowSteps.{met_one}

keyed : (s : List ℕ) (p : ℕ) → member_rows.key (u32_at s p) ≡ u32_at s p
keyed s p = refl

module _ (s : List ℕ) (p m low i : ℕ) (small : low < 4294967296) (h : Met s p m low i) where
  place : (b : Bool) → p + 4 * pick b 1 0 ≡ pick b (p + 4) p
  place true = refl
  place false = omega arith

  pub member_past : members_at s (p + 4 * i) (m - i) ≡ past member_rows low (members_at s p m)
  member_past = rw (h.is small, place (eqb (key_ahead s p m) low)) (sym (past_ahead member_rows u32_at member_end keyed s p low small m))

  true_of : (b : Bool) → 0 < pick b 1 0 → pick b true false ≡ true
  true_of true l = refl
  true_of false l = absurd (omega arith)

  pub member_said : 0 < i → said member_rows low (members_at s p m) ≡ true
  member_said l = said_ahead member_rows u32_at member_end keyed s p low small m ∙ true_of (eqb (key_ahead s p m) low) (rw (h.is small) at l)

or_one : (a b : Bool) → (a ≡ true → ◌||◌ a b ≡ true) × (b ≡ true → ◌||◌ a b ≡ true)
or_one true b = (λ e. refl, λ e. refl)
or_one false b = (λ e. absurd (false≢true e), λ e. e)

pub named : (s t out : List ℕ) (at : ℕ) (w : Names) (low i j : ℕ) (out' : List ℕ) → low ≡ min (key_ahead s w.p w.m) (key_ahead t w.q w.k) → low < 4294967296
    → Met s w.p w.m low i → Met t w.q w.k low j → Rise member_rows (members_at s w.p w.m) → Rise member_rows (members_at t w.q w.k) → out' ≡ sets out (at + 4 * w.n) (le32 low)
    → Named s t out at w out' (record { p = w.p + 4 * i; m = w.m - i; q = w.q + 4 * j; k = w.k - j; n = w.n + 1 })
unfolding both_sets
named s t out at w low i j out' least small mi mj rx ry eo =
    let xs = members_at s w.p w.m in
    let ys = members_at t w.q w.k in
    let g = met_one s w.p w.m t w.q w.k low i j least small mi mj in
    let fi = mi.fits in let fj = mj.fits in let oi = mi.one in let oj = mj.one in
    let px = member_past s w.p w.m low i small mi in
    let py = member_past t w.q w.k low j small mj in
    let or : (said member_rows low xs || said member_rows low ys) ≡ true =
    by_lt 0 i (λ l. (or_one (said member_rows low xs) (said member_rows low ys)).0 (member_said s w.p w.m low i small mi l))
    (λ l. (or_one (said member_rows low xs) (said member_rows low ys)).1 (member_said t w.q w.k low j small mj (omega arith))) in
    record {
      low = low;
      step = zip_step member_rows (λ m. ◌||◌) 4294967296 low xs ys rx ry small (least ∙ ap₂ min (front_ahead member_rows u32_at member_end keyed s w.p w.m) (front_ahead member_rows u32_at member_end keyed t w.q w.k))
          ∙ rw (or, px, py);
      left_rise = rw px (rise_past member_rows low xs rx);
      right_rise = rw py (rise_past member_rows low ys ry);
      left_edge = omega arith;
      right_edge = omega arith;
      moves = omega arith;
      next = refl;
      bytes = eo;
    }

-- ---- the loop

abbrev pub names_left : List ℕ → List ℕ → Names → List ℕ
names_left s t w = both_sets (members_at s w.p w.m) (members_at t w.q w.k)

pub record Naming (s t : List ℕ) (p m q k at : ℕ) (out₀ : List ℕ) (whole out : List ℕ) (w : Names) : Type 0 where
  pub left_rise : Rise member_rows (members_at s w.p w.m)
  pub right_rise : Rise member_rows (members_at t w.q w.k)
  pub left_edge : w.p + 4 * w.m ≡ p + 4 * m
  pub right_edge : w.q + 4 * w.k ≡ q + 4 * k
  pub few : w.n + (w.m + w.k) ≤ m + k
  pub size : length out ≡ length out₀
  pub count : w.n + length (names_left s t w) ≡ length whole
  pub store : sets out (at + 4 * w.n) (encode_members (names_left s t w)) ≡ sets out₀ at (encode_members whole)

module _ (s : List ℕ) (p m : ℕ) (t : List ℕ) (q k at : ℕ) where
  pub names_begin : (out : List ℕ) → MembersReady s p m t q k → Naming s t p m q k at out (both_sets (members_at s p m) (members_at t q k)) out (record { p = p; m = m; q = q; k = k; n = 0 })
  names_begin out r = record { left_rise = r.left_rise; right_rise = r.right_rise; left_edge = refl; right_edge = refl; few = omega arith; size = refl; count = zero-add _; store = rw (mul-zero, add-zero) }

  module _ {out₀ whole out : List ℕ} {w : Names} (z : Naming s t p m q k at out₀ whole out w) where
    pub names_again : (out' : List ℕ) (w' : Names) → Named s t out at w out' w' → Naming s t p m q k at out₀ whole out' w'
    unfolding bytes_of
    names_again out' w' d =
        let f = z.few in let mv = d.moves in let nx = d.next in
        let place : at + 4 * w'.n ≡ at + 4 * w.n + length (le32 d.low) = rw length_le32 (omega arith) in
        record {
          left_rise = d.left_rise;
          right_rise = d.right_rise;
          left_edge = d.left_edge ∙ z.left_edge;
          right_edge = d.right_edge ∙ z.right_edge;
          few = omega arith;
          size = ap length d.bytes ∙ length-sets out (at + 4 * w.n) (le32 d.low) ∙ z.size;
          count = let g = ap length d.step in let c = z.count in omega arith;
          store = rw (d.bytes, place) (sym (sets_append out (at + 4 * w.n) (le32 d.low) (encode_members (names_left s t w')))) ∙ ap (λ (l : List ℕ). sets out (at + 4 * w.n) (encode_members l)) (sym d.step) ∙ z.store;
        }

    pub names_end : w.m + w.k ≡ 0 → WroteMembers out₀ at whole out (m + k) w.n
    unfolding both_sets list_at bytes_of
    names_end e =
        let em : w.m ≡ 0 = omega arith in
        let ek : w.k ≡ 0 = omega arith in
        let f = z.few in
        let nil : names_left s t w ≡ [] = rw (em, ek) (zip_nil member_sets (λ m. ◌||◌)) in
        record { count = rw (nil, add-zero) at z.count; few = omega arith; bytes = rw nil at z.store }
