-- Waiting removes copied as they stand in bytes.
use Prim.Native.Nat.{ℕ, ◌+◌, ◌≤◌}
use mathlib.Core.Path.{◌≡◌, sym, ◌∙◌, subst}
use mathlib.Core.List.{List, ◌++◌}
use native.Mathlib.Omega.{arith}
use lib.ListN.{length, take, drop, length-append}
use lib.Seq.{slice, take-add, drop_at, length-take-le}
use Rattle.layout.specs.Fields.{Bytes, le32}
use Rattle.layout.proofs.Held.{Holds, holds_left, holds_right}
use Rattle.layout.specs.Clock.{clock_at, clock_end, encode_clock}
use Rattle.layout.specs.Rows.{encode_members, wait_in, wait_end, wait_at_place, encode_wait, encode_wait_in}
use Rattle.layout.proofs.KitFacts.{part_is}
use Rattle.layout.proofs.Parts.{clock_laws, wait_laws}

-- a part of the bytes that holds e is e
pub copied_is : (s : List ℕ) (p end : ℕ) (e : List ℕ) → Holds s p e → p ≤ length s → end ≡ p + length e → slice p end s ≡ e
copied_is s p end e h k q = rw (q, take-add p (length e) s) (drop_at (take p s) (take (length e) (drop p s)) p (length-take-le p s k) ∙ part_is s p e h)

-- members after their count
abbrev pub counted_at : List ℕ → ℕ → List ℕ
counted_at s p = le32 (length (wait_at_place s p).members) ++ encode_members (wait_at_place s p).members

module _ (s : List ℕ) (p : ℕ) (b : Bytes s) (r : wait_end s p ≤ length s) where
  abbrev counted : List ℕ
  counted = counted_at s p

  wait_holds : Holds s p (encode_wait (wait_at_place s p))
  wait_holds = wait_laws.stands s p b r

  wait_long : wait_end s p ≡ p + length (encode_wait (wait_at_place s p))
  wait_long = wait_laws.span s p

  clock_long : clock_end s p ≡ p + length (encode_clock (clock_at s p))
  clock_long = clock_laws.span s p

  -- the whole of it
  pub wait_copied : slice p (wait_end s p) s ≡ encode_wait (wait_at_place s p)
  wait_copied = let l = wait_long in copied_is s p (wait_end s p) (encode_wait (wait_at_place s p)) wait_holds (omega arith) wait_long

  -- its clock
  pub clock_copied : slice p (clock_end s p) s ≡ encode_clock (clock_at s p)
  unfolding wait_in encode_wait_in
  clock_copied = let l = wait_long in copied_is s p (clock_end s p) (encode_clock (clock_at s p)) (holds_left s p (encode_clock (clock_at s p)) counted wait_holds) (omega arith) clock_long

  -- its members
  pub members_copied : slice (clock_end s p) (wait_end s p) s ≡ counted
  unfolding wait_in encode_wait_in
  members_copied =
      let h : Holds s (clock_end s p) counted = subst (λ (i : ℕ). Holds s i counted) (sym clock_long) (holds_right s p (encode_clock (clock_at s p)) counted wait_holds) in
      let l : length (encode_clock (clock_at s p) ++ counted) ≡ length (encode_clock (clock_at s p)) + length counted = length-append (encode_clock (clock_at s p)) counted in
      let c = clock_long in
      let w = wait_long in
      copied_is s (clock_end s p) (wait_end s p) counted h (omega arith) (omega arith)
