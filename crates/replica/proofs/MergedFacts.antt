-- What is proved of specs/Merged.antt.
use Prim.Native.Nat.{ℕ, suc, max}
use Rattle.std.specs.Prelude.{◌≡◌, Bool, not, ◌&&◌, ◌||◌, leb}
use Rattle.std.proofs.Math.Path.{refl, sym, ap, ap₂}
use Rattle.std.proofs.Common.{◌∙◌, arith, le_trans, T_not, eqb→eq, leb→le, le→leb}
use Rattle.std.proofs.Math.Bool.{true, false}
use Rattle.std.proofs.Math.Option.{none, some}
use Rattle.std.proofs.Math.Dec.{T, not_T}
use Rattle.tables.specs.Truth.{imp, pm, and_i, or_l, or_r, or_e}
use Rattle.tables.specs.Table.{any, pick, pick_both, row_at, key_at, at_any, by_row}
use Rattle.dots.specs.Clock.{Clock, count, covers}
use Rattle.dots.specs.ClockLaws.{clock_ext, covers_le, not_covers, leb_max}
use Rattle.replica.specs.Replica.{Wait, Replica, waits, entry, wait_at, names, holds, seen, killed}
use Rattle.replica.specs.Rules.{unite, stay, settled}
use Rattle.replica.specs.OneDot.{lives, sane, rest}
use Rattle.replica.proofs.OneDotFacts.{swap_law, self_law, grouping_law}
use Rattle.replica.specs.Waits.{Sets}
use Rattle.replica.proofs.WaitsFacts.{killed_from, killed_to, kept_names, names_unite, unite_comm, unite_assoc, unite_self}
use Rattle.replica.specs.WellFormed.{Fine}
use Rattle.replica.proofs.WellFormedFacts.{fine_ext}
use Rattle.replica.specs.Merged.{live, Merged}

-- ---- what follows for one dot

pub wait_sets : (A : Replica) → Fine A → (c : Clock) → Sets (wait_at A c)
wait_sets A h c ms e = (h.late c ms e).2

-- a well-formed replica holds only what it has seen, and nothing that a waiting remove covers
pub fine_sane : (A : Replica) → Fine A → (m a n : ℕ) → T (sane (holds A m a (suc n)) (seen A a (suc n)) (killed A m a (suc n)))
unfolding holds seen
fine_sane A h m a n = pm (holds A m a (suc n)) (seen A a (suc n) && not (killed A m a (suc n)))
    (λ t.
    let e : count (entry A m) a ≡ suc n = eqb→eq (count (entry A m) a) (suc n) t in
    let k = h.within m a in
    and_i (seen A a (suc n)) (not (killed A m a (suc n))) (le→leb (suc n) (count A.clock a) (omega arith)) (not_T (killed A m a (suc n)) (h.free m a n t)))

module _ (A B M : Replica) (r : Merged A B M) where
  pub seen_is : (a n : ℕ) → seen M a n ≡ (seen A a n || seen B a n)
  unfolding seen
  seen_is a n = ap (leb n) (r.clock_is a) ∙ leb_max n (count A.clock a) (count B.clock a)

  module _ (h : Fine A) (g : Fine B) (m a n : ℕ) where
    abbrev named : Clock → Bool
    named c = names (wait_at A c) m || names (wait_at B c) m

    abbrev before : Bool
    before = killed A m a n || killed B m a n

    abbrev still : Bool
    still = killed M m a n || seen M a n

    -- the merge's waiting removes are of one side
    fewer : T (killed M m a n) → T before
    fewer t =
        let k = killed_from M m a n r.fine.waiting_ok t in
        let c = k.0 in
        let s = kept_names (covers M.clock c) (unite (wait_at A c) (wait_at B c)) m (rw (r.wait_is c) at k.1) in
        or_e (names (wait_at A c) m) (names (wait_at B c) m) (rw (names_unite (wait_at A c) (wait_at B c) m) at s)
        (λ u. or_l (killed A m a n) (killed B m a n) (killed_to A m a n c u k.2))
        (λ u. or_r (killed A m a n) (killed B m a n) (killed_to B m a n c u k.2))

    kept : (c : Clock) → T (named c) → T (leb n (count c a)) → T still
    unfolding seen
    kept c t s = go (covers M.clock c) refl
      where
        go : (b : Bool) → covers M.clock c ≡ b → T still
        go true e = or_r (killed M m a n) (seen M a n) (le→leb n (count M.clock a) (le_trans (leb→le n (count c a) s) (covers_le M.clock c (rw e tt) a)))
        go false e = or_l (killed M m a n) (seen M a n) (killed_to M m a n c (rw (r.wait_is c, e, names_unite (wait_at A c) (wait_at B c) m) t) s)

    -- what a waiting remove of either covers, one still does, or V does
    pub killed_kept : T before → T still
    killed_kept t = or_e (killed A m a n) (killed B m a n) t
        (λ u. let k = killed_from A m a n h.waiting_ok u in kept k.0 (or_l (names (wait_at A k.0) m) (names (wait_at B k.0) m) k.1) k.2)
        (λ u. let k = killed_from B m a n g.waiting_ok u in kept k.0 (or_r (names (wait_at A k.0) m) (names (wait_at B k.0) m) k.1) k.2)

    pub rest_law : T (rest (killed M m a n) (killed A m a n) (killed B m a n) (seen A a n || seen B a n))
    rest_law = rw (seen_is a n) at (and_i (imp (killed M m a n) before) (imp before still) (pm (killed M m a n) before fewer) (pm before still killed_kept))

-- ---- there is only one

pub only_one : (A B M N : Replica) → Merged A B M → Merged A B N → M ≡ N
only_one A B M N r s = fine_ext M N r.fine s.fine clocks
    (λ m a n. r.holds_is m a n ∙ sym (s.holds_is m a n))
    (λ c. r.wait_is c ∙ ap (λ (v : Clock). pick (covers v c) none (unite (wait_at A c) (wait_at B c))) whole ∙ sym (s.wait_is c))
  where
    clocks : (a : ℕ) → count M.clock a ≡ count N.clock a
    clocks a = r.clock_is a ∙ sym (s.clock_is a)

    whole : M.clock ≡ N.clock
    whole = clock_ext M.clock N.clock r.fine.clock_ok s.fine.clock_ok clocks

-- ---- swap

pub merge_swap : (A B M : Replica) → Fine A → Fine B → Merged A B M → Merged B A M
unfolding live stay
merge_swap A B M h g r = record {
  fine = r.fine;
  clock_is = λ a. r.clock_is a ∙ omega arith;
  holds_is = λ m a n. r.holds_is m a n
      ∙ swap_law (holds A m a (suc n)) (holds B m a (suc n)) (seen A a (suc n)) (seen B a (suc n)) (killed A m a (suc n)) (killed B m a (suc n));
  wait_is = λ c. r.wait_is c ∙ ap (pick (covers M.clock c) none) (unite_comm (wait_at A c) (wait_at B c) (wait_sets A h c) (wait_sets B g c));
}

-- ---- self

pub settled_open : (A : Replica) → T (settled A) → (c : Clock) (w : Wait) → row_at waits A.waiting c ≡ some w → covers A.clock c ≡ false
unfolding settled
settled_open A t c w e = go (covers A.clock c) refl
  where
    done : Wait → Bool
    done w = covers A.clock w.clock

    go : (b : Bool) → covers A.clock c ≡ b → covers A.clock c ≡ false
    go true u = absurd (T_not (any done A.waiting) t (at_any waits done A.waiting c w e (rw (← (key_at waits A.waiting c w e), u) tt)))
    go false u = u

pub merge_self : (A : Replica) → Fine A → T (settled A) → Merged A A A
unfolding live stay
merge_self A h t = record {
  fine = h;
  clock_is = λ a. omega arith;
  holds_is = λ m a n. sym (self_law (holds A m a (suc n)) (seen A a (suc n)) (killed A m a (suc n)) (fine_sane A h m a n));
  wait_is = λ c. rw (unite_self (wait_at A c) (wait_sets A h c)) (by_row waits (λ o. o ≡ pick (covers A.clock c) none o) A.waiting c
      (sym (pick_both (covers A.clock c) none)) (λ w e. rw (settled_open A t c w e)));
}

-- ---- grouping

module _ (A B C X Y M : Replica) (f : Fine A) (g : Fine B) (h : Fine C) (x : Merged A B X) (y : Merged B C Y) (r : Merged X C M) where
  grouped_clock : (a : ℕ) → count M.clock a ≡ max (count A.clock a) (count Y.clock a)
  grouped_clock a = let p = r.clock_is a in let q = x.clock_is a in let s = y.clock_is a in omega arith

  grouped_dots : (m a n : ℕ) → holds M m a (suc n) ≡ live A Y m a (suc n)
  unfolding live stay
  grouped_dots m a k =
      let n = suc k in
      r.holds_is m a k
      ∙ ap₂ (λ (p q : Bool). lives p (holds C m a n) q (seen C a n) (killed X m a n) (killed C m a n)) (x.holds_is m a k) (seen_is A B X x a n)
      ∙ grouping_law (holds A m a n) (seen A a n) (killed A m a n) (holds B m a n) (seen B a n) (killed B m a n) (holds C m a n) (seen C a n) (killed C m a n)
      (killed X m a n) (killed Y m a n)
      (fine_sane A f m a k) (fine_sane B g m a k) (fine_sane C h m a k) (rest_law A B X x f g m a n) (rest_law B C Y y g h m a n)
      ∙ sym (ap₂ (λ (p q : Bool). lives (holds A m a n) p (seen A a n) q (killed A m a n) (killed Y m a n)) (y.holds_is m a k) (seen_is B C Y y a n))

  grouped_waiting : (c : Clock) → wait_at M c ≡ pick (covers M.clock c) none (unite (wait_at A c) (wait_at Y c))
  grouped_waiting c = r.wait_is c ∙ go (covers M.clock c) refl
    where
      go : (b : Bool) → covers M.clock c ≡ b
          → pick (covers M.clock c) none (unite (wait_at X c) (wait_at C c)) ≡ pick (covers M.clock c) none (unite (wait_at A c) (wait_at Y c))
      go true e = rw e
      go false e =
          let p : covers X.clock c ≡ false = not_covers X.clock M.clock c (λ a. let u = r.clock_is a in omega arith) e in
          let q : covers Y.clock c ≡ false = not_covers Y.clock M.clock c (λ a. let u = grouped_clock a in omega arith) e in
          rw (e, x.wait_is c, p, y.wait_is c, q) (unite_assoc (wait_at A c) (wait_at B c) (wait_at C c) (wait_sets A f c) (wait_sets B g c) (wait_sets C h c))

  pub merge_grouped : Merged A Y M
  merge_grouped = record { fine = r.fine; clock_is = grouped_clock; holds_is = grouped_dots; wait_is = grouped_waiting }
