-- What is proved of specs/OneDot.antt.
use Rattle.std.specs.Prelude.{ℕ, suc, ◌≤◌, ◌<◌, ◌≡◌, refl, Bool, true, false, not, ◌&&◌, ◌||◌, List, [], ◌∷◌, T, leb, eqb}
use Rattle.std.proofs.Common.{ap, ap₂, ◌∙◌, arith, eqb-true, leb-false, eq-eqb, ne_eqb, le-leb}
use Rattle.std.specs.Bool.{beq}
use Rattle.std.proofs.Math.Dec.{eqb-zero-suc}
use Rattle.std.proofs.lemmas.Bool.{not-true}
use Rattle.tables.specs.Truth.{Test, table, imp, mp, and_l, beq→eq}
use Rattle.tables.specs.Table.{All, alls, alls_to, pick}
use Rattle.replica.specs.OneDot.{lives, sane, rest, kept_one}

-- ---- the laws of one dot, by truth table

-- what follows from tests that hold
given : (hs : List Bool) (b : Bool) → T (imp (alls hs) b) → All T hs → T b
given hs b t h = mp (alls hs) b t (alls_to hs h)

swap_test : Test 6
swap_test hA hB sA sB kA kB = beq (lives hA hB sA sB kA kB) (lives hB hA sB sA kB kA)

pub swap_law : (hA hB sA sB kA kB : Bool) → lives hA hB sA sB kA kB ≡ lives hB hA sB sA kB kA
unfolding swap_test
swap_law hA hB sA sB kA kB = beq→eq (lives hA hB sA sB kA kB) (lives hB hA sB sA kB kA) (table 6 swap_test tt hA hB sA sB kA kB)

self_test : Test 3
self_test h s k = imp (alls (sane h s k ∷ [])) (beq (lives h h s s k k) h)

pub self_law : (h s k : Bool) → T (sane h s k) → lives h h s s k k ≡ h
unfolding self_test alls
self_law h s k t = beq→eq (lives h h s s k k) h (given (sane h s k ∷ []) (beq (lives h h s s k k) h) (table 3 self_test tt h s k) (t, tt))

module _ (hA sA kA hB sB kB hC sC kC k k' : Bool) where
  abbrev left_first : Bool
  left_first = lives (lives hA hB sA sB kA kB) hC (sA || sB) sC k kC

  abbrev right_first : Bool
  right_first = lives hA (lives hB hC sB sC kB kC) sA (sB || sC) kA k'

  abbrev grouping_given : List Bool
  grouping_given = sane hA sA kA ∷ sane hB sB kB ∷ sane hC sC kC ∷ rest k kA kB (sA || sB) ∷ rest k' kB kC (sB || sC) ∷ []

grouping_test : Test 11
grouping_test hA sA kA hB sB kB hC sC kC k k' =
    imp (alls (grouping_given hA sA kA hB sB kB hC sC kC k k')) (beq (left_first hA sA kA hB sB kB hC sC kC k k') (right_first hA sA kA hB sB kB hC sC kC k k'))

-- the same dot is left, whichever two are merged first
pub grouping_law : (hA sA kA hB sB kB hC sC kC k k' : Bool) → T (sane hA sA kA) → T (sane hB sB kB) → T (sane hC sC kC)
    → T (rest k kA kB (sA || sB)) → T (rest k' kB kC (sB || sC))
    → lives (lives hA hB sA sB kA kB) hC (sA || sB) sC k kC ≡ lives hA (lives hB hC sB sC kB kC) sA (sB || sC) kA k'
unfolding grouping_test alls
grouping_law hA sA kA hB sB kB hC sC kC k k' a b c d e =
    let l = left_first hA sA kA hB sB kB hC sC kC k k' in
    let r = right_first hA sA kA hB sB kB hC sC kC k k' in
    beq→eq l r (given (grouping_given hA sA kA hB sB kB hC sC kC k k') (beq l r) (table 11 grouping_test tt hA sA kA hB sB kB hC sC kC k k') (a, (b, (c, (d, (e, tt))))))

keep_eqb : (b c : Bool) (e f n : ℕ) → eqb (pick b e (pick c f 0)) (suc n) ≡ pick b (eqb e (suc n)) (pick c (eqb f (suc n)) false)
keep_eqb true c e f n = refl
keep_eqb false true e f n = refl
keep_eqb false false e f n = eqb-zero-suc n

module _ (e f v w : ℕ) (kA kB : ℕ → Bool) (p : e ≤ v) (q : f ≤ w) where
  abbrev L : ℕ → Bool
  L n = lives (eqb e n) (eqb f n) (leb n v) (leb n w) (kA n) (kB n)

  -- so at most one of the two stays, and the kept counter is that of the dot that lives
  pub keep_one : (n : ℕ) → eqb (kept_one L e f) (suc n) ≡ L (suc n)
  keep_one n = keep_eqb (L e) (L f) e f n ∙ go (eqb e (suc n)) (eqb f (suc n)) refl refl
    where
      both : (b : Bool) → pick b true (pick b true false) ≡ b
      both true = refl
      both false = refl

      first : (b c : Bool) → pick b true (pick c false false) ≡ b
      first true c = refl
      first false true = refl
      first false false = refl

      last : (b c : Bool) → (T c → b ≡ false) → pick b false (pick c true false) ≡ c
      last b true h = rw (h tt)
      last true false h = refl
      last false false h = refl

      neither : (b c : Bool) → pick b false (pick c false false) ≡ false
      neither true c = refl
      neither false true = refl
      neither false false = refl

      is_true : (b : Bool) → T b → b ≡ true
      is_true true t = refl
      is_true false t = absurd t

      -- the second's dot stays where the first has not seen it, so the first's own, which the second has seen, does not
      over : eqb e (suc n) ≡ false → eqb f (suc n) ≡ true → T (L (suc n)) → L e ≡ false
      over x y t =
          let t' : T (not (leb (suc n) v) && not (kA (suc n) || kB (suc n))) = rw (x, y) at t in
          let u : not (leb (suc n) v) ≡ true = is_true (not (leb (suc n) v)) (and_l (not (leb (suc n) v)) (not (kA (suc n) || kB (suc n))) t') in
          let h : v < suc n = leb-false (suc n) v (not-true (leb (suc n) v) u) in
          let g : f ≡ suc n = eqb-true f (suc n) y in
          rw (eq-eqb e e refl, ne_eqb f e (λ z. omega arith), le-leb e w (omega arith))

      go : (a b : Bool) → eqb e (suc n) ≡ a → eqb f (suc n) ≡ b → pick (L e) a (pick (L f) b false) ≡ L (suc n)
      go true true x y = ap₂ (λ (b c : Bool). pick b true (pick c true false)) (ap L (eqb-true e (suc n) x)) (ap L (eqb-true f (suc n) y)) ∙ both (L (suc n))
      go true false x y = first (L e) (L f) ∙ ap L (eqb-true e (suc n) x)
      go false true x y = ap (λ (c : Bool). pick (L e) false (pick c true false)) (ap L (eqb-true f (suc n) y)) ∙ last (L e) (L (suc n)) (over x y)
      go false false x y = rw (x, y) (neither (L e) (L f))
