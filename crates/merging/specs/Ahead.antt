-- Rows in bytes, as a loop has them: the place of the next one, and how many are left. The key of each is its first 32 bits.
use Prim.Native.Nat.{ℕ, zero, suc, ◌+◌, ◌-◌, ◌≤◌, ◌<◌}
use Rattle.std.specs.Prelude.{◌≡◌, Bool, eqb, length}
use Rattle.std.proofs.Math.Path.{refl, sym}
use Rattle.std.proofs.Math.Bool.{true, false}
use Rattle.std.proofs.Math.Option.{Option, none, some}
use mathlib.Core.List.{List, [], ◌∷◌, ◌++◌, append_assoc}
use native.Mathlib.Omega.{arith}
use Rattle.std.proofs.lemmas.List.Edits.{sets}
use Rattle.std.proofs.Common.{ne_eqb}
use Rattle.tables.specs.Table.{pick, cons?}
use Rattle.tables.specs.Zip.{Rows, front, said, past}
use Rattle.tables.specs.Stores.{sets_append}
use Rattle.layout.specs.Fields.{u32_at}
use Rattle.layout.specs.Lists.{list_at, bytes_of}

-- the key ahead; 2^32, which is past every key, where nothing is left
unfoldable pub key_ahead : List ℕ → ℕ → ℕ → ℕ
key_ahead s p zero = 4294967296
key_ahead s p (suc n) = u32_at s p

-- 1 where the key is the one that is asked for
abbrev pub hits : ℕ → ℕ → ℕ
hits key low = pick (eqb key low) 1 0

pub record Met (s : List ℕ) (p n key r : ℕ) : Type 0 where
  pub small : key < 4294967296
  pub is : key < 4294967296 → r ≡ hits (key_ahead s p n) key
  pub one : r ≤ 1
  pub fits : r ≤ n

module _ (N : Rows) (here : List ℕ → ℕ → N.Row) (end : List ℕ → ℕ → ℕ) (keyed : (s : List ℕ) (p : ℕ) → N.key (here s p) ≡ u32_at s p) where
  pub front_ahead : (s : List ℕ) (p n : ℕ) → key_ahead s p n ≡ front N 4294967296 (list_at here end s p n)
  unfolding key_ahead list_at
  front_ahead s p zero = refl
  front_ahead s p (suc n) = sym (keyed s p)

  module _ (s : List ℕ) (p low : ℕ) (small : low < 4294967296) where
    pub said_ahead : (n : ℕ) → said N low (list_at here end s p n) ≡ pick (eqb (key_ahead s p n) low) (N.val (some (here s p))) (N.val none)
    unfolding key_ahead list_at
    said_ahead zero = rw (ne_eqb 4294967296 low (λ z. omega arith))
    said_ahead (suc n) = rw (keyed s p)

    pub past_ahead : (n : ℕ) → past N low (list_at here end s p n) ≡ list_at here end s (pick (eqb (key_ahead s p n) low) (end s p) p) (n - hits (key_ahead s p n) low)
    unfolding key_ahead list_at
    past_ahead zero = rw (ne_eqb 4294967296 low (λ z. omega arith))
    past_ahead (suc n) = rw (keyed s p) (go (eqb (u32_at s p) low))
      where
        go : (b : Bool) → pick b (list_at here end s (end s p) n) (here s p ∷ list_at here end s (end s p) n) ≡ list_at here end s (pick b (end s p) p) (suc n - pick b 1 0)
        go true = let e : suc n - 1 ≡ n = omega arith in rw e
        go false = let e : suc n - 0 ≡ suc n = omega arith in rw e

-- ---- a row written where there is one

module _ {R : Type 0} (put : R → List ℕ) where
  pub bytes_cons : (o : Option R) (rest : List R) → bytes_of put (cons? o rest) ≡ bytes_of put (cons? o []) ++ bytes_of put rest
  unfolding bytes_of
  bytes_cons none rest = refl
  bytes_cons (some r) rest = sym (append_assoc (put r) [] (bytes_of put rest))

  pub length_cons : (o : Option R) (rest : List R) → length (cons? o rest) ≡ length (cons? o []) + length rest
  length_cons none rest = omega arith
  length_cons (some r) rest = omega arith

  -- and the rows after it
  pub wrote : (out : List ℕ) (p : ℕ) (o : Option R) (rest : List R)
      → sets (sets out p (bytes_of put (cons? o []))) (p + length (bytes_of put (cons? o []))) (bytes_of put rest) ≡ sets out p (bytes_of put (cons? o rest))
  wrote out p o rest = rw (bytes_cons o rest) (sym (sets_append out p (bytes_of put (cons? o [])) (bytes_of put rest)))
