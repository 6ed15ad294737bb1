-- What is proved of specs/Judge.antt.
use Rattle.std.specs.Prelude.{ℕ, zero, suc, ◌<◌, ◌≡◌, refl}
use Rattle.std.proofs.Common.{◌∙◌, arith}
use Rattle.replica.specs.Replica.{Replica}
use Rattle.replica.specs.Judge.{verdict, judge, refused, granted}

-- what is granted is the replica that was judged
pub granted_is : (j : Replica → ℕ) (A X : Replica) → judge j A ≡ granted X → (X ≡ A) × (j A ≡ 0)
unfolding judge
granted_is j A X e = go (j A) refl e
  where
    go : (n : ℕ) → j A ≡ n → verdict n A ≡ granted X → (X ≡ A) × (j A ≡ 0)
    go zero u e = (cc, u)
    go (suc n) u e = let z : ◌≡◌ {A = ℕ} 0 1 = cc in absurd (omega arith)

-- what is refused got that number, and it is not 0
pub refused_is : (j : Replica → ℕ) (A : Replica) (k : ℕ) → judge j A ≡ refused k → (j A ≡ k) × (0 < k)
unfolding judge
refused_is j A k e = go (j A) refl e
  where
    go : (n : ℕ) → j A ≡ n → verdict n A ≡ refused k → (j A ≡ k) × (0 < k)
    go zero u e = let z : ◌≡◌ {A = ℕ} 0 1 = cc in absurd (omega arith)
    go (suc n) u e = let s : suc n ≡ k = cc in (u ∙ s, omega arith)
