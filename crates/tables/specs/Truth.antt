-- A law of Booleans in any number of unknowns, by trying them all.
use Rattle.std.specs.Prelude.{ℕ, zero, suc, ◌≡◌, refl, Bool, true, false, not, ◌&&◌, ◌||◌, T}
use Rattle.std.specs.Bool.{beq}

abbrev pub Test : ℕ → Type 0
Test zero = Bool
Test (suc n) = Bool → Test n

abbrev pub always : (n : ℕ) → Test n → Bool
always zero f = f
always (suc n) f = always n (f true) && always n (f false)

abbrev pub Always : (n : ℕ) → Test n → Type 0
Always zero f = T f
Always (suc n) f = (b : Bool) → Always n (f b)

pub and_l : (a b : Bool) → T (a && b) → T a
and_l true b t = tt
and_l false b t = t

pub and_r : (a b : Bool) → T (a && b) → T b
and_r true b t = t
and_r false b t = absurd t

pub and_i : (a b : Bool) → T a → T b → T (a && b)
and_i true b s t = t
and_i false b s t = s

pub or_l : (a b : Bool) → T a → T (a || b)
or_l true b t = tt
or_l false b t = absurd t

pub or_r : (a b : Bool) → T b → T (a || b)
or_r true b t = tt
or_r false b t = t

pub or_e : {C : Type 0} (a b : Bool) → T (a || b) → (T a → C) → (T b → C) → C
or_e true b t f g = f tt
or_e false b t f g = g t

pub table : (n : ℕ) (f : Test n) → T (always n f) → Always n f
table zero f t = t
table (suc n) f t = λ b. elim b as (λ k. Always n (f k)) [
  | true ↦ table n (f true) (and_l (always n (f true)) (always n (f false)) t)
  | false ↦ table n (f false) (and_r (always n (f true)) (always n (f false)) t)
]

abbrev pub imp : Bool → Bool → Bool
imp true b = b
imp false b = true

pub mp : (a b : Bool) → T (imp a b) → T a → T b
mp true b t h = t
mp false b t h = absurd h

pub pm : (a b : Bool) → (T a → T b) → T (imp a b)
pm true b f = f tt
pm false b f = tt

pub beq→eq : (a b : Bool) → T (beq a b) → a ≡ b
beq→eq true true t = refl
beq→eq true false t = absurd t
beq→eq false true t = absurd t
beq→eq false false t = refl

pub bool_ext : (a b : Bool) → (T a → T b) → (T b → T a) → a ≡ b
bool_ext true true f g = refl
bool_ext true false f g = absurd (f tt)
bool_ext false true f g = absurd (g tt)
bool_ext false false f g = refl

pub nor_l : (a b : Bool) → T (not (a || b)) → T (not a)
nor_l true b t = t
nor_l false b t = tt

pub nor_r : (a b : Bool) → T (not (a || b)) → T (not b)
nor_r true b t = absurd t
nor_r false b t = t

pub nor_i : (a b : Bool) → T (not a) → T (not b) → T (not (a || b))
nor_i true b s t = s
nor_i false b s t = t
