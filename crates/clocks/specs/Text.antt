-- A clock as text.
use Rattle.std.specs.Prelude.{List, [], ◌∷◌, ◌++◌, ℕ, suc, zero, ◌+◌, ◌/◌, ◌%◌, eqb, ltb}
use Rattle.tables.specs.Table.{pick}
use Rattle.dots.specs.declared.Dot.{Dot}
use Rattle.dots.specs.Dot.{actor_of}

-- how many decimal digits a number has, where it has at most f + 1
abbrev pub width_within : ℕ → ℕ → ℕ
width_within zero n = 1
width_within (suc f) n = pick (ltb n 10) 1 (suc (width_within f (n / 10)))

-- a 64-bit number has at most 20
unfoldable pub width : ℕ → ℕ
width n = width_within 19 n

-- the last k decimal digits of n, the highest first; the byte of the digit 0 is 48
abbrev pub digits : ℕ → ℕ → List ℕ
digits zero n = []
digits (suc k) n = digits k (n / 10) ++ ((48 + n % 10) ∷ [])

unfoldable pub decimal : ℕ → List ℕ
decimal n = digits (width n) n

-- "the fixed strings "<", ", ", ":" and ">"", as bytes
abbrev pub opening : List ℕ
opening = 60 ∷ []

abbrev pub comma : List ℕ
comma = 44 ∷ 32 ∷ []

abbrev pub colon : List ℕ
colon = 58 ∷ []

abbrev pub closing : List ℕ
closing = 62 ∷ []

-- "Text: dots in actor order, decimal, with the fixed strings": an actor, ":" and its counter
unfoldable pub dot_text : Dot → List ℕ
dot_text d = decimal (actor_of d) ++ (colon ++ decimal d.counter)

-- ", " before each dot but the first
unfoldable pub item : ℕ → Dot → List ℕ
item i d = pick (eqb i 0) [] comma ++ dot_text d

unfoldable pub items : ℕ → List Dot → List ℕ
items i [] = []
items i (d ∷ ds) = item i d ++ items (i + 1) ds

unfoldable pub text : List Dot → List ℕ
text ds = opening ++ (items 0 ds ++ closing)
