-- The search in the order of the loops: each of our dots is seen beside their clock, in one walk along both.
use Rattle.std.specs.Prelude.{ℕ, Result, Ok, Err, ⊤, ◌+◌, ◌*◌, ◌%◌, ◌≤◌, ◌<◌, ◌≡◌, Bool, true, not, ◌&&◌, List, [], ◌∷◌, ◌++◌, map, eqb, length, take, get_or}
use Rattle.std.proofs.Math.Option.{Option, none, some}
use Rattle.tables.specs.Table.{pick}
use Rattle.tables.specs.Zip.{said}
use Rattle.dots.specs.declared.Dot.{Dot}
use Rattle.dots.specs.Dot.{actor_of, dots}
use Rattle.dots.specs.Clock.{Clock}
use Rattle.replica.specs.Replica.{Entry}
use Rattle.layout.specs.Clock.{clock_at}
use Rattle.layout.specs.Rows.{row_at}
use Rattle.layout.specs.Image.{image_of, good_image}
use Rattle.layout.specs.Kit.{Stands}
use Rattle.kills.specs.Lines.{reach, along}
use Rattle.validating.specs.declared.MergeRefused.{MergeRefused}
use Rattle.validating.specs.declared.MergeRefused.TheVariants.{DoubleSpent}

-- what is seen at one of our dots: both members, the dot, and how far they count its actor
pub record Sight : Type 0 where
  pub our : ℕ
  pub their : ℕ
  pub dot : Dot
  pub reached : ℕ

abbrev pub sight : ℕ → ℕ → Dot → ℕ → Sight
sight o t d n = record { our = o; their = t; dot = d; reached = n }

-- "Reported is a dot equal in an entry of ours and an entry of theirs with a different member": judged of both members, the dot's counter, and
-- how far they count its actor
unfoldable pub reportable : ℕ → ℕ → ℕ → ℕ → Bool
reportable our their counter reached = not (eqb our their) && eqb reached counter

unfoldable pub spotted : Sight → Bool
spotted s = reportable s.our s.their s.dot.counter s.reached

-- our dots, each with how far they count its actor
abbrev pub with_counts : ℕ → ℕ → Clock → List ℕ → List Sight
with_counts o t [] ns = []
with_counts o t (d ∷ ds) [] = []
with_counts o t (d ∷ ds) (n ∷ ns) = sight o t d n ∷ with_counts o t ds ns

-- our dots beside their clock
abbrev pub sights : ℕ → ℕ → Clock → Clock → List Sight
sights o t ds cs = with_counts o t ds (along dots (map (λ d. actor_of d) ds) cs)

abbrev pub sights_beside : Entry → List Entry → List Sight
sights_beside o [] = []
sights_beside o (t ∷ ts) = sights o.member t.member o.clock t.clock ++ sights_beside o ts

abbrev pub sights_of : List Entry → List Entry → List Sight
sights_of [] ts = []
sights_of (o ∷ os) ts = sights_beside o ts ++ sights_of os ts

abbrev pub spent_is : Dot → ℕ → ℕ → MergeRefused
spent_is d our their = DoubleSpent (record { dot = d; our = record { 0 = our }; their = record { 0 = their } })

-- what is answered of the first that is spotted
abbrev pub verdict : Option Sight → Result ⊤ MergeRefused
verdict none = Ok tt
verdict (some s) = Err (spent_is s.dot s.our s.their)

-- the n entries of a good image stand at places, each with its clock inside the bytes
pub record Listed (s places : List ℕ) (n : ℕ) : Type 0 where
  pub few : n ≤ 64
  pub good : good_image s ≡ true
  pub rows : map (row_at s) (take n places) ≡ (image_of s).entries
  pub clock : (i : ℕ) → i < n → Stands s (get_or places i 0 + 4)

-- their dots, walked along past an actor: what they say of it, and for each later one the rest is as good as all
pub record Walked (all rest : Clock) (actor count : ℕ) : Type 0 where
  pub counted : count ≡ said dots actor (reach dots actor all)
  pub later : (k : ℕ) → actor < k → reach dots k (reach dots actor all) ≡ reach dots k rest

-- ---- keys, by which most pairs of entries are told apart

-- a counter's lowest 16 bits, and `missing` for an actor that isn't there
unfoldable pub key_of : ℕ → ℕ → ℕ
key_of missing n = pick (eqb n 0) missing (n % 65536)

-- the keys of a clock along the actors of v
unfoldable pub keys_of : ℕ → Clock → Clock → List ℕ
keys_of missing v c = map (key_of missing) (along dots (map (λ d. actor_of d) v) c)

-- line j, 16 numbers from 16 j on, has the keys of the j-th of the n entries at places, along the m actors of v
pub record Keyed (v : Clock) (s places lines : List ℕ) (n m : ℕ) : Type 0 where
  pub long : length lines ≡ 1024
  pub line : (j k : ℕ) → j < n → k < m → get_or lines (16 * j + k) 0 ≡ get_or (keys_of 0 v (clock_at s (get_or places j 0 + 4))) k 0

-- the first n of our keys differ from those of line j
pub record Apart (keys lines : List ℕ) (j n : ℕ) : Type 0 where
  pub differ : (k : ℕ) → k < n → get_or keys k 0 ≡ get_or lines (16 * j + k) 0 → ⊥
