-- What the loop over the dots of two entries computes.
use Rattle.std.specs.Prelude.{ℕ, zero, suc, ◌+◌, ◌*◌, ◌≤◌, ◌<◌, ◌≡◌, ◌⊎◌, List, [], ◌∷◌, length, get_or}
use Rattle.std.proofs.lemmas.List.Edits.{sets}
use Rattle.tables.specs.Table.{cons?}
use Rattle.tables.specs.Zip.{said, past}
use Rattle.dots.specs.Dot.{dots, dot?}
use Rattle.dots.specs.Clock.{Clock}
use Rattle.layout.specs.Clock.{dots_at, encode_dots}
use Rattle.merging.specs.declared.entries.Dots.{Dots}
use Rattle.merging.specs.declared.entries.Places.{Places}
use Rattle.changing.specs.Kept.{keep_of}

-- dots ahead in bytes, and that they lie inside
abbrev pub dots_in : List ℕ → Dots → Clock
dots_in s k = dots_at s k.at k.left

abbrev pub Inside : List ℕ → Dots → Type 0
Inside s k = k.at + 12 * k.left ≤ length s

-- the dot of an actor, or none where its counter is 0
abbrev pub dot_list : ℕ → ℕ → Clock
dot_list a n = cons? (dot? a n) []

-- an actor with the lines of the two sides
pub record Line : Type 0 where
  pub actor : ℕ
  pub ours : ℕ
  pub theirs : ℕ

unfoldable pub kept_along : List Line → Clock → Clock → Clock
kept_along [] x y = []
kept_along (l ∷ ls) x y =
    cons? (dot? l.actor (keep_of l.ours l.theirs (said dots l.actor x) (said dots l.actor y))) (kept_along ls (past dots l.actor x) (past dots l.actor y))

-- n lines from k on: ka from ja on and kb from ib on have the numbers of the two sides
unfoldable pub lines_from : List ℕ → List ℕ → ℕ → List ℕ → ℕ → ℕ → ℕ → List Line
lines_from vs ka ja kb ib k zero = []
lines_from vs ka ja kb ib k (suc n) = record { actor = get_or vs k 0; ours = get_or ka (ja + k) 0; theirs = get_or kb (ib + k) 0 } ∷ lines_from vs ka ja kb ib (k + 1) n

-- along n actors from k on, each dot of a clock is above the number that a line has for its actor
unfoldable pub Above : List ℕ → List ℕ → ℕ → ℕ → ℕ → Clock → Type 0
Above vs l from k zero x = Unit {0}
Above vs l from k (suc n) x = ((said dots (get_or vs k 0) x ≡ 0) ⊎ (get_or l (from + k) 0 < said dots (get_or vs k 0) x)) × Above vs l from (k + 1) n (past dots (get_or vs k 0) x)

-- x stays whole beside y: there is none, and each dot is above the line; or the two are the same
abbrev pub Stays : List ℕ → List ℕ → ℕ → ℕ → Clock → Clock → Type 0
Stays vs l from n x y = ((y ≡ []) × Above vs l from 0 n x) ⊎ (y ≡ x)

-- dots written from p on; the answer is how many they are
pub record KeptDots (out : List ℕ) (p : ℕ) (ds : Clock) (out' : List ℕ) (r : ℕ) : Type 0 where
  pub count : r ≡ length ds
  pub bytes : out' ≡ sets out p (encode_dots ds)

-- what a step of a walk along actors reads of the dots k in s, and leaves of them: k'
pub record Took (s : List ℕ) (a : ℕ) (k k' : Dots) (r : ℕ) : Type 0 where
  pub is : r ≡ said dots a (dots_in s k)
  pub past : dots_in s k' ≡ past dots a (dots_in s k)
  pub edge : k'.at + 12 * k'.left ≡ k.at + 12 * k.left

-- what one actor's turn leaves
pub record KeptDot (s t : List ℕ) (a la lb : ℕ) (out : List ℕ) (p : ℕ) (k : Places) (out' : List ℕ) (k' : Places) : Type 0 where
  pub left : dots_in s k'.x ≡ past dots a (dots_in s k.x)
  pub right : dots_in t k'.y ≡ past dots a (dots_in t k.y)
  pub left_edge : k'.x.at + 12 * k'.x.left ≡ k.x.at + 12 * k.x.left
  pub right_edge : k'.y.at + 12 * k'.y.left ≡ k.y.at + 12 * k.y.left
  pub count : k'.n ≡ k.n + length (dot_list a (keep_of la lb (said dots a (dots_in s k.x)) (said dots a (dots_in t k.y))))
  pub bytes : out' ≡ sets out (p + 12 * k.n) (encode_dots (dot_list a (keep_of la lb (said dots a (dots_in s k.x)) (said dots a (dots_in t k.y)))))
