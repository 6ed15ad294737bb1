-- Histories of calls on images, and what is taken down in them.
use Rattle.std.specs.Prelude.{ℕ, ◌≡◌, false, List, [], ◌∷◌, T, eqb}
use Rattle.tables.specs.Table.{pick, any, every}
use Rattle.replica.specs.Limits.{full}
use Rattle.replica.specs.History.{Event, run}
use Rattle.replica.specs.HistoryLaws.{fair}
use Rattle.replica.specs.StaysDown.{forgets}
use Rattle.layout.specs.Image.{image_of}
use Rattle.std.specs.Prelude.{Result}
use Rattle.dots.specs.declared.refusals.Refused.{Refused}
use Rattle.dots.specs.Answers.{number_in}
use Rattle.results.specs.Call.{Meets}
use Rattle.claims.specs.Granted.{WellFormed, image}
use Rattle.claims.specs.Requests.{Request, call_on, event_of, Lent}

-- the promise of a request on an image: r is its answer, and `after` are the output's bytes where `before` was lent
abbrev pub Answers : Request → List ℕ → List ℕ → Result ℕ Refused → List ℕ → Type 0
Answers q a before r after = Meets full (call_on q a) before r after

-- the image after a call: what it wrote, or the one before where it was refused
abbrev pub next : List ℕ → Result ℕ Refused → List ℕ → List ℕ
next a r after = pick (eqb (number_in r) 0) (image r after) a

-- From image to image: one call after the other, granted or refused, each on the image that the one before left.
pub data History : List ℕ → List Request → List ℕ → Type 0 where
  ends : {a : List ℕ} → History a [] a
  goes : {a before after z : List ℕ} {q : Request} {later : List Request} {r : Result ℕ Refused} → Lent q → Answers q a before r after → History (next a r after) later z → History a (q ∷ later) z

-- ---- a history of images is the history, on replicas, of the calls that were granted

-- no call forgets the dot (x, n): none is a reset whose clock covers it
abbrev pub Unforgotten : List Request → ℕ → ℕ → Type 0
Unforgotten later x n = any (λ q. forgets x n (event_of q)) later ≡ false

pub record Ran (a : List ℕ) (later : List Request) (z : List ℕ) : Type 0 where
  pub granted : List Event
  pub all_fair : T (every fair granted)
  pub end_formed : WellFormed z
  pub end_says : image_of z ≡ run granted (image_of a)
  pub no_more : (x n : ℕ) → Unforgotten later x n → any (forgets x n) granted ≡ false
