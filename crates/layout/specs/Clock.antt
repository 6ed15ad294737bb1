-- "A clock is a 32-bit count, then 12 bytes per dot: actor, counter." The width of an actor is a parameter; `dot_at` and the other names
-- at the end of this page are those of document 01, with an actor of 32 bits. A proof opens `dot_at` by `unfolding dot_in`, and so with the others.
use Rattle.std.specs.Prelude.{List, ◌++◌, ℕ, ◌+◌, ◌*◌, ◌^◌, length}
use Rattle.dots.specs.declared.Dot.{Dot}
use Rattle.dots.specs.Dot.{actor_of, dot}
use Rattle.dots.specs.Clock.{Clock}
use Rattle.layout.specs.Fields.{u32_at, u64_at, le32, le64}
use Rattle.layout.specs.Lists.{list_at, bytes_of}

-- how an actor stands in bytes; the numbers below `bound` fit
pub record Width : Type 0 where
  pub bytes : ℕ
  pub bound : ℕ
  pub reads : List ℕ → ℕ → ℕ
  pub writes : ℕ → List ℕ

-- "Actor and member are 32-bit unsigned numbers"
abbrev pub narrow : Width
narrow = record { bytes = 4; bound = 2 ^ 32; reads = u32_at; writes = le32 }

module _ (A : Width) where
  -- a dot: "actor, counter"
  unfoldable pub dot_in : List ℕ → ℕ → Dot
  dot_in s p = dot (A.reads s p) (u64_at s (p + A.bytes))

  abbrev pub dot_end_in : List ℕ → ℕ → ℕ
  dot_end_in s p = p + (A.bytes + 8)

  unfoldable pub encode_dot_in : Dot → List ℕ
  encode_dot_in d = A.writes (actor_of d) ++ le64 d.counter

  abbrev pub dots_in : List ℕ → ℕ → ℕ → List Dot
  dots_in = list_at dot_in dot_end_in

  -- "a 32-bit count, then" its dots
  unfoldable pub clock_in : List ℕ → ℕ → Clock
  clock_in s at = dots_in s (at + 4) (u32_at s at)

  unfoldable pub clock_end_in : List ℕ → ℕ → ℕ
  clock_end_in s at = at + (4 + (A.bytes + 8) * u32_at s at)

  unfoldable pub encode_clock_in : Clock → List ℕ
  encode_clock_in c = le32 (length c) ++ bytes_of encode_dot_in c

-- ---- 12 bytes per dot

abbrev pub dot_at : List ℕ → ℕ → Dot
dot_at = dot_in narrow

abbrev pub dots_at : List ℕ → ℕ → ℕ → List Dot
dots_at = dots_in narrow

abbrev pub encode_dot : Dot → List ℕ
encode_dot = encode_dot_in narrow

abbrev pub encode_dots : Clock → List ℕ
encode_dots = bytes_of encode_dot

abbrev pub clock_at : List ℕ → ℕ → Clock
clock_at = clock_in narrow

abbrev pub clock_end : List ℕ → ℕ → ℕ
clock_end = clock_end_in narrow

abbrev pub encode_clock : Clock → List ℕ
encode_clock = encode_clock_in narrow
