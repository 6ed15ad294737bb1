-- Which office has seen how much of an actor.
use Rattle.std.specs.Prelude.{ℕ, ◌≤◌, List}
use Rattle.dots.specs.Clock.{count}
use Rattle.layout.specs.Image.{image_of}

-- the image b has seen no more of the actor than the image a
abbrev pub NotBehind : List ℕ → List ℕ → ℕ → Type 0
NotBehind a b x = count (image_of b).clock x ≤ count (image_of a).clock x
