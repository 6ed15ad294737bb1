use mathlib.Core.Path.{◌≡◌}
use lib.ListN.{drop, take}
use Rattle.dots.specs.Covering.{cover_of}
use Rattle.places.proofs.covers.Given as goal

abbrev pub invariant-loop-d : goal.invariant-loop-d
invariant-loop-d l = cover_of (drop l.d-index l.d-items) l.left ≡ cover_of (take l.fn.n l.fn.a) (take l.fn.m l.fn.b)
