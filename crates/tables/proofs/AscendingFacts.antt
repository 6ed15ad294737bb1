-- What is proved of specs/Ascending.antt.
use Prim.Native.Nat.{Ordering}
use Rattle.std.specs.Prelude.{◌≡◌, refl, T}
use mathlib.Core.List.{List, [], ◌∷◌}
use Rattle.tables.specs.Order.{Order}
use Rattle.tables.specs.Truth.{and_l, and_r, and_i}
use Rattle.tables.specs.Table.{Asc, Below, below_trans}
use Rattle.tables.specs.Ascending.{is_lt, before, ascending}

pub is_lt_so : (o : Ordering) → T (is_lt o) → o ≡ Ordering.lt
is_lt_so Ordering.lt t = refl
is_lt_so Ordering.eq t = absurd t
is_lt_so Ordering.gt t = absurd t

module _ {K : Type 0} (cmp : K → K → Ordering) (O : Order cmp) where
  before_below : (k : K) (ks : List K) → T (before cmp k ks) → Asc cmp ks → Below cmp k ks
  unfolding before
  before_below k [] t h = tt
  before_below k (j ∷ js) t h = let e = is_lt_so (cmp k j) t in (e, below_trans cmp O k j js e h.0)

  below_before : (k : K) (ks : List K) → Below cmp k ks → T (before cmp k ks)
  unfolding before
  below_before k [] h = tt
  below_before k (j ∷ js) h = rw h.0 tt

  pub asc_from : (ks : List K) → T (ascending cmp ks) → Asc cmp ks
  unfolding ascending
  asc_from [] t = tt
  asc_from (k ∷ ks) t =
      let h = asc_from ks (and_r (before cmp k ks) (ascending cmp ks) t) in
      (before_below k ks (and_l (before cmp k ks) (ascending cmp ks) t) h, h)

  pub asc_to : (ks : List K) → Asc cmp ks → T (ascending cmp ks)
  unfolding ascending
  asc_to [] h = tt
  asc_to (k ∷ ks) h = and_i (before cmp k ks) (ascending cmp ks) (below_before k ks h.0) (asc_to ks h.1)
