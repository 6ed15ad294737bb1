-- A dot is one event of one actor. The table of dots: the key is the actor, the value its counter, and a missing actor counts 0.
use Prim.Native.Nat.{ℕ, zero, suc, compare, Ordering}
use Rattle.std.specs.Prelude.{◌≡◌, refl}
use Rattle.std.proofs.Common.{sym, ap, ap₂, ◌∙◌}
use Rattle.std.proofs.lemmas.Bool.{false≢true}
use Rattle.std.proofs.Math.Option.{Option, none, some}
use Rattle.tables.specs.Order.{Order, next, nat_order, turn_next, next_eq, next_trans}
use Rattle.tables.specs.Table.{Kind, is_some}
use Rattle.tables.specs.Zip.{Rows, kind}
use Rattle.dots.specs.declared.Dot.{Dot}

-- the actor's number: here alone `Actor` is opened
abbrev pub actor_of : Dot → ℕ
actor_of d = d.actor.0

abbrev pub dot : ℕ → ℕ → Dot
dot a n = record { actor = record { 0 = a }; counter = n }

-- the place of a clock that is not in use
abbrev pub no_dot : Dot
no_dot = dot 0 0

-- ---- the table of dots

-- a dot with counter 0 says nothing
abbrev pub dot? : ℕ → ℕ → Option Dot
dot? a zero = none
dot? a (suc n) = some (dot a (suc n))

abbrev pub counter_of : Option Dot → ℕ
counter_of none = 0
counter_of (some d) = d.counter

pub dot_val : (a n : ℕ) → counter_of (dot? a n) ≡ n
dot_val a zero = refl
dot_val a (suc n) = refl

pub dot_key : (a n : ℕ) (d : Dot) → dot? a n ≡ some d → actor_of d ≡ a
dot_key a zero d e = absurd (false≢true (ap is_some e))
dot_key a (suc n) d e = let s : dot a (suc n) ≡ d = cc in ap actor_of (sym s)

abbrev pub dots : Rows
dots = record { Row = Dot; Val = ℕ; key = actor_of; row = dot?; val = counter_of; val_row = dot_val; key_row = dot_key; row_none = λ a. refl }

abbrev pub clocks : Kind
clocks = kind dots

-- ---- the order of dots: actor, then counter

abbrev pub cmp_dot : Dot → Dot → Ordering
cmp_dot d e = next (compare (actor_of d) (actor_of e)) (compare d.counter e.counter)

pub dot_order : Order cmp_dot
dot_order = record {
  same = λ d e h.
      let p = next_eq (compare (actor_of d) (actor_of e)) (compare d.counter e.counter) h in
      λ i. dot (nat_order.same (actor_of d) (actor_of e) p.0 i) (nat_order.same d.counter e.counter p.1 i);
  back = λ d e. ap₂ next (nat_order.back (actor_of d) (actor_of e)) (nat_order.back d.counter e.counter)
      ∙ sym (turn_next (compare (actor_of d) (actor_of e)) (compare d.counter e.counter));
  trans = λ d e f. next_trans compare nat_order (actor_of d) (actor_of e) (actor_of f) (compare d.counter e.counter) (compare e.counter f.counter) (compare d.counter f.counter)
      (nat_order.trans d.counter e.counter f.counter);
}
