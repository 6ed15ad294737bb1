-- The calls' answers, from what the code was told on its way.
use Prim.Native.Nat.{ℕ, zero, suc, ◌+◌, ◌≤◌, ◌<◌}
use mathlib.Core.Path.{◌≡◌, refl, sym, ap, ◌∙◌}
use mathlib.Core.Bool.{Bool, true, false, not, ◌&&◌}
use mathlib.Core.Option as math
use Rattle.std.specs.Prelude.{Option, Some, None, is_some, slice_get, IfSome, option_copied, ok_or, Result, Ok, Err}
use Rattle.std.specs.Bool.{then_some}
use Rattle.std.proofs.Common.{Bor, ltb, ltb-false, ltb-true}
use Rattle.std.proofs.lemmas.Option.{slice_get_past, slice_get_read}
use mathlib.Core.List.{List, [], ◌∷◌}
use native.Mathlib.Omega.{arith}
use lib.Dec.{eqb, eqb-suc-zero, lt→ltb}
use lib.ListN.{length, take, get_or, length-take}
use borrow.Author.Tests.{le-ltb, lt-ltb}
use Rattle.tables.specs.Table.{Normal, every, cons?, pick}
use Rattle.tables.specs.Refusal.{first_of}
use Rattle.dots.specs.declared.Dot.{Dot}
use Rattle.dots.specs.declared.DotRange.{DotRange}
use Rattle.dots.specs.Calls.{standing, named}
use Rattle.clocks.proofs.Steps.{and-true, but}
use Rattle.std.specs.declared.cmp.Ordering.{Ordering}
use Rattle.dots.specs.declared.refusals.Refused.{Refused}
use Rattle.dots.specs.declared.refusals.Refused.TheVariants.{BadClock, ManyActors}
use Rattle.dots.specs.declared.refusals.OpRefused.TheVariants.{Refused as RefusedWith, Gap}
use Rattle.dots.specs.Answers.{answer, refusal}
use Rattle.dots.specs.Dot.{clocks, actor_of, dot, dot?}
use Rattle.dots.specs.Calls.{inc_of}
use Rattle.dots.specs.Clock.{Clock, count, covers, filled, merged, applied, reset_by, intersection, glb, gap}
use Rattle.dots.specs.ClockLaws.{proper_dot}
use Rattle.dots.specs.Covering.{cover_of, cover_is}
use Rattle.dots.specs.Ruled.{same_zip, beyond_zip, glb_length, intersection_length, reset_length, applied_normal, applied_merged, applied_empty}
use Rattle.places.specs.declared.Rule.{Rule}
use Rattle.places.specs.declared.Rule.TheVariants.{Larger, Smaller, Same, Beyond}
use Rattle.places.specs.declared.Joined.{Joined}
use Rattle.places.specs.Places.{joined}
use Rattle.places.specs.Turn.{rule_of}
use Rattle.places.specs.Walked.{walked, walked_is}
use Rattle.clocks.specs.declared.VClock.{VClock}
use Rattle.clocks.specs.VClock.{dots_of, vclock, normalised, each, few, dots_normal, len_vclock, dots_vclock, vclock_normalised}
use Rattle.clocks.specs.Calls.{zipped, judged, clock_answer, unfit, inc_call, validate_op_call, join_call, apply_call, merge_call, reset_call, intersection_call, glb_call, dot_at}

-- ---- what a judged clock's answer says, and the same of another value

pub judged_at : {A : Type 0} (cs : List VClock) (a : A) (b : Bool) → every normalised cs ≡ b → judged cs a ≡ pick b (Ok a) (Err BadClock)
unfolding judged first_of answer refusal
judged_at cs a true e = simp e
judged_at cs a false e = simp e

pub judged_self : (c : VClock) → ok_or (then_some (normalised c) c) BadClock ≡ judged (c ∷ []) c
judged_self c = go (normalised c) refl
  where
    go : (b : Bool) → normalised c ≡ b → ok_or (then_some b c) BadClock ≡ judged (c ∷ []) c
    go true e = sym (judged_at (c ∷ []) c true (and-true (normalised c) ∙ e))
    go false e = sym (judged_at (c ∷ []) c false (and-true (normalised c) ∙ e))

module _ {A : Type 0} (cs : List VClock) (a : A) where
  pub is_fit : {x : A} → Ok x ≡ judged cs a → (every normalised cs ≡ true) × (x ≡ a)
  is_fit {x} e = go (every normalised cs) refl
    where
      go : (b : Bool) → every normalised cs ≡ b → (every normalised cs ≡ true) × (x ≡ a)
      go true h = (h, let f : ◌≡◌ {A = Result A Refused} (Ok x) (Ok a) = e ∙ judged_at cs a true h in cc)
      go false h = let f : ◌≡◌ {A = Result A Refused} (Ok x) (Err BadClock) = e ∙ judged_at cs a false h in cc

  pub is_unfit : {r : Refused} → Err r ≡ judged cs a → (every normalised cs ≡ false) × (r ≡ BadClock)
  is_unfit {r} e = go (every normalised cs) refl
    where
      go : (b : Bool) → every normalised cs ≡ b → (every normalised cs ≡ false) × (r ≡ BadClock)
      go true h = let f : ◌≡◌ {A = Result A Refused} (Err r) (Ok a) = e ∙ judged_at cs a true h in cc
      go false h = (h, let f : ◌≡◌ {A = Result A Refused} (Err r) (Err BadClock) = e ∙ judged_at cs a false h in cc)

module _ {A B : Type 0} (cs : List VClock) (a : A) (b : B) where
  pub still_ok : {x : A} → Ok x ≡ judged cs a → Ok b ≡ judged cs b
  still_ok e = sym (judged_at cs b true (is_fit cs a e).0)

  pub still_err : {r : Refused} → Err r ≡ judged cs a → Err r ≡ judged cs b
  still_err e = let u = is_unfit cs a e in ap Err u.1 ∙ sym (judged_at cs b false u.0)

-- the same of one clock
pub alone_fit : (c : VClock) (b : Bool) → every normalised (c ∷ []) ≡ b → normalised c ≡ b
alone_fit c b e = sym (and-true (normalised c)) ∙ e

-- ---- an order and a dot

none_named : (p q : Bool) → not (is_some (named (standing p q))) ≡ not p && not q
none_named true true = refl
none_named true false = refl
none_named false true = refl
none_named false false = refl

pub concurrent_says : (p q : Bool) (o : Option Ordering) (r : Bool) → o ≡ named (standing p q) → is_some o ≡ not r → r ≡ not p && not q
concurrent_says p q o r e h = but refl (sym h) ∙ ap (λ (x : Option Ordering). not (is_some x)) e ∙ none_named p q

-- ---- the places of a record

pub none_there : (l : List Dot) (n : ℕ) → n ≤ length l → eqb n 0 ≡ not (filled (take n l))
unfolding filled
none_there l zero h = refl
none_there [] (suc n) h = absurd (omega arith)
none_there (d ∷ l) (suc n) h = eqb-suc-zero n

pub copied_is : (xs : List Dot) (i : ℕ) (o : Option (Bor Dot)) → is_some o ≡ ltb i (length xs) → IfSome o (λ x. x.now ≡ get_or xs i x.now) → option_copied o ≡ slice_get xs i
copied_is xs i None p q = sym (slice_get_past xs i (ltb-false i (length xs) (sym p)))
copied_is xs i (Some x) p q = sym (slice_get_read xs (length xs) i x.now refl (ltb-true i (length xs) (sym p)) q)

pub dot_is : (l : List Dot) (i : ℕ) → slice_get l i ≡ dot_at l i
dot_is [] i = refl
dot_is (d ∷ l) zero = refl
dot_is (d ∷ l) (suc i) = dot_is l i

-- ---- two clocks under a rule

-- the walk along both, in places
pub zip_is : (r : Rule) (a b : VClock) → every normalised (a ∷ b ∷ []) ≡ true → (z : Joined) → z ≡ joined (walked (rule_of r) (dots_of a) (dots_of b))
    → ◌≡◌ {A = VClock} (record { dots = z.dots; len = z.len }) (vclock (zipped r (dots_of a) (dots_of b)))
unfolding vclock zipped joined
zip_is r a b e z is =
    let n = each a b e in
    let w = walked_is (rule_of r) (dots_of a) (dots_of b) (dots_normal a n.0).asc (dots_normal b n.1).asc in
    let j = is ∙ ap joined w in
    λ i. record { dots = (j i).dots; len = (j i).len }

pub covers_is : (a b : VClock) → every normalised (a ∷ b ∷ []) ≡ true → (r : Bool) → r ≡ cover_of (dots_of a) (dots_of b) → r ≡ covers (dots_of a) (dots_of b)
covers_is a b e r is = let n = each a b e in is ∙ cover_is (dots_of a) (dots_of b) (dots_normal a n.0) (dots_normal b n.1)

pub merge_join : (a b : VClock) → join_call Larger a b ≡ merge_call a b
unfolding join_call merge_call zipped rule_of merged
merge_join a b = refl

-- under a rule that leaves at most the first one's dots there is room
module _ (r : Rule) (op : Clock → Clock → Clock) (is : (x y : Clock) → Normal clocks x → Normal clocks y → zipped r x y ≡ op x y)
    (short : (x y : Clock) → Normal clocks x → Normal clocks y → length (op x y) ≤ length x) (a b : VClock) where
  roomy : join_call r a b ≡ clock_answer (first_of (unfit (a ∷ b ∷ []) ∷ [])) (op (dots_of a) (dots_of b))
  unfolding join_call clock_answer first_of answer refusal
  roomy = go (every normalised (a ∷ b ∷ [])) refl
    where
      go : (t : Bool) → every normalised (a ∷ b ∷ []) ≡ t → join_call r a b ≡ clock_answer (first_of (unfit (a ∷ b ∷ []) ∷ [])) (op (dots_of a) (dots_of b))
      go true e =
          let n = each a b e in
          let na = dots_normal a n.0 in
          let nb = dots_normal b n.1 in
          let z = is (dots_of a) (dots_of b) na nb in
          let s = short (dots_of a) (dots_of b) na nb in
          let f = few a n.0 in
          let l : length (dots_of a) ≤ 16 = simp length-take (omega arith) in
          simp (e, z, le-ltb 16 (length (op (dots_of a) (dots_of b))) (omega arith))
      go false e = simp e

pub glb_join : (a b : VClock) → join_call Smaller a b ≡ glb_call a b
unfolding glb_call zipped rule_of glb
glb_join = roomy Smaller glb (λ x y nx ny. refl) glb_length

pub intersection_join : (a b : VClock) → join_call Same a b ≡ intersection_call a b
unfolding intersection_call zipped rule_of
intersection_join = roomy Same intersection same_zip intersection_length

pub reset_join : (a b : VClock) → join_call Beyond a b ≡ reset_call a b
unfolding reset_call zipped rule_of
reset_join = roomy Beyond (λ x y. reset_by y x) beyond_zip reset_length

-- ---- one dot

alone : (d : Dot) → length (applied [] d) ≤ 16
alone d = rw applied_empty (go d.counter)
  where
    go : (n : ℕ) → length (cons? (dot? (actor_of d) n) []) ≤ 16
    go zero = omega arith
    go (suc n) = omega arith

pub apply_join : (c : VClock) (d : Dot) → join_call Larger c (vclock (applied [] d)) ≡ apply_call c d
unfolding apply_call merge_call
apply_join c d =
    let n = vclock_normalised (applied [] d) (alone d) (applied_normal [] d) in
    merge_join c (vclock (applied [] d)) ∙ simp (n, dots_vclock (applied [] d) (alone d), applied_merged (dots_of c) d)

-- the successor of a dot that was found
pub inc_unfit : (c : VClock) (a : ℕ) → every normalised (c ∷ []) ≡ false → Err BadClock ≡ inc_call c a
unfolding inc_call answer refusal first_of
inc_unfit c a e = simp e

pub inc_granted : (c : VClock) (a : ℕ) → every normalised (c ∷ []) ≡ true → inc_of (dot a (count (dots_of c) a)) ≡ inc_call c a
unfolding inc_call inc_of first_of
inc_granted c a e = simp e

-- ---- a clock in an answer

module _ (r : Rule) (a b : VClock) where
  pub unfit_join : every normalised (a ∷ b ∷ []) ≡ false → Err BadClock ≡ join_call r a b
  unfolding join_call clock_answer first_of answer refusal
  unfit_join e = simp e

  module _ (e : every normalised (a ∷ b ∷ []) ≡ true) (k : VClock) (is : k ≡ vclock (zipped r (dots_of a) (dots_of b))) where
    long : k.len ≡ length (zipped r (dots_of a) (dots_of b))
    long = ap (λ (v : VClock). v.len) is ∙ len_vclock (zipped r (dots_of a) (dots_of b))

    pub crowded_join : 16 < k.len → Err ManyActors ≡ join_call r a b
    unfolding join_call clock_answer first_of answer refusal
    crowded_join h = let l = long in simp (e, lt-ltb 16 (length (zipped r (dots_of a) (dots_of b))) (omega arith))

    pub granted_join : k.len ≤ 16 → Ok k ≡ join_call r a b
    unfolding join_call clock_answer first_of answer
    granted_join h = let l = long in simp (e, le-ltb 16 (length (zipped r (dots_of a) (dots_of b))) (omega arith), is)

-- the clock of one dot
pub from_nothing : (d : Dot) → d.counter ≡ 0 → applied [] d ≡ []
from_nothing d e = applied_empty d ∙ rw e

pub from_one : (d : Dot) → (d.counter ≡ 0 → ⊥) → applied [] d ≡ d ∷ []
from_one d n = applied_empty d ∙ ap (λ (o : math.Option Dot). cons? o []) (proper_dot d (lt→ltb 0 d.counter (omega arith)))

-- ---- a gap

module _ (c : VClock) (d : Dot) where
  pub op_unfit : every normalised (c ∷ []) ≡ false → Err (RefusedWith BadClock) ≡ validate_op_call c d
  unfolding validate_op_call refusal first_of
  op_unfit e = simp (alone_fit c false e)

  pub op_valid : every normalised (c ∷ []) ≡ true → gap (dots_of c) d ≡ math.none → Ok tt ≡ validate_op_call c d
  unfolding validate_op_call first_of
  op_valid e g = simp (alone_fit c true e, g)

  pub op_gap : every normalised (c ∷ []) ≡ true → (r : DotRange) → gap (dots_of c) d ≡ math.some r → Err (Gap r) ≡ validate_op_call c d
  unfolding validate_op_call first_of
  op_gap e r g = simp (alone_fit c true e, g)

pub no_gap : (c : Clock) (d : Dot) → d.counter ≤ count c (actor_of d) + 1 → gap c d ≡ math.none
unfolding gap
no_gap c d h = rw (le-ltb (count c (actor_of d) + 1) d.counter h)

pub a_gap : (c : Clock) (d : Dot) → count c (actor_of d) + 1 < d.counter → gap c d ≡ math.some (record { actor = d.actor; start = count c (actor_of d) + 1; end = d.counter })
unfolding gap
a_gap c d h = rw (lt-ltb (count c (actor_of d) + 1) d.counter h)
