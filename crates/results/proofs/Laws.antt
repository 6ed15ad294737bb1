-- What is proved of specs/Laws.antt.
use Prim.Native.Nat.{ℕ, zero, suc, ◌≤◌, ◌<◌, compare}
use Rattle.std.specs.Prelude.{Result, Ok, ◌≡◌, refl, ◌↔◌, ◌⊎◌, Bool, T, ltb}
use Rattle.std.proofs.Common.{sym, ◌∙◌, inl, inr, ⊎_elim, zero-add}
use Rattle.std.proofs.Math.Path.{ap}
use Rattle.std.proofs.Math.Bool.{true, false}
use Rattle.std.proofs.lemmas.Bool.{false≢true}
use mathlib.Core.List.{List, [], ◌∷◌, ◌++◌}
use native.Mathlib.Omega.{arith}
use Rattle.std.proofs.Math.Dec.{eqb, eqb-suc-zero}
use Rattle.std.proofs.Math.ListN.{length, drop}
use Rattle.std.proofs.Math.Seq.{sets, length-sets, take-append_seam, drop-append_seam}
use Rattle.std.proofs.lemmas.List.Edits.{sets-eq}
use borrow.Author.Tests.{eq-eqb, ne_eqb, ltb-true, ltb-false, lt-ltb, le-ltb}
use Rattle.tables.specs.Order.{nat_order, nat_lt}
use Rattle.tables.specs.Truth.{and_l, and_r, and_i}
use Rattle.tables.specs.Ascending.{is_lt, before, ascending}
use Rattle.tables.proofs.AscendingFacts.{is_lt_so, asc_from}
use Rattle.tables.specs.Zip.{by_lt}
use Rattle.tables.specs.Table.{pick, All, all_map, any}
use Rattle.tables.specs.Refusal.{Refusal, ◌if◌, first_of, Numbered, NoneApplies, First}
use Rattle.tables.proofs.RefusalFacts.{first_right, first_lowest, first_append, done_right}
use Rattle.replica.specs.Replica.{Replica}
use Rattle.replica.specs.Limits.{Limits, limits_of, broken, Within}
use Rattle.replica.proofs.LimitsFacts.{broken_right, unbroken_right}
use Rattle.layout.specs.Image.{encode}
use Rattle.dots.specs.declared.refusals.Refused.{Refused}
use Rattle.dots.specs.Answers.{refusal, number, number_in, answer}
use Rattle.dots.proofs.AnswersFacts.{number_in_answer, answer_done, answer_ok, answer_err}
use Rattle.results.specs.Call.{Call, length_in, finish_of, table_of, number_of, answered, answer_of, output_of, Meets}
use Rattle.results.specs.Laws.{numbers, Orderly, in_turn, Turn, Wrote, by_argument, by_limit, by_room, by_none}

-- ---- so the whole table ascends, and has no 0

module _ (l : Limits) (A : Replica) (room : ℕ) where
  ascends : (k : ℕ) (rs : List Refusal) → T (ascending compare (k ∷ (numbers rs ++ 6 ∷ []))) → T (ascending compare (k ∷ numbers (rs ++ finish_of l A room)))
  unfolding ascending before limits_of
  ascends k [] t = t
  ascends k (r ∷ rs) t = and_i (is_lt (compare k r.number)) (ascending compare (r.number ∷ numbers (rs ++ finish_of l A room)))
      (and_l (is_lt (compare k r.number)) (ascending compare (r.number ∷ (numbers rs ++ 6 ∷ []))) t)
      (ascends r.number rs (and_r (is_lt (compare k r.number)) (ascending compare (r.number ∷ (numbers rs ++ 6 ∷ []))) t))

-- the arguments' numbers are above 0 and below 6
between : (k : ℕ) (rs : List Refusal) → T (ascending compare (k ∷ (numbers rs ++ 6 ∷ []))) → (k < 6) × All (λ r. (0 < r.number) × (r.number < 6)) rs
unfolding ascending before
between k [] t = (nat_lt k 6 (is_lt_so (compare k 6) (and_l (is_lt (compare k 6)) true t)), tt)
between k (r ∷ rs) t =
    let b = nat_lt k r.number (is_lt_so (compare k r.number) (and_l (is_lt (compare k r.number)) (ascending compare (r.number ∷ (numbers rs ++ 6 ∷ []))) t)) in
    let s = between r.number rs (and_r (is_lt (compare k r.number)) (ascending compare (r.number ∷ (numbers rs ++ 6 ∷ []))) t) in
    (omega arith, ((omega arith, s.0), s.1))

first_six : (rs : List Refusal) → All (λ r. r.number < 6) rs → first_of rs < 6
unfolding first_of
first_six [] h = omega arith
first_six (r ∷ rs) h = go r.applies h.0 (first_six rs h.1)
  where
    go : (b : Bool) → r.number < 6 → first_of rs < 6 → pick b r.number (first_of rs) < 6
    go true p q = p
    go false p q = q

turn : (x y : ℕ) (short : Bool) → Turn x y short (in_turn x y short)
turn zero zero true = by_room refl refl refl refl
turn zero zero false = by_none refl refl refl refl
turn zero (suc y) short = by_limit refl (omega arith) (rw (eqb-suc-zero y))
turn (suc x) y short = by_argument (omega arith) (rw (eqb-suc-zero x))

module _ {x y n : ℕ} {short : Bool} (small : x < 6) where
  argument_turn : (k : ℕ) → 0 < k → k < 6 → (y ≡ 0) ⊎ (5 < y) → Turn x y short n → (n ≡ k) ↔ (x ≡ k)
  argument_turn k p q h (by_argument u e) = (λ z. omega arith, λ z. omega arith)
  argument_turn k p q h (by_limit u v e) = (λ z. absurd (⊎_elim (λ a. omega arith) (λ a. omega arith) h), λ z. absurd (omega arith))
  argument_turn k p q h (by_room u v w e) = (λ z. absurd (omega arith), λ z. absurd (omega arith))
  argument_turn k p q h (by_none u v w e) = (λ z. absurd (omega arith), λ z. absurd (omega arith))

  limit_turn : (k : ℕ) → 5 < k → k < 10 → Turn x y short n → (n ≡ k) ↔ ((x ≡ 0) × (y ≡ k))
  limit_turn k p q (by_argument u e) = (λ z. absurd (omega arith), λ z. absurd (omega arith))
  limit_turn k p q (by_limit u v e) = (λ z. (u, omega arith), λ z. omega arith)
  limit_turn k p q (by_room u v w e) = (λ z. absurd (omega arith), λ z. absurd (omega arith))
  limit_turn k p q (by_none u v w e) = (λ z. absurd (omega arith), λ z. absurd (omega arith))

  room_turn : y < 10 → Turn x y short n → (n ≡ 10) ↔ ((x ≡ 0) × (y ≡ 0) × (short ≡ true))
  room_turn q (by_argument u e) = (λ z. absurd (omega arith), λ z. absurd (omega arith))
  room_turn q (by_limit u v e) = (λ z. absurd (omega arith), λ z. absurd (omega arith))
  room_turn q (by_room u v w e) = (λ z. (u, v, w), λ z. e)
  room_turn q (by_none u v w e) = (λ z. absurd (omega arith), λ z. absurd (false≢true (sym w ∙ z.2)))

  ten_turn : y < 10 → Turn x y short n → n ≤ 10
  ten_turn q (by_argument u e) = omega arith
  ten_turn q (by_limit u v e) = omega arith
  ten_turn q (by_room u v w e) = omega arith
  ten_turn q (by_none u v w e) = omega arith

  none_turn : Turn x y short n → (n ≡ 0) ↔ ((x ≡ 0) × (y ≡ 0) × (short ≡ false))
  none_turn (by_argument u e) = (λ z. absurd (omega arith), λ z. absurd (omega arith))
  none_turn (by_limit u v e) = (λ z. absurd (omega arith), λ z. absurd (omega arith))
  none_turn (by_room u v w e) = (λ z. absurd (omega arith), λ z. absurd (false≢true (sym z.2 ∙ w)))
  none_turn (by_none u v w e) = (λ z. (u, v, w), λ z. e)

-- the limits have the numbers 6 to 9
limit_range : (l : Limits) (A : Replica) → (broken l A < 10) × ((broken l A ≡ 0) ⊎ (5 < broken l A))
unfolding broken limits_of first_of
limit_range l A = go (ltb l.actors (length A.clock)) (ltb l.members (length A.entries)) (ltb l.waiting (length A.waiting)) (any (λ w. ltb l.named (length w.members)) A.waiting)
  where
    given : Bool → Bool → Bool → Bool → ℕ
    given a b c d = pick a 6 (pick b 7 (pick c 8 (pick d 9 0)))

    go : (a b c d : Bool) → (given a b c d < 10) × ((given a b c d ≡ 0) ⊎ (5 < given a b c d))
    go true b c d = (omega arith, inr (omega arith))
    go false true c d = (omega arith, inr (omega arith))
    go false false true d = (omega arith, inr (omega arith))
    go false false false true = (omega arith, inr (omega arith))
    go false false false false = (omega arith, inl refl)

-- ---- the number

past_ten : (n : ℕ) → 10 < n → number (refusal n) ≡ 10
unfolding refusal
past_ten n h = rw (ne_eqb n 1 (λ e. omega arith), ne_eqb n 2 (λ e. omega arith), ne_eqb n 3 (λ e. omega arith), ne_eqb n 4 (λ e. omega arith), ne_eqb n 5 (λ e. omega arith), ne_eqb n 6 (λ e. omega arith), ne_eqb n 7 (λ e. omega arith), ne_eqb n 8 (λ e. omega arith), ne_eqb n 9 (λ e. omega arith))

-- a refusal's number below 10 is that of the answer; each other is answered as 10
below_is : (n k long : ℕ) → 0 < k → k < 10 → number_in (answer n long) ≡ k → n ≡ k
below_is n k long p q e =
    by_lt 10 n
    (λ h. let z = ap number_in (answer_err n long (λ i. omega arith)) in let y = past_ten n h in absurd (omega arith))
    (λ h. sym (number_in_answer n long h) ∙ e)

module _ (l : Limits) (c : Call) (before : List ℕ) (r : Result ℕ Refused) (after : List ℕ) (kept : Meets l c before r after) where
  abbrev table : List Refusal
  table = table_of l c (length before)

  abbrev short : Bool
  short = ltb (length before) (length (encode c.result))

  answer_is : r ≡ answer (first_of table) (length (encode c.result))
  unfolding answer_of answered number_of
  answer_is = kept.answer

  -- "The lowest number that applies is given", of any call, whatever its numbers: what is answered is the number of the definition, and that is k
  -- exactly if the condition of k holds and none before it in the table does
  pub number_answered : (k : ℕ) → 0 < k → (r ≡ answered (number_of l c (length before)) (length (encode c.result))) × ((number_of l c (length before) ≡ k) ↔ First table k)
  unfolding answer_of number_of
  number_answered k p = (kept.answer, first_right table k p)

  -- nothing is refused exactly if no condition holds
  none_is : number_in r ≡ 0 → first_of table ≡ 0
  none_is z = answer_done (first_of table) (length (encode c.result)) (sym (ap number_in answer_is) ∙ z)

  -- a number below 10 is given exactly if its condition holds and none before it in the table does
  pub number_below : (k : ℕ) → 0 < k → k < 10 → (number_in r ≡ k) ↔ First table k
  number_below k p q =
      let f = first_right table k p in
      let e : number_in r ≡ number_in (answer (first_of table) (length (encode c.result))) = ap number_in answer_is in (
        λ z. f.0 (below_is (first_of table) k (length (encode c.result)) p q (sym e ∙ z)),
        λ z. let n = f.1 z in e ∙ number_in_answer (first_of table) (length (encode c.result)) (omega arith) ∙ n,
      )

  module _ (orderly : Orderly c) where
    in_order : T (ascending compare (0 ∷ numbers table))
    in_order = ascends l c.result (length before) 0 c.refusals orderly

    numbered : Numbered c.refusals
    numbered = all_map (λ q. (0 < q.number) × (q.number < 6)) (λ q. 0 < q.number) c.refusals (λ q h. h.0) (between 0 c.refusals orderly).1

    small : first_of c.refusals < 6
    small = first_six c.refusals (all_map (λ q. (0 < q.number) × (q.number < 6)) (λ q. q.number < 6) c.refusals (λ q h. h.1) (between 0 c.refusals orderly).1)

    turn_of : Turn (first_of c.refusals) (broken l c.result) short (first_of table)
    unfolding broken limits_of first_of
    turn_of = rw (first_append c.refusals (finish_of l c.result (length before)) numbered
        ∙ ap (λ (n : ℕ). pick (eqb (first_of c.refusals) 0) n (first_of c.refusals))
        (first_append (limits_of l c.result) (10 if short ∷ []) (omega arith, (omega arith, (omega arith, (omega arith, tt))))))
        (turn (first_of c.refusals) (broken l c.result) short)

    number_is : number_in r ≡ first_of table
    number_is = ap number_in answer_is ∙ number_in_answer (first_of table) (length (encode c.result)) (ten_turn small (limit_range l c.result).0 turn_of)

    in_turn_of : Turn (first_of c.refusals) (broken l c.result) short (number_in r)
    in_turn_of = rw number_is turn_of

    -- and so is each number of an orderly call
    pub number_right : (k : ℕ) → 0 < k → (number_in r ≡ k) ↔ First table k
    number_right k p = rw number_is (first_right table k p)

    -- "The lowest number that applies is given."
    pub number_lowest : All (λ q. q.applies ≡ true → number_in r ≤ q.number) table
    number_lowest = rw number_is (first_lowest table (asc_from compare nat_order (0 ∷ numbers table) in_order).1)

    arguments : (first_of c.refusals ≡ 0) ↔ NoneApplies c.refusals
    arguments = done_right c.refusals numbered

    -- 1 to 5 are given exactly if the arguments are refused so
    pub argument_exactly : (k : ℕ) → 0 < k → k < 6 → (number_in r ≡ k) ↔ First c.refusals k
    argument_exactly k p q =
        let t = argument_turn small k p q (limit_range l c.result).1 in_turn_of in
        let f = first_right c.refusals k p in
        (λ z. f.0 (t.0 z), λ z. t.1 (f.1 z))

    -- 6 to 9 are given exactly if the arguments pass, and that limit is the first that the finished result breaks
    pub limit_exactly : (k : ℕ) → 5 < k → k < 10 → (number_in r ≡ k) ↔ (NoneApplies c.refusals × First (limits_of l c.result) k)
    limit_exactly k p q =
        let t = limit_turn small k p q in_turn_of in
        let f = broken_right l c.result k (omega arith) in
        (λ z. (arguments.0 (t.0 z).0, f.0 (t.0 z).1), λ z. t.1 (arguments.1 z.0, f.1 z.1))

    -- 10 is given exactly if the arguments pass, the limits hold, and the output is shorter than the result
    pub room_exactly : (number_in r ≡ 10) ↔ (NoneApplies c.refusals × Within l c.result × (length before < length (encode c.result)))
    room_exactly =
        let t = room_turn small (limit_range l c.result).0 in_turn_of in
        let f = unbroken_right l c.result in (
          λ z. (arguments.0 (t.0 z).0, f.0 (t.0 z).1, ltb-true (length before) (length (encode c.result)) (t.0 z).2),
          λ z. t.1 (arguments.1 z.0, f.1 z.1, lt-ltb (length before) (length (encode c.result)) z.2),
        )

    -- 0 is given exactly if the arguments pass, the limits hold, and the output has room
    pub done_exactly : (number_in r ≡ 0) ↔ (NoneApplies c.refusals × Within l c.result × (length (encode c.result) ≤ length before))
    done_exactly =
        let t = none_turn small in_turn_of in
        let f = unbroken_right l c.result in (
          λ z. (arguments.0 (t.0 z).0, f.0 (t.0 z).1, ltb-false (length before) (length (encode c.result)) (t.0 z).2),
          λ z. t.1 (arguments.1 z.0, f.1 z.1, le-ltb (length before) (length (encode c.result)) z.2),
        )

  -- ---- what a refusal leaves

  -- "A refusal changes no lent memory and carries .. zeros beside its number"
  pub refused_keeps : (number_in r ≡ 0 → ⊥) → (after ≡ before) × (length_in r ≡ 0)
  unfolding output_of number_of
  refused_keeps z =
      let k : first_of table ≡ 0 → ⊥ = λ e. z (ap number_in (answer_is ∙ ap (λ (n : ℕ). answer n (length (encode c.result))) e ∙ answer_ok (length (encode c.result)))) in
      let n : eqb (first_of table) 0 ≡ false = ne_eqb (first_of table) 0 k in
      (kept.output ∙ rw n, ap length_in (answer_is ∙ answer_err (first_of table) (length (encode c.result)) k))

-- ---- what a granted call writes

from_zero : (before image : List ℕ) → length image ≤ length before → sets before 0 image ≡ image ++ drop (length image) before
from_zero before image k = rw (sets-eq image before 0 (omega arith), zero-add (length image))

module _ (l : Limits) (c : Call) (before : List ℕ) (r : Result ℕ Refused) (after : List ℕ) (kept : Meets l c before r after) (orderly : Orderly c) (done : number_in r ≡ 0) where
  abbrev image : List ℕ
  image = encode c.result

  roomy : length image ≤ length before
  roomy = ((done_exactly l c before r after kept orderly).0 done).2

  none_applies : first_of (table_of l c (length before)) ≡ 0
  none_applies = none_is l c before r after kept done

  pub granted_is : r ≡ Ok (length image)
  granted_is = answer_is l c before r after kept ∙ ap (λ (n : ℕ). answer n (length image)) none_applies ∙ answer_ok (length image)

  pub granted_writes : Wrote c before r after
  unfolding output_of number_of
  granted_writes =
      let z : eqb (first_of (table_of l c (length before))) 0 ≡ true = eq-eqb (first_of (table_of l c (length before))) 0 none_applies in
      let n : length_in r ≡ length image = ap length_in granted_is in
      let k = roomy in
      let o : after ≡ sets before 0 image = kept.output ∙ rw z in
      let s : after ≡ image ++ drop (length image) before = o ∙ from_zero before image roomy in
      record {
        length_is = n;
        room = omega arith;
        image_is = rw (n, s) (take-append_seam image (drop (length image) before));
        later_kept = rw (n, s) (drop-append_seam image (drop (length image) before));
        length_kept = ap length o ∙ length-sets before 0 image;
      }
