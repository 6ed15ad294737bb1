-- The search of the loops is document 01's: where clocks ascend, what it finds is the first reportable triple of all.
use Prim.Native.Nat.{ℕ, ◌+◌}
use mathlib.Core.Path.{◌≡◌, refl, sym, ap, ap₂, ◌∙◌}
use mathlib.Core.Bool.{Bool, true, false}
use mathlib.Core.Option
use mathlib.Core.Option.{Option, none, some}
use mathlib.Core.List.{List, [], ◌∷◌, ◌++◌, map}
use native.Mathlib.Omega.{arith}
use lib.Dec.{eqb}
use lib.ListN.{length, take, get_or, replicate}
use lib.Seq.{take-length}
use Rattle.tables.specs.Table.{pick, is_some, get, All, all_map}
use Rattle.tables.specs.Zip.{Rise}
use Rattle.tables.specs.Refusal.{first_of}
use Rattle.dots.specs.Dot.{actor_of, dots, clocks}
use Rattle.dots.specs.Clock.{Clock, count}
use Rattle.replica.specs.Replica.{Entry, Replica}
use Rattle.replica.specs.Validate.{Triple, reportable, with_theirs, triples, first, first_spent, Spent, spent_of, validate_merge}
use Rattle.replica.specs.Limits.{full}
use Rattle.layout.specs.Rows.{row_at, row_end, places_at}
use Rattle.layout.specs.Image.{image_of, good_image, entries_start, entries_count}
use Rattle.layout.proofs.KitFacts.{stands, length_starts_at, place_good}
use Rattle.layout.specs.Formed.{EntryFine}
use Rattle.layout.proofs.Checks.{passed}
use Rattle.image.specs.declared.Image.{Image}
use Rattle.image.specs.Image.{image_of_bytes, check_image}
use Rattle.image.proofs.Link.{image_good}
use Rattle.checked.proofs.Known.{known}
use Rattle.kills.specs.Laws.{along_is}
use Rattle.kills.proofs.Steps.{taken}
use Rattle.std.specs.Prelude.{Some, Result, Err, ⊤}
use Rattle.dots.specs.declared.refusals.Refused.TheVariants.{BadImage, BadSecond}
use Rattle.dots.specs.Answers.{refusal}
use Rattle.validating.specs.declared.MergeRefused.{MergeRefused}
use Rattle.validating.specs.declared.MergeRefused.TheVariants.{Refused}
use Rattle.validating.specs.Search.{Sight, sight, reportable as reportableBy, spotted, with_counts, sights, sights_beside, sights_of, verdict, Listed}
use Rattle.validating.specs.Calls.{merge_answer, validate_merge_call}

mapped_append : {X Y : Type 0} (f : X → Y) (xs ys : List X) → map f (xs ++ ys) ≡ map f xs ++ map f ys
mapped_append f [] ys = refl
mapped_append {X} {Y} f (x ∷ xs) ys = ap (λ (l : List Y). f x ∷ l) (mapped_append f xs ys)

first_mapped : {X Y : Type 0} (f : X → Y) (p : Y → Bool) (xs : List X) → first p (map f xs) ≡ Option.map f (first (λ x. p (f x)) xs)
first_mapped f p [] = refl
first_mapped {X} {Y} f p (x ∷ xs) = go (p (f x)) (first_mapped f p xs)
  where
    go : (b : Bool) → first p (map f xs) ≡ Option.map f (first (λ x. p (f x)) xs) → pick b (some (f x)) (first p (map f xs)) ≡ Option.map f (pick b (some x) (first (λ x. p (f x)) xs))
    go true h = refl
    go false h = h

-- ---- the sights are the triples

abbrev pub sight_of : Triple → Sight
sight_of t = sight t.our.member t.their.member t.dot (count t.their.clock (actor_of t.dot))

abbrev Ascends : Entry → Type 0
Ascends e = Rise dots e.clock

counts_are : (o t : Entry) (ds : Clock) → with_counts o.member t.member ds (map (λ a. get clocks t.clock a) (map (λ d. actor_of d) ds)) ≡ map sight_of (map (λ d. record { our = o; their = t; dot = d }) ds)
counts_are o t [] = refl
counts_are o t (d ∷ ds) = ap (λ (l : List Sight). sight o.member t.member d (count t.clock (actor_of d)) ∷ l) (counts_are o t ds)

pub sights_are : (o t : Entry) → Ascends o → Ascends t → sights o.member t.member o.clock t.clock ≡ map sight_of (map (λ d. record { our = o; their = t; dot = d }) o.clock)
sights_are o t p q = ap (with_counts o.member t.member o.clock) (along_is dots (map (λ d. actor_of d) o.clock) t.clock p q) ∙ counts_are o t o.clock

beside_are : (o : Entry) (ts : List Entry) → Ascends o → All Ascends ts → sights_beside o ts ≡ map sight_of (with_theirs o ts)
beside_are o [] p q = refl
beside_are o (t ∷ ts) p q =
    ap₂ ◌++◌ (sights_are o t p q.0) (beside_are o ts p q.1) ∙ sym (mapped_append sight_of (map (λ d. record { our = o; their = t; dot = d }) o.clock) (with_theirs o ts))

sights_all : (os ts : List Entry) → All Ascends os → All Ascends ts → sights_of os ts ≡ map sight_of (triples os ts)
sights_all [] ts p q = refl
sights_all (o ∷ os) ts p q = ap₂ ◌++◌ (beside_are o ts p.0 q) (sights_all os ts p.1 q) ∙ sym (mapped_append sight_of (with_theirs o ts) (triples os ts))

-- ---- the answer

spotted_first : (xs : List Triple) → first (λ t. spotted (sight_of t)) xs ≡ first reportable xs
unfolding spotted reportable reportableBy
spotted_first xs = refl

abbrev answer_of : Option Spent → Result ⊤ MergeRefused
answer_of x = merge_answer (pick (is_some x) 12 0) x

found_is : (A B : Replica) → All Ascends A.entries → All Ascends B.entries → verdict (first spotted (sights_of A.entries B.entries)) ≡ answer_of (validate_merge A B)
unfolding validate_merge first_spent
found_is A B p q =
    ap (λ (l : List Sight). verdict (first spotted l)) (sights_all A.entries B.entries p q)
    ∙ ap verdict (first_mapped sight_of spotted (triples A.entries B.entries))
    ∙ ap (λ (o : Option Triple). verdict (Option.map sight_of o)) (spotted_first (triples A.entries B.entries))
    ∙ go (first reportable (triples A.entries B.entries))
  where
    go : (o : Option Triple) → verdict (Option.map sight_of o) ≡ answer_of (Option.map spent_of o)
    go none = refl
    go (some t) = refl

-- ---- of two images

-- the entries of a good image stand at its places
pub listed : (s : List ℕ) (x : Image) → Some x ≡ check_image s → Listed s (take x.entries x.places) (length (take x.entries x.places))
unfolding image_of_bytes
listed s x c =
    let t = image_good s x c in
    let h = passed s t.0 in
    let n = entries_count s in
    let ps = places_at s (entries_start s) n in
    let w : take x.entries x.places ≡ ps =
    ap (λ (y : Image). take y.entries y.places) t.1 ∙ taken (replicate 64 0) ps n (length_starts_at row_end s (entries_start s) n) h.few_members in
    let f = known s x c in
    let l : length (take x.entries x.places) ≡ n = ap length w ∙ length_starts_at row_end s (entries_start s) n in
    record {
      few = omega (arith, h.few_members);
      good = f.is_good;
      rows = rw (take-length (take x.entries x.places)) f.rows_are;
      clock = λ i q. rw w (stands s (get_or ps i 0 + 4) (place_good s (entries_start s) 0 n i h.rows_good (omega arith)));
    }

ascend_good : (a : List ℕ) → good_image a ≡ true → All Ascends (image_of a).entries
ascend_good a g = all_map (EntryFine full (image_of a)) Ascends (image_of a).entries (λ e f. f.normal_ok.asc) (passed a g).formed.entries_ok

module _ (a b : List ℕ) where
  both_good : good_image a ≡ true → good_image b ≡ true → verdict (first spotted (sights_of (image_of a).entries (image_of b).entries)) ≡ validate_merge_call a b
  unfolding validate_merge_call first_of
  both_good p q = found_is (image_of a) (image_of b) (ascend_good a p) (ascend_good b q) ∙ rw (p, q) (go (validate_merge (image_of a) (image_of b)))
    where
      go : (x : Option Spent) → answer_of x ≡ merge_answer (pick (is_some x) 12 0) (pick (eqb (pick (is_some x) 12 0) 12) x none)
      go none = refl
      go (some x) = refl

  pub both_found : (ours theirs : List ℕ) → Listed a ours (length ours) → Listed b theirs (length theirs)
      → verdict (first spotted (sights_of (map (row_at a) ours) (map (row_at b) theirs))) ≡ validate_merge_call a b
  both_found ours theirs h k =
      let e : map (row_at a) ours ≡ (image_of a).entries = ap (map (row_at a)) (sym (take-length ours)) ∙ h.rows in
      let f : map (row_at b) theirs ≡ (image_of b).entries = ap (map (row_at b)) (sym (take-length theirs)) ∙ k.rows in
      rw (e, f) (both_good h.good k.good)

  pub bad_second : good_image a ≡ true → good_image b ≡ false → Err (Refused BadSecond) ≡ validate_merge_call a b
  unfolding validate_merge_call first_of refusal
  bad_second p q = rw (p, q)

  pub bad_first : good_image a ≡ false → Err (Refused BadImage) ≡ validate_merge_call a b
  unfolding validate_merge_call first_of refusal
  bad_first p = rw p
