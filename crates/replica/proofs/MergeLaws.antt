-- The laws of merge. Replicas are any that pass the test `sound` (well-formed, limits aside), settled or not; a judge is any judge of the finished
-- replica. Nothing leans on "a dot belongs to one member".
use Rattle.std.specs.Prelude.{ℕ, suc, max, ◌≡◌, ◌↔◌, true, ◌||◌, [], T}
use Rattle.std.proofs.Math.Path.{sym, ap}
use Rattle.std.proofs.Common.{◌∙◌}
use Rattle.std.proofs.Math.Option.{none}
use native.Mathlib.Omega.{arith}
use Rattle.std.proofs.Math.Dec.{eqb→eq}
use Rattle.tables.specs.Table.{pick}
use Rattle.tables.specs.Refusal.{First}
use Rattle.dots.specs.Clock.{Clock, count, covers}
use Rattle.replica.specs.Replica.{Replica, entry, wait_at, is_in, holds, seen, killed}
use Rattle.replica.specs.Rules.{unite, stay, together, merge, settled}
use Rattle.replica.specs.WellFormed.{sound}
use Rattle.replica.proofs.WellFormedFacts.{sound_fine, fine_sound, fine_ext}
use Rattle.replica.specs.Limits.{Limits, limits_of, broken, Within}
use Rattle.replica.proofs.LimitsFacts.{broken_right, unbroken_right}
use Rattle.replica.specs.Judge.{refused, granted, judge, merge_by}
use Rattle.replica.proofs.JudgeFacts.{granted_is, refused_is}
use Rattle.replica.proofs.Settle.{settle_settled}
use Rattle.replica.specs.Merged.{Merged, live}
use Rattle.replica.proofs.MergedFacts.{killed_kept, only_one, merge_swap, merge_self, merge_grouped}
use Rattle.replica.specs.ByDots.{by_dots}
use Rattle.replica.proofs.ByDotsFacts.{together_holds, merge_is, literal}
use Rattle.replica.specs.Membership.{Kept}
use Rattle.replica.proofs.MembershipFacts.{membership}
use Rattle.replica.specs.Report.{payload}
use Rattle.replica.proofs.ReportFacts.{merged_payload, report_elements, report_clock, report_waiting}

-- two well-formed replicas that say the same of every actor, dot and waiting clock are equal
pub replica_ext : (A B : Replica) → T (sound A) → T (sound B) → ((a : ℕ) → count A.clock a ≡ count B.clock a)
    → ((m a n : ℕ) → holds A m a (suc n) ≡ holds B m a (suc n)) → ((c : Clock) → wait_at A c ≡ wait_at B c) → A ≡ B
replica_ext A B s t = fine_ext A B (sound_fine A s) (sound_fine B t)

-- ---- the rule, point by point

module _ (A B : Replica) (s : T (sound A)) (t : T (sound B)) where
  -- `Merged` has the sentences of the rule: what the rule gives keeps them, and whatever keeps them is what the rule gives
  pub merge_says : Merged A B (merge A B)
  merge_says = merge_is A B (sound_fine A s) (sound_fine B t)

  pub merge_only : (M : Replica) → Merged A B M → M ≡ merge A B
  merge_only M r = only_one A B M (merge A B) r merge_says

  -- "V is the larger per actor"
  pub merge_clock : (a : ℕ) → count (merge A B).clock a ≡ max (count A.clock a) (count B.clock a)
  merge_clock = merge_says.clock_is

  -- "a dot stays in a member's entry if both hold it, or one holds it and the other's V doesn't cover it", and no waiting remove of either that
  -- names the member covers it
  pub merge_holds : (m a n : ℕ) → holds (merge A B) m a (suc n) ≡ live A B m a (suc n)
  merge_holds = merge_says.holds_is

  -- "the waiting removes of both, joined by equal clock", less those that V covers
  pub merge_waiting : (c : Clock) → wait_at (merge A B) c ≡ pick (covers (merge A B).clock c) none (unite (wait_at A c) (wait_at B c))
  merge_waiting = merge_says.wait_is

  -- what a waiting remove of either covers, one still does, or V does
  pub merge_killed : (m a n : ℕ) → T (killed A m a n || killed B m a n) → T (killed (merge A B) m a n || seen (merge A B) a n)
  merge_killed = killed_kept A B (merge A B) merge_says (sound_fine A s) (sound_fine B t)

  -- no two dots of one actor stay for one member
  pub merge_one_dot : (m a n k : ℕ) → T (stay A B m a (suc n)) → T (stay A B m a (suc k)) → n ≡ k
  unfolding holds
  merge_one_dot m a n k p q =
      let x = eqb→eq (count (entry (together A B) m) a) (suc n) (rw (together_holds A B (sound_fine A s) (sound_fine B t) m a n) p) in
      let y = eqb→eq (count (entry (together A B) m) a) (suc k) (rw (together_holds A B (sound_fine A s) (sound_fine B t) m a k) q) in
      omega arith

  -- the rule, which works step by step, gives the replica that takes for each member and actor the dot that lives
  pub merge_by_dots : merge A B ≡ by_dots A B
  merge_by_dots = literal A B (sound_fine A s) (sound_fine B t)

  -- the merge is well-formed, and settled
  pub merge_sound : T (sound (merge A B))
  merge_sound = fine_sound (merge A B) merge_says.fine

  pub merge_settled : settled (merge A B) ≡ true
  unfolding merge
  merge_settled = settle_settled (together A B)

  -- a member is in the merge exactly if some dot of it is held by both, or by one while the other's V doesn't cover it, and no waiting remove of
  -- either that names the member covers that dot
  pub merge_members : (m : ℕ) → T (is_in (merge A B) m) ↔ Kept A B m
  merge_members = membership A B (merge A B) (sound_fine A s) (sound_fine B t) merge_says

-- ---- the three laws

pub merge_commutes : (A B : Replica) → T (sound A) → T (sound B) → merge A B ≡ merge B A
merge_commutes A B s t = merge_only B A t s (merge A B) (merge_swap A B (merge A B) (sound_fine A s) (sound_fine B t) (merge_says A B s t))

pub merge_associates : (A B C : Replica) → T (sound A) → T (sound B) → T (sound C) → merge (merge A B) C ≡ merge A (merge B C)
merge_associates A B C s t u =
    merge_only A (merge B C) s (merge_sound B C t u) (merge (merge A B) C)
    (merge_grouped A B C (merge A B) (merge B C) (merge (merge A B) C) (sound_fine A s) (sound_fine B t) (sound_fine C u)
    (merge_says A B s t) (merge_says B C t u) (merge_says (merge A B) C (merge_sound A B s t) u))

pub merge_itself : (A : Replica) → T (sound A) → T (settled A) → merge A A ≡ A
merge_itself A s t = sym (merge_only A A s s A (merge_self A (sound_fine A s) t))

-- ---- the same under any judge of the finished replica

module _ (j : Replica → ℕ) where
  -- swapped sides give the same replica or the same number
  pub swap : (A B : Replica) → T (sound A) → T (sound B) → merge_by j A B ≡ merge_by j B A
  unfolding merge_by
  swap A B s t = ap (judge j) (merge_commutes A B s t)

  -- if the two inner merges are granted, the outer two give the same replica or the same number
  pub grouping : (A B C X Y : Replica) → T (sound A) → T (sound B) → T (sound C) → merge_by j A B ≡ granted X → merge_by j B C ≡ granted Y
      → merge_by j X C ≡ merge_by j A Y
  unfolding merge_by
  grouping A B C X Y s t u x y =
      let p : X ≡ merge A B = (granted_is j (merge A B) X x).0 in
      let q : Y ≡ merge B C = (granted_is j (merge B C) Y y).0 in
      ap (judge j) (ap (λ (Z : Replica). merge Z C) p ∙ merge_associates A B C s t u ∙ sym (ap (merge A) q))

  -- so both groupings give the same replica if all four merges are granted
  pub grouping_granted : (A B C X Y M N : Replica) → T (sound A) → T (sound B) → T (sound C) → merge_by j A B ≡ granted X → merge_by j B C ≡ granted Y
      → merge_by j X C ≡ granted M → merge_by j A Y ≡ granted N → M ≡ N
  grouping_granted A B C X Y M N s t u x y m n = let e : granted M ≡ granted N = sym m ∙ grouping A B C X Y s t u x y ∙ n in cc

  -- a settled replica that the judge grants merges with itself to itself
  pub with_itself : (A : Replica) → T (sound A) → T (settled A) → j A ≡ 0 → merge_by j A A ≡ granted A
  unfolding merge_by judge
  with_itself A s t g = rw (merge_itself A s t, g)

  -- a granted merge has exactly the members that are kept
  pub granted_members : (A B M : Replica) → T (sound A) → T (sound B) → merge_by j A B ≡ granted M → (m : ℕ) → T (is_in M m) ↔ Kept A B m
  unfolding merge_by
  granted_members A B M s t g m = rw (granted_is j (merge A B) M g).0 (merge_members A B s t m)

-- ---- limits: the number is right

module _ (l : Limits) (A B : Replica) where
  -- a merge is refused with the number of the first limit that the finished merge breaks, in the order of the table
  pub refused_right : (k : ℕ) → merge_by (broken l) A B ≡ refused k → First (limits_of l (merge A B)) k
  unfolding merge_by
  refused_right k e = let r = refused_is (broken l) (merge A B) k e in (broken_right l (merge A B) k r.1).0 r.0

  -- a merge that is granted is the finished merge, and breaks none
  pub granted_right : (M : Replica) → merge_by (broken l) A B ≡ granted M → (M ≡ merge A B) × Within l M
  unfolding merge_by
  granted_right M e = let g = granted_is (broken l) (merge A B) M e in (g.0, rw g.0 ((unbroken_right l (merge A B)).0 g.1))

-- ---- the outside definition

-- "The public report .. (INRIA RR-8083, 2012) is the outside definition of merging where neither side has waiting removes."
module _ (A B : Replica) (s : T (sound A)) (t : T (sound B)) (wA : A.waiting ≡ []) (wB : B.waiting ≡ []) where
  pub merge_report : (e c i : ℕ) → (payload (merge A B)).E e c i ↔ (merged_payload (payload A) (payload B)).E e c i
  merge_report = report_elements A B (merge A B) (sound_fine A s) (sound_fine B t) (merge_says A B s t) wA wB

  pub merge_report_clock : (i : ℕ) → (payload (merge A B)).v i ≡ (merged_payload (payload A) (payload B)).v i
  merge_report_clock = report_clock A B (merge A B) (sound_fine A s) (sound_fine B t) (merge_says A B s t) wA wB

  pub merge_report_waiting : (merge A B).waiting ≡ []
  merge_report_waiting = report_waiting A B (merge A B) (sound_fine A s) (sound_fine B t) (merge_says A B s t) wA wB
