-- What is proved of specs/ByDots.antt.
use Rattle.std.specs.Prelude.{ℕ, suc, ◌≤◌, max, ◌≡◌, refl, Bool, true, false, ◌&&◌, ◌||◌, List}
use Rattle.std.proofs.Common.{sym, ◌∙◌, arith}
use Rattle.std.proofs.Math.Path.{ap, ap₂}
use Rattle.std.proofs.Math.Bool.{not, and-true}
use Rattle.std.proofs.Math.Option.{Option, none}
use Rattle.std.proofs.Math.Dec.{eqb}
use Rattle.tables.specs.Table.{get, join, pick, pick_all, ext, normal_join, get_join}
use Rattle.dots.specs.Dot.{clocks}
use Rattle.dots.specs.Clock.{Clock, count, covers, merged}
use Rattle.dots.specs.ClockLaws.{merged_count, merged_normal, dots_ext}
use Rattle.replica.specs.Replica.{Entry, Replica, entries, waits, entry, wait_at, holds, seen, killed}
use Rattle.replica.specs.Rules.{unite, settle, stay, stay_at, staying, together, merge}
use Rattle.replica.specs.OneDot.{kept_one}
use Rattle.replica.proofs.OneDotFacts.{keep_one}
use Rattle.replica.proofs.WaitsFacts.{joined_get, joined_normal, joined_kills, unite_good}
use Rattle.replica.specs.Removes.{FineEntries}
use Rattle.replica.specs.WellFormed.{Fine}
use Rattle.replica.proofs.Settle.{Loose, settle_holds, settle_wait, settle_fine}
use Rattle.replica.specs.Merged.{Merged, live}
use Rattle.replica.specs.ByDots.{live_at, by_dots}

-- ---- the entries of two replicas, by a test of which dots are kept

module _ (keep : ℕ → ℕ → ℕ → Bool) (A B : Replica) where
  abbrev keep_at : ℕ → ℕ → ℕ
  keep_at m a = kept_one (keep m a) (count (entry A m) a) (count (entry B m) a)

  abbrev keep_in : ℕ → Clock
  keep_in m = join clocks (keep_at m) (entry A m) (entry B m)

  abbrev keeping : List Entry
  keeping = join entries keep_in A.entries B.entries

  keeping_get : (m : ℕ) → get entries keeping m ≡ keep_in m
  keeping_get m = get_join entries keep_in A.entries B.entries (λ m e f. ap₂ (join clocks (keep_at m)) e f) m

  keeping_fine : Fine B → FineEntries keeping
  keeping_fine g = record {
    rows = normal_join entries keep_in A.entries B.entries g.entries_ok;
    each = λ m. rw (keeping_get m) (normal_join clocks (keep_at m) (entry A m) (entry B m) (g.each m));
  }

  keeping_count : (m a : ℕ) → count (get entries keeping m) a ≡ keep_at m a
  keeping_count m a =
      ap (λ (c : Clock). count c a) (keeping_get m)
      ∙ get_join clocks (keep_at m) (entry A m) (entry B m) (λ a e f. pick_all (keep m a (count (entry A m) a)) (keep m a (count (entry B m) a)) e f) a

  keeping_within : Fine A → Fine B → (m a : ℕ) → count (get entries keeping m) a ≤ count (merged A.clock B.clock) a
  keeping_within h g m a =
      rw (keeping_count m a, merged_count A.clock B.clock a)
      (least (keep m a (count (entry A m) a)) (keep m a (count (entry B m) a)) _ _ _ _ (h.within m a) (g.within m a))
    where
      least : (b c : Bool) (x y v w : ℕ) → x ≤ v → y ≤ w → pick b x (pick c y 0) ≤ max v w
      least true c x y v w p q = omega arith
      least false true x y v w p q = omega arith
      least false false x y v w p q = omega arith

-- ---- the rule

module _ (A B : Replica) (h : Fine A) (g : Fine B) where
  pub together_loose : Loose (together A B)
  unfolding staying stay_at
  together_loose = record {
    clock_ok = merged_normal A.clock B.clock g.clock_ok;
    entries_ok = (keeping_fine (stay A B) A B g).rows;
    each = (keeping_fine (stay A B) A B g).each;
    waiting_ok = joined_normal A.waiting B.waiting g.waiting_ok;
    within = keeping_within (stay A B) A B h g;
    late = λ c ms e. unite_good c (wait_at A c) (wait_at B c) (h.late c) (g.late c) ms (sym (joined_get A.waiting B.waiting c) ∙ e);
  }

  -- "a dot stays in a member's entry if both hold it, or one holds it and the other's V doesn't cover it"
  pub together_holds : (m a n : ℕ) → holds (together A B) m a (suc n) ≡ stay A B m a (suc n)
  unfolding staying stay_at stay holds seen
  together_holds m a n =
      ap (λ (x : ℕ). eqb x (suc n)) (keeping_count (stay A B) A B m a)
      ∙ simp and-true at (keep_one (count (entry A m) a) (count (entry B m) a) (count A.clock a) (count B.clock a) (λ n. false) (λ n. false) (h.within m a) (g.within m a) n)

  together_killed : (m a n : ℕ) → killed (together A B) m a n ≡ (killed A m a n || killed B m a n)
  unfolding killed
  together_killed m a n = joined_kills A.waiting B.waiting h.waiting_ok g.waiting_ok m a n

  merge_dots : (m a n : ℕ) → holds (settle (together A B)) m a (suc n) ≡ live A B m a (suc n)
  unfolding live
  merge_dots m a n =
      settle_holds (together A B) together_loose m a n
      ∙ ap₂ (λ (x y : Bool). x && not y) (together_holds m a n) (together_killed m a (suc n))

  pub merge_is : Merged A B (merge A B)
  unfolding merge settle
  merge_is = record {
    fine = settle_fine (together A B) together_loose;
    clock_is = merged_count A.clock B.clock;
    holds_is = merge_dots;
    wait_is = λ c.
        settle_wait (together A B) together_loose c
        ∙ ap (pick (covers (merged A.clock B.clock) c) none) (joined_get A.waiting B.waiting c);
  }

module _ (A B : Replica) (h : Fine A) (g : Fine B) where
  by_dots_holds : (m a n : ℕ) → holds (by_dots A B) m a (suc n) ≡ live A B m a (suc n)
  unfolding by_dots live_at live stay holds seen
  by_dots_holds m a n =
      ap (λ (x : ℕ). eqb x (suc n)) (keeping_count (live A B) A B m a)
      ∙ keep_one (count (entry A m) a) (count (entry B m) a) (count A.clock a) (count B.clock a) (killed A m a) (killed B m a) (h.within m a) (g.within m a) n

  pub literal : merge A B ≡ by_dots A B
  unfolding by_dots live_at merge settle holds unite
  literal = λ i. record { clock = merged A.clock B.clock; entries = same_entries i; waiting = same_waiting i }
    where
      M : Replica
      M = merge A B

      r : Merged A B M
      r = merge_is A B h g

      es : FineEntries (keeping (live A B) A B)
      es = keeping_fine (live A B) A B g

      same_entries : M.entries ≡ keeping (live A B) A B
      same_entries = ext entries M.entries (keeping (live A B) A B) r.fine.entries_ok es.rows
          (λ m. dots_ext (entry M m) (get entries (keeping (live A B) A B) m) (r.fine.each m) (es.each m) (λ a n. merge_dots A B h g m a n ∙ sym (by_dots_holds m a n)))

      left : Clock → Option (List ℕ)
      left c = pick (covers (merged A.clock B.clock) c) none (unite (wait_at A c) (wait_at B c))

      same_waiting : M.waiting ≡ join waits left A.waiting B.waiting
      same_waiting = ext waits M.waiting (join waits left A.waiting B.waiting) r.fine.waiting_ok (normal_join waits left A.waiting B.waiting g.waiting_ok)
          (λ c. r.wait_is c ∙ sym (get_join waits left A.waiting B.waiting (λ c e f. pick_all (covers (merged A.clock B.clock) c) true refl (ap₂ unite e f)) c))
