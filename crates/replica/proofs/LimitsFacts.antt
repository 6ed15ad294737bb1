-- What is proved of specs/Limits.antt.
use Prim.Native.Nat.{ℕ, ◌≤◌, ◌<◌, compare}
use Rattle.std.specs.Prelude.{◌≡◌, ◌↔◌, Bool, true, false, ◌&&◌, [], ◌∷◌, leb, ltb, eqb}
use native.Mathlib.Omega.{arith}
use Rattle.std.proofs.Math.Dec.{T, leb→le, le→leb, eqb→eq}
use Rattle.std.proofs.Math.ListN.{length}
use Rattle.std.proofs.Common.{ltb-false, le-ltb, eq-eqb}
use Rattle.tables.specs.Order.{nat_order}
use Rattle.tables.specs.Ascending.{ascending, before}
use Rattle.tables.proofs.AscendingFacts.{asc_from}
use Rattle.tables.specs.Truth.{and_l, and_r, and_i}
use Rattle.tables.specs.Table.{All, every, all_map, any_none, none_any, every_all, all_every}
use Rattle.tables.specs.Refusal.{first_of, First}
use Rattle.tables.proofs.RefusalFacts.{first_right, first_lowest, done_right}
use Rattle.replica.specs.Replica.{Wait, Replica}
use Rattle.replica.specs.WellFormed.{sound}
use Rattle.replica.specs.Limits.{Limits, limits_of, broken, well_formed, Within}

module _ (l : Limits) (A : Replica) where
  -- the number given is that of the first limit in the order of the table that is broken
  pub broken_right : (k : ℕ) → 0 < k → (broken l A ≡ k) ↔ First (limits_of l A) k
  unfolding broken
  broken_right = first_right (limits_of l A)

  -- "The lowest number that applies is given."
  pub broken_lowest : All (λ r. r.applies ≡ true → broken l A ≤ r.number) (limits_of l A)
  unfolding broken limits_of ascending before
  broken_lowest = first_lowest (limits_of l A) (asc_from compare nat_order (6 ∷ 7 ∷ 8 ∷ 9 ∷ []) tt)

  abbrev crowded : Wait → Bool
  crowded w = ltb l.named (length w.members)

  -- 0 is given exactly if the limits hold
  pub unbroken_right : (broken l A ≡ 0) ↔ Within l A
  unfolding broken limits_of
  unbroken_right = (λ e. there (numbered.0 e), λ w. numbered.1 (back w))
    where
      numbered : (first_of (limits_of l A) ≡ 0) ↔ All (λ r. r.applies ≡ false) (limits_of l A)
      numbered = done_right (limits_of l A) (omega arith, (omega arith, (omega arith, (omega arith, tt))))

      there : All (λ r. r.applies ≡ false) (limits_of l A) → Within l A
      there h = record {
        actors_fit = ltb-false l.actors (length A.clock) h.0;
        members_fit = ltb-false l.members (length A.entries) h.1.0;
        waiting_fit = ltb-false l.waiting (length A.waiting) h.1.1.0;
        named_fit = all_map (λ w. crowded w ≡ false) (λ w. length w.members ≤ l.named) A.waiting
            (λ w e. ltb-false l.named (length w.members) e) (any_none crowded A.waiting h.1.1.1.0);
      }

      back : Within l A → All (λ r. r.applies ≡ false) (limits_of l A)
      back w = (
        le-ltb l.actors (length A.clock) w.actors_fit,
        (
          le-ltb l.members (length A.entries) w.members_fit,
          (
            le-ltb l.waiting (length A.waiting) w.waiting_fit,
            (none_any crowded A.waiting (all_map (λ w. length w.members ≤ l.named) (λ w. crowded w ≡ false) A.waiting (λ w k. le-ltb l.named (length w.members) k) w.named_fit), tt),
          ),
        ),
      )

  -- ---- well-formed: the conditions that are no limits, the limits, and the actors of waiting clocks

  abbrev short : Wait → Bool
  short w = leb (length w.clock) l.actors

  pub well_formed_from : T (well_formed l A) → T (sound A) × (broken l A ≡ 0) × All (λ w. length w.clock ≤ l.actors) A.waiting
  unfolding well_formed
  well_formed_from t =
      let r = and_r (sound A) (eqb (broken l A) 0 && every short A.waiting) t in (
        and_l (sound A) (eqb (broken l A) 0 && every short A.waiting) t,
        eqb→eq (broken l A) 0 (and_l (eqb (broken l A) 0) (every short A.waiting) r),
        all_map (λ w. T (short w)) (λ w. length w.clock ≤ l.actors) A.waiting (λ w k. leb→le (length w.clock) l.actors k)
            (every_all short A.waiting (and_r (eqb (broken l A) 0) (every short A.waiting) r)),
      )

  pub well_formed_to : T (sound A) → broken l A ≡ 0 → All (λ w. length w.clock ≤ l.actors) A.waiting → T (well_formed l A)
  unfolding well_formed
  well_formed_to s b c =
      and_i (sound A) (eqb (broken l A) 0 && every short A.waiting) s
      (and_i (eqb (broken l A) 0) (every short A.waiting) (rw (eq-eqb (broken l A) 0 b) tt)
      (all_every short A.waiting (all_map (λ w. length w.clock ≤ l.actors) (λ w. T (short w)) A.waiting (λ w k. le→leb (length w.clock) l.actors k) c)))
