-- An add with a gap, before a merge and after it, by computing.
use Rattle.std.specs.Prelude.{◌≡◌, refl, ◌≢◌, true, false, [], ◌∷◌, T}
use Rattle.std.proofs.Common.{sym, ap, ◌∙◌}
use Rattle.std.proofs.lemmas.Bool.{false≢true}
use Rattle.tables.specs.Ascending.{ascending, before}
use Rattle.tables.specs.Table.{alls}
use Rattle.tables.specs.Zip.{zip}
use Rattle.dots.specs.Dot.{dot}
use Rattle.dots.specs.Clock.{normal, filled, covers, merged, applied, reset_by}
use Rattle.replica.specs.Replica.{Replica, is_in, holds, seen}
use Rattle.replica.specs.Rules.{set_of, unite, join_waits, remove_from, removes_from, settle, takes, add, remove, stay, stay_at, staying, merge}
use Rattle.replica.specs.WellFormed.{entry_tests, tests, sound}
use Rattle.offices.specs.Gaps.{empty, seven}

-- the empty replica takes 2.4 of 0, and so its V covers 2.1, which it never saw: in the merge 7 is gone
pub gap_loses : (is_in (merge (add (dot 2 4) (0 ∷ []) empty) seven) 7 ≡ false) × (is_in (add (dot 2 4) (0 ∷ []) (merge empty seven)) 7 ≡ true)
unfolding covers merged applied reset_by zip is_in holds seen set_of unite join_waits remove_from removes_from settle takes add remove stay stay_at staying merge
gap_loses = (refl, refl)

-- so the two replicas differ, though both sides are well-formed
pub gap_differs : T (sound empty) × T (sound seven) × (merge (add (dot 2 4) (0 ∷ []) empty) seven ≢ add (dot 2 4) (0 ∷ []) (merge empty seven))
unfolding sound tests entry_tests alls normal filled covers ascending before
gap_differs = (tt, tt, λ e. false≢true (sym gap_loses.0 ∙ ap (λ (A : Replica). is_in A 7) e ∙ gap_loses.1))
