-- What is proved of specs/Listed.antt.
use Prim.Native.Nat.{ℕ, compare}
use Rattle.std.specs.Prelude.{◌≡◌, refl, List, []}
use Rattle.std.proofs.Common.{◌∙◌}
use Rattle.std.proofs.Math.Bool.{or-false}
use Rattle.tables.specs.Order.{nat_order}
use Rattle.tables.specs.Table.{Normal, Proper, get, asc_union, has_union, all_any, map_id}
use Rattle.replica.specs.Replica.{member_sets}
use Rattle.replica.specs.Rules.{set_of}
use Rattle.replica.specs.Listed.{listed}

pub set_listed : (ms : List ℕ) (m : ℕ) → get member_sets (set_of ms) m ≡ listed ms m
unfolding set_of
set_listed ms m = has_union compare nat_order m ms [] ∙ or-false (listed ms m)

pub set_normal : (ms : List ℕ) → Normal member_sets (set_of ms)
unfolding set_of
set_normal ms = record { asc = rw (map_id (set_of ms)) (asc_union compare nat_order ms [] tt); proper = all_any (Proper member_sets) (set_of ms) (λ m. refl) }
