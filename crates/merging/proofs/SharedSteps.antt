-- Lines of each entry, or one for all: what a turn starts from.
use Rattle.std.specs.Prelude.{ℕ, ◌≤◌, ◌≡◌, List, take, drop, Option}
use Rattle.std.specs.Option.{is_none}
use Rattle.std.proofs.Common.{ap, arith}
use Rattle.merging.specs.declared.entries.Rows.{Rows}
use Rattle.merging.specs.Sifting.{line_for, Shared, SiftReady, Moved}
use Rattle.merging.proofs.SiftSteps.{line_reach}

-- the line of an entry reaches as far as the one for all, where there is one
pub line_shared : (l : List ℕ) (one : Option ℕ) (i : ℕ) (line : List ℕ) → line ≡ take 16 (drop (line_for (is_none one) i) l) → (n : ℕ) → n ≤ 16 → Shared l n one → Shared line n one
line_shared l one i line e n few r = record { reach = λ h f. line_reach l (is_none one) i line e n h few (ap is_none f) (r.reach h f) }

-- what a turn starts from holds after it
pub ready_on : {s vs l : List ℕ} {one : Option ℕ} {w w' : Rows} → SiftReady s vs l one w → Moved s vs l (is_none one) w w' → SiftReady s vs l one w'
ready_on r m =
    let a = r.ahead in
    let ms = m.step in let mr = m.room in let mf = m.few in let rp = r.place in let rk = r.kept in let rf = r.few in
    record {
      lined = r.lined;
      reach = r.reach;
      ahead = record { edge = rw m.edge a.edge; room = rw m.edge a.room; goes = m.goes a.goes };
      few = omega arith;
      place = omega arith;
      kept = omega arith;
    }
