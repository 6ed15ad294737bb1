-- What an operation does to a replica that has no waiting remove that its V covers: it stays so. And an add kills nothing more.
use Rattle.std.specs.Prelude.{ℕ, ◌≡◌, refl, Bool, true, false, not, List, [], ◌∷◌, T}
use Rattle.std.proofs.lemmas.Bool.{not-true}
use Rattle.tables.specs.Table.{All, pick, any, any_none, none_any}
use Rattle.dots.specs.declared.Dot.{Dot}
use Rattle.dots.specs.Clock.{Clock, covers}
use Rattle.dots.specs.Rising.{true_from}
use Rattle.replica.specs.Replica.{Wait, Replica, waits, wait_at, killed}
use Rattle.replica.specs.Rules.{unite, join_waits, settle, settled, add, remove}
use Rattle.replica.specs.AddLaws.{Added, taken}
use Rattle.replica.specs.RemoveLaws.{this}
use Rattle.replica.proofs.Lists.{all_zip}
use Rattle.replica.proofs.Settle.{settle_settled}
use Rattle.replica.proofs.WaitsFacts.{killed_from, killed_to, kept_names}
use Rattle.replica.proofs.WellFormedFacts.{sound_fine}

-- after an add no waiting remove covers more than one did
pub killed_fewer : (d : Dot) (ms : List ℕ) (A R : Replica) → Added d ms A R → (m a n : ℕ) → T (killed R m a n) → T (killed A m a n)
killed_fewer d ms A R add m a n t =
    let w = killed_from R m a n (sound_fine R add.is_sound).waiting_ok t in
    killed_to A m a n w.0 (kept_names (covers R.clock w.0) (wait_at A w.0) m (rw (add.wait_is w.0) at w.1)) w.2

-- an add leaves a settled replica settled
pub add_settled : (d : Dot) (ms : List ℕ) (A : Replica) → T (settled A) → T (settled (add d ms A))
unfolding add
add_settled d ms A t = go (covers A.clock (d ∷ []))
  where
    go : (b : Bool) → T (settled (pick b A (settle (taken d ms A))))
    go true = t
    go false = rw (settle_settled (taken d ms A)) tt

-- a remove leaves a settled replica settled
pub remove_settled : (c : Clock) (ms : List ℕ) (A : Replica) → T (settled A) → T (settled (remove c ms A))
unfolding settled remove join_waits
remove_settled c ms A t = go (covers A.clock c) refl
  where
    done : Wait → Bool
    done w = covers A.clock w.clock

    unseen : All (λ w. done w ≡ false) A.waiting
    unseen = any_none done A.waiting (not-true (any done A.waiting) (true_from (not (any done A.waiting)) t))

    go : (b : Bool) → covers A.clock c ≡ b → T (not (any done (pick b A.waiting (join_waits A.waiting (this c ms ∷ [])))))
    go true e = t
    go false e = rw (none_any done (join_waits A.waiting (this c ms ∷ []))
        (all_zip waits (λ k. covers A.clock k ≡ false) (λ k. unite) A.waiting (this c ms ∷ []) unseen (e, tt))) tt
