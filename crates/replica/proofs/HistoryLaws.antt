-- What is proved of specs/HistoryLaws.antt.
use Rattle.std.specs.Prelude.{◌≡◌, refl, Bool, true, false, List, [], ◌∷◌, T}
use Rattle.tables.specs.Truth.{and_l, and_r}
use Rattle.tables.specs.Table.{pick, every}
use Rattle.dots.specs.Clock.{covers}
use Rattle.replica.specs.Replica.{Replica}
use Rattle.replica.specs.Rules.{add}
use Rattle.replica.specs.History.{Add, Remove, apply, Event, Apply, MergeWith, MergeInto, Reset, step, run, judged}
use Rattle.replica.specs.WellFormed.{sound}
use Rattle.replica.proofs.AddLaws.{add_seen, added}
use Rattle.replica.proofs.RemoveLaws.{removed}
use Rattle.replica.proofs.ResetLaws.{was_reset}
use Rattle.replica.proofs.MergeLaws.{merge_sound}
use Rattle.replica.specs.HistoryLaws.{fair}

-- ---- every event leaves a replica well-formed

pub step_sound : (e : Event) (A : Replica) → T (fair e) → T (sound A) → T (sound (step e A))
unfolding fair step apply
step_sound (Apply (Add d ms)) A f s = go (covers A.clock (d ∷ [])) refl
  where
    go : (b : Bool) → covers A.clock (d ∷ []) ≡ b → T (sound (add d ms A))
    go true e = rw (add_seen d ms A e) s
    go false e = (added d ms A s e).is_sound
step_sound (Apply (Remove c ms)) A f s = (removed c ms A f s).is_sound
step_sound (MergeWith B) A f s = merge_sound A B s f
step_sound (MergeInto B) A f s = merge_sound B A f s
step_sound (Reset c) A f s = (was_reset c A s).is_sound

-- ---- and so does every history

pub either : (P : Replica → Type 0) (b : Bool) (A B : Replica) → P A → P B → P (pick b A B)
either P true A B p q = p
either P false A B p q = q

-- a history of such events ends in a well-formed replica
pub judged_sound : (grants : Event → Replica → Bool) (later : List Event) (A : Replica) → T (every fair later) → T (sound A) → T (sound (judged grants later A))
unfolding judged
judged_sound grants [] A f s = s
judged_sound grants (e ∷ later) A f s =
    judged_sound grants later (pick (grants e A) (step e A) A) (and_r (fair e) (every fair later) f)
    (either (λ B. T (sound B)) (grants e A) (step e A) A (step_sound e A (and_l (fair e) (every fair later) f) s) s)

-- a history in which every event is granted
pub run_judged : (later : List Event) (A : Replica) → run later A ≡ judged (λ e B. true) later A
unfolding run judged
run_judged [] A = refl
run_judged (e ∷ later) A = run_judged later (step e A)
