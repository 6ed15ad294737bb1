-- What is proved of specs/Removes.antt.
use Rattle.std.specs.Prelude.{ℕ, suc, ◌≡◌, refl, Bool, not, ◌&&◌, ◌||◌, List, [], ◌∷◌, eqb, leb}
use Rattle.std.proofs.Common.{sym, ap, ◌∙◌}
use Rattle.std.proofs.Math.Bool.{true, false, and-true}
use Rattle.std.proofs.Math.Option.{Option, some}
use Rattle.tables.specs.Table.{get, Normal, Proper, pick, pick_both, any, normal_sift, get_sift}
use Rattle.dots.specs.Dot.{clocks}
use Rattle.dots.specs.Clock.{Clock, count, reset_by}
use Rattle.dots.specs.ClockLaws.{reset_normal, reset_dot}
use Rattle.replica.specs.Replica.{Entry, Wait, entry?, entries, member_sets, holds_in, kills}
use Rattle.replica.specs.Rules.{remove_from, removes_from}
use Rattle.replica.specs.Removes.{FineEntries}

-- ---- one remove

module _ (w : Wait) where
  abbrev leave : Entry → Option Entry
  leave e = pick (get member_sets w.members e.member) (entry? e.member (reset_by w.clock e.clock)) (some e)

  abbrev left : ℕ → Clock → Clock
  left m c = pick (get member_sets w.members m) (reset_by w.clock c) c

  says : (e : Entry) → Proper entries e → leave e ≡ entry? e.member (left e.member e.clock)
  says e p = go (get member_sets w.members e.member)
    where
      go : (b : Bool) → pick b (entry? e.member (reset_by w.clock e.clock)) (some e) ≡ entry? e.member (pick b (reset_by w.clock e.clock) e.clock)
      go true = refl
      go false = sym p

  pub remove_get : (es : List Entry) → Normal entries es → (m : ℕ)
      → get entries (remove_from w es) m ≡ pick (get member_sets w.members m) (reset_by w.clock (get entries es m)) (get entries es m)
  unfolding remove_from reset_by
  remove_get es h m = get_sift entries leave left says (λ m. pick_both (get member_sets w.members m) []) es h m

  pub fine_remove : (es : List Entry) → FineEntries es → FineEntries (remove_from w es)
  unfolding remove_from
  fine_remove es h = record {
    rows = normal_sift entries leave left says es h.rows;
    each = λ m. rw (remove_get es h.rows m) (go m (get member_sets w.members m));
  }
    where
      go : (m : ℕ) (b : Bool) → Normal clocks (pick b (reset_by w.clock (get entries es m)) (get entries es m))
      go m true = reset_normal w.clock (get entries es m) (h.each m)
      go m false = h.each m

  -- a dot is left unless the remove names its member and covers it
  pub remove_dot : (es : List Entry) → FineEntries es → (m a n : ℕ) → holds_in (remove_from w es) m a (suc n) ≡ (holds_in es m a (suc n) && not (kills m a (suc n) w))
  remove_dot es h m a n = rw (remove_get es h.rows m) (go (get member_sets w.members m))
    where
      go : (b : Bool) → eqb (count (pick b (reset_by w.clock (get entries es m)) (get entries es m)) a) (suc n) ≡ (holds_in es m a (suc n) && not (b && leb (suc n) (count w.clock a)))
      go true = reset_dot w.clock (get entries es m) (h.each m) a n
      go false = sym (and-true (holds_in es m a (suc n)))

-- ---- one after the other

pub fine_removes : (ws : List Wait) (es : List Entry) → FineEntries es → FineEntries (removes_from ws es)
unfolding removes_from
fine_removes [] es h = h
fine_removes (w ∷ ws) es h = fine_removes ws (remove_from w es) (fine_remove w es h)

-- a dot is left if none of them names its member and covers it
pub removes_dot : (ws : List Wait) (es : List Entry) → FineEntries es → (m a n : ℕ)
    → holds_in (removes_from ws es) m a (suc n) ≡ (holds_in es m a (suc n) && not (any (kills m a (suc n)) ws))
unfolding removes_from
removes_dot [] es h m a n = sym (and-true (holds_in es m a (suc n)))
removes_dot (w ∷ ws) es h m a n =
    removes_dot ws (remove_from w es) (fine_remove w es h) m a n
    ∙ ap (λ (b : Bool). b && not (any (kills m a (suc n)) ws)) (remove_dot w es h m a n)
    ∙ nor (holds_in es m a (suc n)) (kills m a (suc n) w) (any (kills m a (suc n)) ws)
  where
    nor : (a b c : Bool) → (a && not b && not c) ≡ (a && not (b || c))
    nor true true c = refl
    nor true false c = refl
    nor false b c = refl
