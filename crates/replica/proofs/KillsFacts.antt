-- What is proved of specs/Kills.antt.
use Rattle.std.specs.Prelude.{ℕ, suc, ◌<◌, max, ◌≡◌, refl, Bool, true, false, not, ◌&&◌, ◌||◌, List, [], ◌∷◌, leb, ltb}
use Rattle.std.proofs.Common.{sym, ap₂, ◌∙◌, arith, ltb-true, ltb-false, lt-ltb, le-ltb}
use Rattle.std.proofs.lemmas.Bool.{lt-leb}
use Rattle.tables.specs.Table.{get, pick, any, every, All}
use Rattle.dots.specs.Dot.{actor_of}
use Rattle.dots.specs.Clock.{Clock, count}
use Rattle.dots.specs.ClockLaws.{leb_max}
use Rattle.replica.specs.Replica.{Entry, Wait, Replica, member_sets, kills, killed}
use Rattle.replica.specs.WellFormed.{spared}
use Rattle.replica.specs.Kills.{kills_of}

-- a waiting remove that names the member covers a dot exactly if its counter is at most the kill number
pub kills_number : (ws : List Wait) (m a n : ℕ) → any (kills m a (suc n)) ws ≡ leb (suc n) (kills_of ws m a)
unfolding kills_of
kills_number [] m a n = sym (lt-leb (suc n) 0 (omega arith))
kills_number (w ∷ ws) m a n = ap₂ ◌||◌ (go (get member_sets w.members m)) (kills_number ws m a n) ∙ sym (leb_max (suc n) (pick (get member_sets w.members m) (count w.clock a) 0) (kills_of ws m a))
  where
    go : (b : Bool) → (b && leb (suc n) (count w.clock a)) ≡ leb (suc n) (pick b (count w.clock a) 0)
    go true = refl
    go false = sym (lt-leb (suc n) 0 (omega arith))

pub killed_number : (A : Replica) (m a n : ℕ) → killed A m a (suc n) ≡ leb (suc n) (kills_of A.waiting m a)
unfolding killed
killed_number A m a n = kills_number A.waiting m a n

-- ---- an entry that all waiting removes spare: each dot is above its kill number

both_every : {R : Type 0} (p q : R → Bool) (rs : List R) → (every p rs && every q rs) ≡ every (λ r. p r && q r) rs
both_every p q [] = refl
both_every {R} p q (r ∷ rs) = go (p r) (q r) (every p rs) (every q rs) (both_every p q rs)
  where
    go : (a b c d : Bool) → (c && d) ≡ every (λ r. p r && q r) rs → (a && c && (b && d)) ≡ (a && b && every (λ r. p r && q r) rs)
    go true true c d e = e
    go true false true d e = refl
    go true false false d e = refl
    go false b c d e = refl

every_same : {R : Type 0} (P : R → Type 0) (p q : R → Bool) (rs : List R) → All P rs → ((r : R) → P r → p r ≡ q r) → every p rs ≡ every q rs
every_same P p q [] h f = refl
every_same P p q (r ∷ rs) h f = ap₂ ◌&&◌ (f r h.0) (every_same P p q rs h.1 f)

ltb_max : (x y n : ℕ) → (ltb x n && ltb y n) ≡ ltb (max x y) n
ltb_max x y n = go (ltb x n) refl (ltb y n) refl
  where
    go : (a : Bool) → ltb x n ≡ a → (b : Bool) → ltb y n ≡ b → (a && b) ≡ ltb (max x y) n
    go true u true v = let h = ltb-true x n u in let k = ltb-true y n v in sym (lt-ltb (max x y) n (omega arith))
    go true u false v = let k = ltb-false y n v in sym (le-ltb (max x y) n (omega arith))
    go false u b v = let h = ltb-false x n u in sym (le-ltb (max x y) n (omega arith))

pub spared_number : (ws : List Wait) (e : Entry) → All (λ d. 0 < d.counter) e.clock
    → every (spared e) ws ≡ every (λ d. ltb (kills_of ws e.member (actor_of d)) d.counter) e.clock
unfolding kills_of spared
spared_number [] e h = none e.clock h
  where
    none : (c : Clock) → All (λ d. 0 < d.counter) c → true ≡ every (λ d. ltb 0 d.counter) c
    none [] h = refl
    none (d ∷ c) h = rw (lt-ltb 0 d.counter h.0) (none c h.1)
spared_number (w ∷ ws) e h =
    ap₂ ◌&&◌ (one (get member_sets w.members e.member) e.clock h) (spared_number ws e h)
    ∙ both_every (λ d. ltb (pick (get member_sets w.members e.member) (count w.clock (actor_of d)) 0) d.counter) (λ d. ltb (kills_of ws e.member (actor_of d)) d.counter) e.clock
    ∙ every_same (λ d. 0 < d.counter) (λ d. ltb (pick (get member_sets w.members e.member) (count w.clock (actor_of d)) 0) d.counter && ltb (kills_of ws e.member (actor_of d)) d.counter)
    (λ d. ltb (max (pick (get member_sets w.members e.member) (count w.clock (actor_of d)) 0) (kills_of ws e.member (actor_of d))) d.counter) e.clock h
    (λ d k. ltb_max (pick (get member_sets w.members e.member) (count w.clock (actor_of d)) 0) (kills_of ws e.member (actor_of d)) d.counter)
  where
    one : (b : Bool) (c : Clock) → All (λ d. 0 < d.counter) c
        → (not b || every (λ d. ltb (count w.clock (actor_of d)) d.counter) c) ≡ every (λ d. ltb (pick b (count w.clock (actor_of d)) 0) d.counter) c
    one true c h = refl
    one false [] h = refl
    one false (d ∷ c) h = rw (lt-ltb 0 d.counter h.0) (one false c h.1)
