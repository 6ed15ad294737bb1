-- What is proved of specs/Waits.antt.
use Rattle.std.specs.Prelude.{ℕ, ◌≡◌, refl, Bool, true, false, ◌||◌, List, [], ◌∷◌, T, leb}
use Rattle.std.proofs.Common.{sym, ap, ◌∙◌, subst}
use Rattle.std.proofs.Math.Bool.{or-false, or_comm, or_assoc, or_self}
use Rattle.std.proofs.lemmas.Bool.{false≢true}
use Rattle.std.proofs.Math.Option.{Option, none, some}
use Rattle.tables.specs.Order.{self}
use Rattle.tables.specs.Truth.{and_l, and_r, and_i, or_l, or_r, or_e, bool_ext}
use Rattle.tables.specs.Table.{get, Normal, any, pick, is_some, row_at, key_at, any_at, at_any, ext}
use Rattle.tables.specs.Zip.{zip, get_zip, normal_zip}
use Rattle.dots.specs.Clock.{Clock, count, cmp_clock, clock_order}
use Rattle.replica.specs.Replica.{Wait, Replica, waits, members_of, member_sets, wait_at, names, kills, killed}
use Rattle.replica.specs.Rules.{unite, join_waits}
use Rattle.replica.specs.Waits.{Killer, Each, GoodWait, Sets}

pub kills_from : (ws : List Wait) (m a n : ℕ) → Normal waits ws → T (any (kills m a n) ws) → Killer ws m a n
kills_from ws m a n h t =
    let w = any_at waits (kills m a n) ws h t in
    let named = get member_sets w.0.members m in
    let covered = leb n (count w.0.clock a) in
    (w.0.clock, rw w.1 (and_l named covered w.2), and_r named covered w.2)

pub kills_to : (ws : List Wait) (m a n : ℕ) → Killer ws m a n → T (any (kills m a n) ws)
kills_to ws m a n k = go (row_at waits ws k.0) refl k.1
  where
    go : (o : Option Wait) → row_at waits ws k.0 ≡ o → T (names (members_of o) m) → T (any (kills m a n) ws)
    go none e t = absurd t
    go (some w) e t =
        at_any waits (kills m a n) ws k.0 w e
        (and_i (get member_sets w.members m) (leb n (count w.clock a)) t (subst (λ (c : Clock). T (leb n (count c a))) (key_at waits ws k.0 w e) k.2))

pub killed_from : (A : Replica) (m a n : ℕ) → Normal waits A.waiting → T (killed A m a n) → Killer A.waiting m a n
unfolding killed
killed_from A m a n h t = kills_from A.waiting m a n h t

pub killed_to : (A : Replica) (m a n : ℕ) (c : Clock) → T (names (wait_at A c) m) → T (leb n (count c a)) → T (killed A m a n)
unfolding killed
killed_to A m a n c t s = kills_to A.waiting m a n (c, t, s)

-- ---- one that is kept unless a clock covers it

pub kept_names : (b : Bool) (o : Option (List ℕ)) (m : ℕ) → T (names (pick b none o) m) → T (names o m)
kept_names true o m t = absurd t
kept_names false o m t = t

pub kept_some : (b : Bool) (o : Option (List ℕ)) (ms : List ℕ) → pick b none o ≡ some ms → o ≡ some ms
kept_some true o ms e = absurd (false≢true (ap is_some e))
kept_some false o ms e = e

pub unite_each : (P : List ℕ → Type 0) → ((x y : List ℕ) → P x → P y → P (zip member_sets (λ m. ◌||◌) x y))
    → (x y : Option (List ℕ)) → Each P x → Each P y → Each P (unite x y)
unfolding unite
unite_each P j none y f g ms e = g ms e
unite_each P j (some x) none f g ms e = f ms e
unite_each P j (some x) (some y) f g ms e = let s : zip member_sets (λ m. ◌||◌) x y ≡ ms = cc in subst P s (j x y (f x refl) (g y refl))

both_sets : (x y : List ℕ) → Normal member_sets x → Normal member_sets y → Normal member_sets (zip member_sets (λ m. ◌||◌) x y)
both_sets x y p q = normal_zip member_sets (λ m. ◌||◌) x y q

pub unite_good : (c : Clock) (x y : Option (List ℕ)) → Each (GoodWait c) x → Each (GoodWait c) y → Each (GoodWait c) (unite x y)
unite_good c = unite_each (GoodWait c) (λ x y p q. (p.0, p.1, both_sets x y p.2 q.2))

pub names_unite : (x y : Option (List ℕ)) (m : ℕ) → names (unite x y) m ≡ (names x m || names y m)
unfolding unite
names_unite none y m = refl
names_unite (some x) none m = sym (or-false (get member_sets x m))
names_unite (some x) (some y) m = get_zip member_sets (λ m. ◌||◌) x y (λ m. refl) m

pub there_unite : (x y : Option (List ℕ)) → is_some (unite x y) ≡ (is_some x || is_some y)
unfolding unite
there_unite none y = refl
there_unite (some x) none = refl
there_unite (some x) (some y) = refl

pub unite_none : (o : Option (List ℕ)) → unite o none ≡ o
unfolding unite
unite_none none = refl
unite_none (some ms) = refl

pub sets_ext : (x y : Option (List ℕ)) → Sets x → Sets y → is_some x ≡ is_some y → ((m : ℕ) → names x m ≡ names y m) → x ≡ y
sets_ext none none f g p q = refl
sets_ext none (some y) f g p q = absurd (false≢true p)
sets_ext (some x) none f g p q = absurd (false≢true (sym p))
sets_ext (some x) (some y) f g p q = ap some (ext member_sets x y (f x refl) (g y refl) q)

unite_sets : (x y : Option (List ℕ)) → Sets x → Sets y → Sets (unite x y)
unite_sets = unite_each (Normal member_sets) both_sets

pub unite_comm : (x y : Option (List ℕ)) → Sets x → Sets y → unite x y ≡ unite y x
unite_comm x y f g =
    sets_ext (unite x y) (unite y x) (unite_sets x y f g) (unite_sets y x g f)
    (there_unite x y ∙ or_comm (is_some x) (is_some y) ∙ sym (there_unite y x))
    (λ m. names_unite x y m ∙ or_comm (names x m) (names y m) ∙ sym (names_unite y x m))

pub unite_assoc : (x y z : Option (List ℕ)) → Sets x → Sets y → Sets z → unite (unite x y) z ≡ unite x (unite y z)
unite_assoc x y z f g h =
    sets_ext (unite (unite x y) z) (unite x (unite y z))
    (unite_sets (unite x y) z (unite_sets x y f g) h) (unite_sets x (unite y z) f (unite_sets y z g h))
    (simp (there_unite, or_assoc)) (λ m. simp (names_unite, or_assoc))

pub unite_self : (x : Option (List ℕ)) → Sets x → unite x x ≡ x
unite_self x f = sets_ext (unite x x) x (unite_sets x x f f) f (simp (there_unite, or_self)) (λ m. simp (names_unite, or_self))

-- ---- a single one, and two lists of them joined

pub one_get : (w : Wait) → get waits (w ∷ []) w.clock ≡ some w.members
one_get w = rw (self cmp_clock clock_order w.clock)

pub one_normal : (w : Wait) → Normal waits (w ∷ [])
one_normal w = record { asc = (tt, tt); proper = (refl, tt) }

pub joined_get : (xs ys : List Wait) (c : Clock) → get waits (join_waits xs ys) c ≡ unite (get waits xs c) (get waits ys c)
unfolding join_waits unite
joined_get xs ys c = get_zip waits (λ c. unite) xs ys (λ c. refl) c

pub joined_normal : (xs ys : List Wait) → Normal waits ys → Normal waits (join_waits xs ys)
unfolding join_waits
joined_normal xs ys h = normal_zip waits (λ c. unite) xs ys h

-- they cover what those of either list do
pub joined_kills : (xs ys : List Wait) → Normal waits xs → Normal waits ys → (m a n : ℕ)
    → any (kills m a n) (join_waits xs ys) ≡ (any (kills m a n) xs || any (kills m a n) ys)
joined_kills xs ys h g m a n = bool_ext (any (kills m a n) (join_waits xs ys)) (kx || ky) there back
  where
    kx : Bool
    kx = any (kills m a n) xs

    ky : Bool
    ky = any (kills m a n) ys

    nx : Clock → Bool
    nx c = names (get waits xs c) m

    ny : Clock → Bool
    ny c = names (get waits ys c) m

    named : (c : Clock) → names (get waits (join_waits xs ys) c) m ≡ (nx c || ny c)
    named c = ap (λ (o : Option (List ℕ)). names o m) (joined_get xs ys c) ∙ names_unite (get waits xs c) (get waits ys c) m

    there : T (any (kills m a n) (join_waits xs ys)) → T (kx || ky)
    there t =
        let k = kills_from (join_waits xs ys) m a n (joined_normal xs ys g) t in
        or_e (nx k.0) (ny k.0) (rw (named k.0) at k.1)
        (λ u. or_l kx ky (kills_to xs m a n (k.0, u, k.2)))
        (λ u. or_r kx ky (kills_to ys m a n (k.0, u, k.2)))

    one : (c : Clock) → T (nx c || ny c) → T (leb n (count c a)) → T (any (kills m a n) (join_waits xs ys))
    one c t s = kills_to (join_waits xs ys) m a n (c, rw (named c) t, s)

    back : T (kx || ky) → T (any (kills m a n) (join_waits xs ys))
    back t = or_e kx ky t
        (λ u. let k = kills_from xs m a n h u in one k.0 (or_l (nx k.0) (ny k.0) k.1) k.2)
        (λ u. let k = kills_from ys m a n g u in one k.0 (or_r (nx k.0) (ny k.0) k.1) k.2)
