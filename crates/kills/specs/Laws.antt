-- Number j of line i is the kill number of member i and actor j, where members, clocks and waiting removes ascend.
use Prim.Native.Nat.{ℕ, zero, suc, ◌+◌, ◌*◌, ◌≤◌, ◌<◌, max, compare}
use Rattle.std.specs.Prelude.{◌≡◌, Bool, ltb, set, replicate}
use Rattle.std.proofs.Math.Path.{refl, ap}
use Rattle.std.proofs.Common.{sym, ap₂, ◌∙◌, length-set, length-append, get_or-set_same, get_or-set_other, get_or-append-add, ltb-true, ltb-false}
use Rattle.std.proofs.Math.Bool.{true, false}
use mathlib.Core.List.{List, [], ◌∷◌, map}
use native.Mathlib.Omega.{arith}
use Rattle.std.proofs.Math.Nat.{zero-add, add-zero}
use Rattle.std.proofs.Math.ListN.{length, get_or, length-map, get_or-append}
use Rattle.std.proofs.lemmas.List.Edits.{sets}
use Rattle.std.proofs.Math.Seq.{length-sets}
use Rattle.tables.specs.Order.{nat_lt, lt_nat}
use Rattle.tables.specs.Table.{pick, get, Asc, Below, All}
use Rattle.tables.specs.Zip.{Rows, kind, front, Rise, get_after}
use Rattle.tables.specs.Walk.{said_get}
use Rattle.dots.specs.Dot.{dots, actor_of, no_dot}
use Rattle.dots.specs.Clock.{Clock, count}
use Rattle.replica.specs.Replica.{Wait, member_rows, member_sets}
use Rattle.replica.specs.Kills.{kills_of}
use Rattle.kills.specs.Lines.{reach, along, line_of, raise_from, raised, top_from, spread, kill_lines, kill_table}

-- ---- one walk along a table

module _ (N : Rows) where
  rise_reach : (k : ℕ) (rs : List N.Row) → Rise N rs → Rise N (reach N k rs)
  rise_reach k [] h = tt
  rise_reach k (r ∷ rs) h = go (ltb (N.key r) k) (rise_reach k rs h.1)
    where
      go : (b : Bool) → Rise N (reach N k rs) → Rise N (pick b (reach N k rs) (r ∷ rs))
      go true l = l
      go false l = h

  get_reach : (k j : ℕ) (rs : List N.Row) → k ≤ j → get (kind N) (reach N k rs) j ≡ get (kind N) rs j
  get_reach k j [] h = refl
  get_reach k j (r ∷ rs) h = go (ltb (N.key r) k) refl (get_reach k j rs h)
    where
      go : (b : Bool) → ltb (N.key r) k ≡ b → get (kind N) (reach N k rs) j ≡ get (kind N) rs j → get (kind N) (pick b (reach N k rs) (r ∷ rs)) j ≡ get (kind N) (r ∷ rs) j
      go true e l = let q = ltb-true (N.key r) k e in l ∙ sym (get_after (kind N) r rs j (lt_nat (N.key r) j (omega arith)))
      go false e l = refl

  front_reach : (k : ℕ) (rs : List N.Row) → k ≤ front N k (reach N k rs)
  front_reach k [] = omega arith
  front_reach k (r ∷ rs) = go (ltb (N.key r) k) refl (front_reach k rs)
    where
      go : (b : Bool) → ltb (N.key r) k ≡ b → k ≤ front N k (reach N k rs) → k ≤ front N k (pick b (reach N k rs) (r ∷ rs))
      go true e l = l
      go false e l = ltb-false (N.key r) k e

  pub along_is : (ks : List ℕ) (rs : List N.Row) → Asc compare ks → Rise N rs → along N ks rs ≡ map (λ k. get (kind N) rs k) ks
  along_is [] rs a r = refl
  along_is (k ∷ ks) rs a r =
      ap₂ ◌∷◌ (said_get N k (reach N k rs) (rise_reach k rs r) (front_reach k rs) ∙ get_reach k k rs (omega arith))
      (along_is ks (reach N k rs) a.1 (rise_reach k rs r) ∙ same ks a.0)
    where
      same : (js : List ℕ) → Below compare k js → map (λ j. get (kind N) (reach N k rs) j) js ≡ map (λ j. get (kind N) rs j) js
      same [] h = refl
      same (j ∷ js) h = let q = nat_lt k j h.0 in ap₂ ◌∷◌ (get_reach k j rs (omega arith)) (same js h.1)

  pub length_along : (ks : List ℕ) (rs : List N.Row) → length (along N ks rs) ≡ length ks
  length_along [] rs = refl
  length_along (k ∷ ks) rs = ap suc (length_along ks (reach N k rs))

-- ---- one line raised

pub length_raise : (t : List ℕ) (p : ℕ) (xs : List ℕ) → length (raise_from t p xs) ≡ length t
unfolding raise_from
length_raise t p [] = refl
length_raise t p (x ∷ xs) = length_raise (set t p (max (get_or t p 0) x)) (suc p) xs ∙ length-set t p (max (get_or t p 0) x)

raise_low : (t : List ℕ) (p : ℕ) (xs : List ℕ) (q : ℕ) → q < p → get_or (raise_from t p xs) q 0 ≡ get_or t q 0
unfolding raise_from
raise_low t p [] q h = refl
raise_low t p (x ∷ xs) q h = raise_low (set t p (max (get_or t p 0) x)) (suc p) xs q (omega arith) ∙ get_or-set_other t p q (max (get_or t p 0) x) 0 (λ e. omega arith)

raise_high : (t : List ℕ) (p : ℕ) (xs : List ℕ) (q : ℕ) → p + length xs ≤ q → get_or (raise_from t p xs) q 0 ≡ get_or t q 0
unfolding raise_from
raise_high t p [] q h = refl
raise_high t p (x ∷ xs) q h = raise_high (set t p (max (get_or t p 0) x)) (suc p) xs q (omega arith) ∙ get_or-set_other t p q (max (get_or t p 0) x) 0 (λ e. omega arith)

raise_here : (t : List ℕ) (p : ℕ) (xs : List ℕ) (j : ℕ) → j < length xs → p + j < length t → get_or (raise_from t p xs) (p + j) 0 ≡ max (get_or t (p + j) 0) (get_or xs j 0)
unfolding raise_from
raise_here t p [] j h l = absurd (omega arith)
raise_here t p (x ∷ xs) zero h l =
    rw add-zero (raise_low (set t p (max (get_or t p 0) x)) (suc p) xs p (omega arith) ∙ get_or-set_same t p (max (get_or t p 0) x) 0 (omega arith))
raise_here t p (x ∷ xs) (suc j) h l =
    let e : p + suc j ≡ suc p + j = omega arith in
    let k : suc p + j < length (set t p (max (get_or t p 0) x)) = rw length-set (omega arith) in
    rw e (raise_here (set t p (max (get_or t p 0) x)) (suc p) xs j (omega arith) k ∙ ap (λ (y : ℕ). max y (get_or xs j 0)) (get_or-set_other t p (suc p + j) (max (get_or t p 0) x) 0 (λ z. omega arith)))

-- raising lowers nothing

set_grows : (t : List ℕ) (p x q : ℕ) → get_or t q 0 ≤ get_or (set t p (max (get_or t p 0) x)) q 0
set_grows [] p x q = omega arith
set_grows (y ∷ t) zero x zero = omega arith
set_grows (y ∷ t) zero x (suc q) = omega arith
set_grows (y ∷ t) (suc p) x zero = omega arith
set_grows (y ∷ t) (suc p) x (suc q) = set_grows t p x q

pub raise_grows : (t : List ℕ) (p : ℕ) (xs : List ℕ) (q : ℕ) → get_or t q 0 ≤ get_or (raise_from t p xs) q 0
unfolding raise_from
raise_grows t p [] q = omega arith
raise_grows t p (x ∷ xs) q = let a = set_grows t p x q in let b = raise_grows (set t p (max (get_or t p 0) x)) (suc p) xs q in omega arith

-- ---- the marked lines raised

abbrev step : List ℕ → ℕ → Bool → List ℕ → List ℕ
step t i b xs = pick b (raise_from t (16 * i) xs) t

module _ (xs : List ℕ) (wide : length xs ≡ 16) where
  length_step : (t : List ℕ) (i : ℕ) (b : Bool) → length (step t i b xs) ≡ length t
  length_step t i true = length_raise t (16 * i) xs
  length_step t i false = refl

  step_low : (t : List ℕ) (i : ℕ) (b : Bool) (q : ℕ) → q < 16 * i → get_or (step t i b xs) q 0 ≡ get_or t q 0
  step_low t i true q h = raise_low t (16 * i) xs q h
  step_low t i false q h = refl

  step_high : (t : List ℕ) (i : ℕ) (b : Bool) (q : ℕ) → 16 * i + 16 ≤ q → get_or (step t i b xs) q 0 ≡ get_or t q 0
  step_high t i true q h = raise_high t (16 * i) xs q (omega arith)
  step_high t i false q h = refl

  step_here : (t : List ℕ) (i : ℕ) (b : Bool) (j : ℕ) → j < 16 → 16 * i + j < length t → get_or (step t i b xs) (16 * i + j) 0 ≡ max (get_or t (16 * i + j) 0) (pick b (get_or xs j 0) 0)
  step_here t i true j h l = raise_here t (16 * i) xs j (omega arith) l
  step_here t i false j h l = omega arith

  pub length_raised : (t : List ℕ) (i : ℕ) (bs : List Bool) → length (raised t i bs xs) ≡ length t
  unfolding raised
  length_raised t i [] = refl
  length_raised t i (b ∷ bs) = length_raised (step t i b xs) (suc i) bs ∙ length_step t i b

  raised_low : (t : List ℕ) (i : ℕ) (bs : List Bool) (q : ℕ) → q < 16 * i → get_or (raised t i bs xs) q 0 ≡ get_or t q 0
  unfolding raised
  raised_low t i [] q h = refl
  raised_low t i (b ∷ bs) q h = raised_low (step t i b xs) (suc i) bs q (omega arith) ∙ step_low t i b q h

  raised_at : (t : List ℕ) (i : ℕ) (bs : List Bool) (m j : ℕ) → m < length bs → j < 16 → 16 * (i + m) + j < length t
      → get_or (raised t i bs xs) (16 * (i + m) + j) 0 ≡ max (get_or t (16 * (i + m) + j) 0) (pick (get_or bs m false) (get_or xs j 0) 0)
  unfolding raised
  raised_at t i [] m j h g l = absurd (omega arith)
  raised_at t i (b ∷ bs) zero j h g l =
      let e : i + 0 ≡ i = add-zero i in
      let l' : 16 * i + j < length t = rw e at l in
      rw e (raised_low (step t i b xs) (suc i) bs (16 * i + j) (omega arith) ∙ step_here t i b j g l')
  raised_at t i (b ∷ bs) (suc m) j h g l =
      let e : i + suc m ≡ suc i + m = omega arith in
      let l' : 16 * (suc i + m) + j < length (step t i b xs) = rw (length_step t i b) (omega arith) in
      rw e (raised_at (step t i b xs) (suc i) bs m j (omega arith) g l'
      ∙ ap (λ (y : ℕ). max y (pick (get_or bs m false) (get_or xs j 0) 0)) (step_high t i b (16 * (suc i + m) + j) (omega arith)))

-- ---- all waiting removes

pub record Ordered (w : Wait) : Type 0 where
  pub clock_asc : Rise dots w.clock
  pub members_asc : Rise member_rows w.members

pub sets_cons : (x : ℕ) (t : List ℕ) (i : ℕ) (xs : List ℕ) → sets (x ∷ t) (suc i) xs ≡ x ∷ sets t i xs
sets_cons x t i [] = refl
sets_cons x t i (y ∷ xs) = sets_cons x (set t i y) (suc i) xs

sets_front : (t xs : List ℕ) (j : ℕ) → j < length xs → j < length t → get_or (sets t 0 xs) j 0 ≡ get_or xs j 0
sets_front [] xs j h l = absurd (omega arith)
sets_front (y ∷ t) [] j h l = absurd (omega arith)
sets_front (y ∷ t) (x ∷ xs) zero h l = ap (λ (r : List ℕ). get_or r 0 0) (sets_cons x t 0 xs)
sets_front (y ∷ t) (x ∷ xs) (suc j) h l = ap (λ (r : List ℕ). get_or r (suc j) 0) (sets_cons x t 0 xs) ∙ sets_front t xs j (omega arith) (omega arith)

length_line : (v c : Clock) → length (line_of v c) ≡ 16
unfolding line_of
length_line v c = length-sets (replicate 16 0) 0 (along dots (map (λ d. actor_of d) v) c)

length_lines : (v : Clock) (ms : List ℕ) (ws : List Wait) (t : List ℕ) → length (kill_lines v ms ws t) ≡ length t
unfolding kill_lines
length_lines v ms [] t = refl
length_lines v ms (w ∷ ws) t =
    let bs = along member_rows ms w.members in
    length_lines v ms ws (raised t 0 bs (line_of v w.clock)) ∙ length_raised (line_of v w.clock) (length_line v w.clock) t 0 bs

pub length_table : (v : Clock) (ms : List ℕ) (ws : List Wait) (floor t : List ℕ) → length (kill_table v ms ws floor t) ≡ length t
unfolding kill_table
length_table v ms ws floor t = length_lines v ms ws (sets t 0 (spread (length ms) floor)) ∙ length-sets t 0 (spread (length ms) floor)

module _ (v : Clock) (ms : List ℕ) (va : Rise dots v) (ma : Asc compare ms) (few : length v ≤ 16) where
  actors : List ℕ
  actors = map (λ d. actor_of d) v

  line_at : (c : Clock) → Rise dots c → (j : ℕ) → j < length v → get_or (line_of v c) j 0 ≡ count c (actor_of (get_or v j no_dot))
  unfolding line_of actors
  line_at c r j h =
      let e = along_is dots (map (λ d. actor_of d) v) c va r in
      let n : length (map (λ a. count c a) (map (λ d. actor_of d) v)) ≡ length v = simp length-map in
      rw e (sets_front (replicate 16 0) (map (λ a. count c a) (map (λ d. actor_of d) v)) j (omega arith) (omega arith)
      ∙ pointwise v j h)
    where
      pointwise : (u : Clock) (j : ℕ) → j < length u → get_or (map (λ a. count c a) (map (λ d. actor_of d) u)) j 0 ≡ count c (actor_of (get_or u j no_dot))
      pointwise [] j h = absurd (omega arith)
      pointwise (d ∷ u) zero h = refl
      pointwise (d ∷ u) (suc j) h = pointwise u j (omega arith)

  mark_at : (w : Wait) → Ordered w → (m : ℕ) → m < length ms → get_or (along member_rows ms w.members) m false ≡ get member_sets w.members (get_or ms m 0)
  mark_at w o m h = rw (along_is member_rows ms w.members ma o.members_asc) (pointwise ms m h)
    where
      pointwise : (ks : List ℕ) (m : ℕ) → m < length ks → get_or (map (λ k. get member_sets w.members k) ks) m false ≡ get member_sets w.members (get_or ks m 0)
      pointwise [] m h = absurd (omega arith)
      pointwise (k ∷ ks) zero h = refl
      pointwise (k ∷ ks) (suc m) h = pointwise ks m (omega arith)

  pub kill_at : (ws : List Wait) (t : List ℕ) (m j : ℕ) → All Ordered ws → m < length ms → j < length v → 16 * m + j < length t
      → get_or (kill_lines v ms ws t) (16 * m + j) 0 ≡ max (get_or t (16 * m + j) 0) (kills_of ws (get_or ms m 0) (actor_of (get_or v j no_dot)))
  unfolding kill_lines kills_of
  kill_at [] t m j o h g l = omega arith
  kill_at (w ∷ ws) t m j o h g l =
      let L = line_of v w.clock in
      let bs = along member_rows ms w.members in
      let wide = length_line v w.clock in
      let l' : 16 * m + j < length (raised t 0 bs L) = rw (length_raised L wide t 0 bs) l in
      let n = length_along member_rows ms w.members in
      let z : 0 + m ≡ m = zero-add m in
      let l0 : 16 * (0 + m) + j < length t = rw z l in
      let e = rw z at (raised_at L wide t 0 bs m j (omega arith) (omega arith) l0) in
      let f : get_or (raised t 0 bs L) (16 * m + j) 0 ≡ max (get_or t (16 * m + j) 0) (pick (get member_sets w.members (get_or ms m 0)) (count w.clock (actor_of (get_or v j no_dot))) 0) =
      rw (mark_at w o.0 m h, line_at w.clock o.0.clock_asc j g) at e in
      let r = kill_at ws (raised t 0 bs L) m j o.1 h g l' in
      omega arith

  -- a line above all lines: no kill number is above it

  top_grows : (ws : List Wait) (t : List ℕ) (j : ℕ) → get_or t j 0 ≤ get_or (top_from v ws t) j 0
  unfolding top_from
  top_grows [] t j = omega arith
  top_grows (w ∷ ws) t j = let a = raise_grows t 0 (line_of v w.clock) j in let b = top_grows ws (raise_from t 0 (line_of v w.clock)) j in omega arith

  pub top_above : (ws : List Wait) (t : List ℕ) → length t ≡ 16 → All Ordered ws → (m j : ℕ) → j < length v → kills_of ws m (actor_of (get_or v j no_dot)) ≤ get_or (top_from v ws t) j 0
  unfolding top_from kills_of
  top_above [] t l o m j h = omega arith
  top_above (w ∷ ws) t l o m j h =
      let L = line_of v w.clock in
      let n : length (raise_from t 0 L) ≡ 16 = length_raise t 0 L ∙ l in
      let wide = length_line v w.clock in
      let z = zero-add j in
      let e : get_or (raise_from t 0 L) j 0 ≡ max (get_or t j 0) (get_or L j 0) = rw z at (raise_here t 0 L j (omega arith) (rw z (omega arith))) in
      let f = line_at w.clock o.0.clock_asc j h in
      let g = top_grows ws (raise_from t 0 L) j in
      let r = top_above ws (raise_from t 0 L) n o.1 m j h in
      let p = named (get member_sets w.members m) in
      omega arith
    where
      named : (b : Bool) → pick b (count w.clock (actor_of (get_or v j no_dot))) 0 ≤ count w.clock (actor_of (get_or v j no_dot))
      named true = omega arith
      named false = omega arith

-- ---- the floor

length_spread : (n : ℕ) (floor : List ℕ) → length floor ≡ 16 → length (spread n floor) ≡ 16 * n
unfolding spread
length_spread zero floor l = refl
length_spread (suc n) floor l = rw length-append (let r = length_spread n floor l in omega arith)

spread_at : (n : ℕ) (floor : List ℕ) (i j : ℕ) → length floor ≡ 16 → i < n → j < 16 → get_or (spread n floor) (16 * i + j) 0 ≡ get_or floor j 0
unfolding spread
spread_at zero floor i j l h k = absurd (omega arith)
spread_at (suc n) floor zero j l h k = rw zero-add (get_or-append floor (spread n floor) 0 j (omega arith))
spread_at (suc n) floor (suc i) j l h k =
    let e : 16 * suc i + j ≡ length floor + (16 * i + j) = omega arith in
    rw e (get_or-append-add floor (spread n floor) (16 * i + j) 0 ∙ spread_at n floor i j l (omega arith) k)

pub spread_front : (t floor : List ℕ) (n i j : ℕ) → length floor ≡ 16 → i < n → j < 16 → 16 * i + j < length t → get_or (sets t 0 (spread n floor)) (16 * i + j) 0 ≡ get_or floor j 0
spread_front t floor n i j l h u k = let e = length_spread n floor l in sets_front t (spread n floor) (16 * i + j) (omega arith) (omega arith) ∙ spread_at n floor i j l h u

-- the numbers of the table: the floor's, raised to the kill numbers
pub kill_numbers : (v : Clock) (ms : List ℕ) → Rise dots v → Asc compare ms → length v ≤ 16 → (floor t : List ℕ) → length floor ≡ 16 → 16 * length ms ≤ length t → (ws : List Wait) → All Ordered ws
    → (m j : ℕ) → m < length ms → j < length v → get_or (kill_table v ms ws floor t) (16 * m + j) 0 ≡ max (get_or floor j 0) (kills_of ws (get_or ms m 0) (actor_of (get_or v j no_dot)))
unfolding kill_table
kill_numbers v ms va ma few floor t l n ws o m j h g =
    let k : length (sets t 0 (spread (length ms) floor)) ≡ length t = length-sets t 0 (spread (length ms) floor) in
    let z = spread_front t floor (length ms) m j l h (omega arith) (omega arith) in
    let r = kill_at v ms va ma few ws (sets t 0 (spread (length ms) floor)) m j o h g (omega arith) in
    omega arith
