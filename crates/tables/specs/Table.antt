-- Sorted tables: rows with a key, strictly ascending by it. Each key has a value, and a key with no row has the empty one.
use Prim.Native.Nat.{Ordering}
use Rattle.std.specs.Prelude.{◌≡◌, refl, Bool, true, false, ◌||◌, ◌&&◌, T, List, [], ◌∷◌, map}
use Rattle.std.proofs.Common.{sym, ap, ap₂, ◌∙◌, subst}
use Rattle.std.proofs.Math.Bool.{or_assoc}
use Rattle.std.proofs.lemmas.Bool.{false≢true}
use Rattle.std.proofs.Math.Dec.{compare_is_eq}
use Rattle.tables.specs.Truth.{and_l, and_r, and_i, or_l, or_r}
use Rattle.std.proofs.Math.Option.{Option, none, some}
use Rattle.tables.specs.Order.{Order, self, lt_gt, gt_lt}

abbrev pub is_some : {A : Type 0} → Option A → Bool
is_some none = false
is_some (some a) = true

abbrev pub pick : {A : Type 0} → Bool → A → A → A
pick true x y = x
pick false x y = y

-- ---- find, and strictly ascending keys

abbrev pub hit : {R : Type 0} → Ordering → R → Option R → Option R
hit Ordering.lt r o = o
hit Ordering.eq r o = some r
hit Ordering.gt r o = o

abbrev pub find : {K R : Type 0} → (K → K → Ordering) → (R → K) → K → List R → Option R
find cmp key k [] = none
find cmp key k (r ∷ rs) = hit (cmp k (key r)) r (find cmp key k rs)

abbrev pub has : {K : Type 0} → (K → K → Ordering) → K → List K → Bool
has cmp k ks = is_some (find cmp (λ j. j) k ks)

abbrev pub Below : {K : Type 0} → (K → K → Ordering) → K → List K → Type 0
Below cmp k [] = Unit {0}
Below cmp k (j ∷ js) = (cmp k j ≡ Ordering.lt) × Below cmp k js

abbrev pub Asc : {K : Type 0} → (K → K → Ordering) → List K → Type 0
Asc cmp [] = Unit {0}
Asc cmp (k ∷ ks) = Below cmp k ks × Asc cmp ks

-- a key put in its place
abbrev pub put : {K : Type 0} → Ordering → K → K → List K → List K → List K
put Ordering.lt k j js rest = k ∷ j ∷ js
put Ordering.eq k j js rest = j ∷ js
put Ordering.gt k j js rest = j ∷ rest

abbrev pub ins : {K : Type 0} → (K → K → Ordering) → K → List K → List K
ins cmp k [] = k ∷ []
ins cmp k (j ∷ js) = put (cmp k j) k j js (ins cmp k js)

abbrev pub union : {K : Type 0} → (K → K → Ordering) → List K → List K → List K
union cmp [] ys = ys
union cmp (x ∷ xs) ys = ins cmp x (union cmp xs ys)

-- a row where there is one
abbrev pub cons? : {R : Type 0} → Option R → List R → List R
cons? none rs = rs
cons? (some r) rs = r ∷ rs

abbrev pub collect : {K R : Type 0} → (K → Option R) → List K → List R
collect f [] = []
collect f (k ∷ ks) = cons? (f k) (collect f ks)

abbrev pub All : {R : Type 0} → (R → Type 0) → List R → Type 0
All P [] = Unit {0}
All P (r ∷ rs) = P r × All P rs

abbrev pub any : {R : Type 0} → (R → Bool) → List R → Bool
any p [] = false
any p (r ∷ rs) = p r || any p rs

abbrev pub every : {R : Type 0} → (R → Bool) → List R → Bool
every p [] = true
every p (r ∷ rs) = p r && every p rs

pub all_map : {R : Type 0} (P Q : R → Type 0) (rs : List R) → ((r : R) → P r → Q r) → All P rs → All Q rs
all_map P Q [] f h = tt
all_map P Q (r ∷ rs) f h = (f r h.0, all_map P Q rs f h.1)

pub any_from : {R : Type 0} (P : R → Type 0) (p : R → Bool) (rs : List R) → All P rs → T (any p rs) → (r : R) × P r × T (p r)
any_from P p [] h t = absurd t
any_from {R} P p (r ∷ rs) h t = go (p r) refl t (any_from P p rs h.1)
  where
    go : (b : Bool) → p r ≡ b → T (b || any p rs) → (T (any p rs) → (r : R) × P r × T (p r)) → (r : R) × P r × T (p r)
    go true e t l = (r, h.0, subst T (sym e) tt)
    go false e t l = l t

pub every_all : {R : Type 0} (p : R → Bool) (rs : List R) → T (every p rs) → All (λ r. T (p r)) rs
every_all p [] t = tt
every_all p (r ∷ rs) t = (and_l (p r) (every p rs) t, every_all p rs (and_r (p r) (every p rs) t))

pub all_every : {R : Type 0} (p : R → Bool) (rs : List R) → All (λ r. T (p r)) rs → T (every p rs)
all_every p [] h = tt
all_every p (r ∷ rs) h = and_i (p r) (every p rs) h.0 (all_every p rs h.1)

pub all_both : {R : Type 0} (P Q S : R → Type 0) (rs : List R) → ((r : R) → P r → Q r → S r) → All P rs → All Q rs → All S rs
all_both P Q S [] f h g = tt
all_both P Q S (r ∷ rs) f h g = (f r h.0 g.0, all_both P Q S rs f h.1 g.1)

pub all_any : {R : Type 0} (P : R → Type 0) (rs : List R) → ((r : R) → P r) → All P rs
all_any P [] f = tt
all_any P (r ∷ rs) f = (f r, all_any P rs f)

-- every test of a list
unfoldable pub alls : List Bool → Bool
alls [] = true
alls (b ∷ bs) = b && alls bs

pub alls_from : (bs : List Bool) → T (alls bs) → All T bs
unfolding alls
alls_from [] t = tt
alls_from (b ∷ bs) t = (and_l b (alls bs) t, alls_from bs (and_r b (alls bs) t))

pub alls_to : (bs : List Bool) → All T bs → T (alls bs)
unfolding alls
alls_to [] h = tt
alls_to (b ∷ bs) h = and_i b (alls bs) h.0 (alls_to bs h.1)

pub map_id : {R : Type 0} (rs : List R) → map (λ r. r) rs ≡ rs
map_id [] = refl
map_id {R} (r ∷ rs) = ap (λ (l : List R). r ∷ l) (map_id rs)

pub every_map : {R : Type 0} (p q : R → Bool) (rs : List R) → ((r : R) → T (p r) → T (q r)) → T (every p rs) → T (every q rs)
every_map p q rs f t = all_every q rs (all_map (λ r. T (p r)) (λ r. T (q r)) rs f (every_all p rs t))

pub any_none : {R : Type 0} (p : R → Bool) (rs : List R) → any p rs ≡ false → All (λ r. p r ≡ false) rs
any_none p [] e = tt
any_none p (r ∷ rs) e = go (p r) refl e (any_none p rs)
  where
    go : (b : Bool) → p r ≡ b → (b || any p rs) ≡ false → (any p rs ≡ false → All (λ r. p r ≡ false) rs) → (p r ≡ false) × All (λ r. p r ≡ false) rs
    go true u e f = absurd (false≢true (sym e))
    go false u e f = (u, f e)

pub none_any : {R : Type 0} (p : R → Bool) (rs : List R) → All (λ r. p r ≡ false) rs → any p rs ≡ false
none_any p [] h = refl
none_any p (r ∷ rs) h = rw h.0 (none_any p rs h.1)

-- what `cons?` and `collect` keep
pub all_cons? : {R : Type 0} (P : R → Type 0) (o : Option R) (rs : List R) → ((r : R) → o ≡ some r → P r) → All P rs → All P (cons? o rs)
all_cons? P none rs h t = t
all_cons? P (some r) rs h t = (h r refl, t)

pub all_collect : {K R : Type 0} (P : R → Type 0) (f : K → Option R) (ks : List K) → ((k : K) (r : R) → f k ≡ some r → P r) → All P (collect f ks)
all_collect P f [] h = tt
all_collect P f (k ∷ ks) h = all_cons? P (f k) (collect f ks) (h k) (all_collect P f ks h)

pub all_sift : {R Q : Type 0} (P : R → Type 0) (S : Q → Type 0) (f : R → Option Q) (rs : List R) → ((r : R) (q : Q) → P r → f r ≡ some q → S q) → All P rs → All S (collect f rs)
all_sift P S f [] g h = tt
all_sift P S f (r ∷ rs) g h = all_cons? S (f r) (collect f rs) (λ q e. g r q h.0 e) (all_sift P S f rs g h.1)

pub pick_both : {A : Type 0} (b : Bool) (x : A) → pick b x x ≡ x
pick_both true x = refl
pick_both false x = refl

pub pick_all : {A : Type 0} (b c : Bool) {x y z : A} → x ≡ z → y ≡ z → pick b x (pick c y z) ≡ z
pick_all true c p q = p
pick_all false true p q = q
pick_all false false p q = refl

some≢none : {A : Type 0} {B : Type 0} (a : A) → some a ≡ none → B
some≢none a e = absurd (false≢true (sym (ap is_some e)))

module _ {K : Type 0} (cmp : K → K → Ordering) (O : Order cmp) where
  pub below_trans : (j k : K) (ks : List K) → cmp j k ≡ Ordering.lt → Below cmp k ks → Below cmp j ks
  below_trans j k [] e h = tt
  below_trans j k (i ∷ is) e h = (O.trans j k i e h.0, below_trans j k is e h.1)

  pub below_ins : (j k : K) (ks : List K) → cmp j k ≡ Ordering.lt → Below cmp j ks → Below cmp j (ins cmp k ks)
  below_ins j k [] e h = (e, tt)
  below_ins j k (i ∷ is) e h = go (cmp k i) (below_ins j k is e h.1)
    where
      go : (o : Ordering) → Below cmp j (ins cmp k is) → Below cmp j (put o k i is (ins cmp k is))
      go Ordering.lt l = (e, h)
      go Ordering.eq l = h
      go Ordering.gt l = (h.0, l)

  asc_ins : (k : K) (ks : List K) → Asc cmp ks → Asc cmp (ins cmp k ks)
  asc_ins k [] h = (tt, tt)
  asc_ins k (i ∷ is) h = go (cmp k i) refl (asc_ins k is h.1)
    where
      go : (o : Ordering) → cmp k i ≡ o → Asc cmp (ins cmp k is) → Asc cmp (put o k i is (ins cmp k is))
      go Ordering.lt e l = ((e, below_trans k i is e h.0), h)
      go Ordering.eq e l = h
      go Ordering.gt e l = (below_ins i k is (gt_lt cmp O k i e) h.0, l)

  pub asc_union : (xs ys : List K) → Asc cmp ys → Asc cmp (union cmp xs ys)
  asc_union [] ys h = h
  asc_union (x ∷ xs) ys h = asc_ins x (union cmp xs ys) (asc_union xs ys h)

  pub has_cons : (k j : K) (js : List K) → has cmp k (j ∷ js) ≡ (compare_is_eq (cmp k j) || has cmp k js)
  has_cons k j js = go (cmp k j)
    where
      go : (o : Ordering) → is_some (hit o j (find cmp (λ i. i) k js)) ≡ (compare_is_eq o || has cmp k js)
      go Ordering.lt = refl
      go Ordering.eq = refl
      go Ordering.gt = refl

  has_ins : (j k : K) (ks : List K) → has cmp j (ins cmp k ks) ≡ (compare_is_eq (cmp j k) || has cmp j ks)
  has_ins j k [] = has_cons j k []
  has_ins j k (i ∷ is) = go (cmp k i) refl (has_ins j k is)
    where
      swap : (a b c : Bool) → (a || (b || c)) ≡ (b || (a || c))
      swap true true c = refl
      swap true false c = refl
      swap false true c = refl
      swap false false c = refl

      twice : (a b : Bool) → (a || b) ≡ (a || (a || b))
      twice true b = refl
      twice false b = refl

      go : (o : Ordering) → cmp k i ≡ o → has cmp j (ins cmp k is) ≡ (compare_is_eq (cmp j k) || has cmp j is)
          → has cmp j (put o k i is (ins cmp k is)) ≡ (compare_is_eq (cmp j k) || has cmp j (i ∷ is))
      go Ordering.lt e l = has_cons j k (i ∷ is)
      go Ordering.eq e l =
          has_cons j i is ∙ twice (compare_is_eq (cmp j i)) (has cmp j is)
          ∙ ap₂ (λ (x : K) (y : Bool). compare_is_eq (cmp j x) || y) (sym (O.same k i e)) (sym (has_cons j i is))
      go Ordering.gt e l =
          has_cons j i (ins cmp k is) ∙ ap (λ (b : Bool). compare_is_eq (cmp j i) || b) l
          ∙ swap (compare_is_eq (cmp j i)) (compare_is_eq (cmp j k)) (has cmp j is) ∙ ap (λ (b : Bool). compare_is_eq (cmp j k) || b) (sym (has_cons j i is))

  pub has_union : (k : K) (xs ys : List K) → has cmp k (union cmp xs ys) ≡ (has cmp k xs || has cmp k ys)
  has_union k [] ys = refl
  has_union k (x ∷ xs) ys =
      has_ins k x (union cmp xs ys) ∙ ap (λ (b : Bool). compare_is_eq (cmp k x) || b) (has_union k xs ys)
      ∙ sym (or_assoc (compare_is_eq (cmp k x)) (has cmp k xs) (has cmp k ys)) ∙ ap (λ (b : Bool). b || has cmp k ys) (sym (has_cons k x xs))

  module _ {R : Type 0} (key : R → K) where
    pub find_below : (k : K) (rs : List R) → Below cmp k (map key rs) → find cmp key k rs ≡ none
    find_below k [] h = refl
    find_below k (r ∷ rs) h = rw h.0 (find_below k rs h.1)

    pub find_key : (k : K) (rs : List R) (r : R) → find cmp key k rs ≡ some r → k ≡ key r
    find_key k [] r e = some≢none r (sym e)
    find_key k (q ∷ rs) r e = go (cmp k (key q)) refl e (find_key k rs r)
      where
        go : (o : Ordering) → cmp k (key q) ≡ o → hit o q (find cmp key k rs) ≡ some r → (find cmp key k rs ≡ some r → k ≡ key r) → k ≡ key r
        go Ordering.lt c e l = l e
        go Ordering.eq c e l = O.same k (key q) c ∙ ap key (cc)
        go Ordering.gt c e l = l e

    pub find_all : (P : R → Type 0) (k : K) (rs : List R) (r : R) → All P rs → find cmp key k rs ≡ some r → P r
    find_all P k [] r h e = some≢none r (sym e)
    find_all P k (q ∷ rs) r h e = go (cmp k (key q)) e (find_all P k rs r h.1)
      where
        go : (o : Ordering) → hit o q (find cmp key k rs) ≡ some r → (find cmp key k rs ≡ some r → P r) → P r
        go Ordering.lt e l = l e
        go Ordering.eq e l = let s : q ≡ r = cc in subst P s h.0
        go Ordering.gt e l = l e

    pub find_has : (k : K) (rs : List R) → is_some (find cmp key k rs) ≡ has cmp k (map key rs)
    find_has k [] = refl
    find_has k (q ∷ rs) = go (cmp k (key q)) (find_has k rs)
      where
        go : (o : Ordering) → is_some (find cmp key k rs) ≡ has cmp k (map key rs)
            → is_some (hit o q (find cmp key k rs)) ≡ is_some (hit o (key q) (find cmp (λ i. i) k (map key rs)))
        go Ordering.lt l = l
        go Ordering.eq l = refl
        go Ordering.gt l = l

    pub any_to : (p : R → Bool) (k : K) (rs : List R) (r : R) → find cmp key k rs ≡ some r → T (p r) → T (any p rs)
    any_to p k [] r e t = some≢none r (sym e)
    any_to p k (q ∷ rs) r e t = go (cmp k (key q)) e (λ f. any_to p k rs r f t)
      where
        go : (o : Ordering) → hit o q (find cmp key k rs) ≡ some r → (find cmp key k rs ≡ some r → T (any p rs)) → T (any p (q ∷ rs))
        go Ordering.lt e l = or_r (p q) (any p rs) (l e)
        go Ordering.eq e l = let s : q ≡ r = cc in or_l (p q) (any p rs) (rw s t)
        go Ordering.gt e l = or_r (p q) (any p rs) (l e)

    pub all_find : (rs : List R) → Asc cmp (map key rs) → All (λ r. find cmp key (key r) rs ≡ some r) rs
    all_find [] h = tt
    all_find (q ∷ rs) h =
        (rw (self cmp O (key q)), all_map (λ r. find cmp key (key r) rs ≡ some r) (λ r. find cmp key (key r) (q ∷ rs) ≡ some r) rs (λ r e. go r e (cmp (key r) (key q)) refl) (all_find rs h.1))
      where
        go : (r : R) → find cmp key (key r) rs ≡ some r → (o : Ordering) → cmp (key r) (key q) ≡ o → hit o q (find cmp key (key r) rs) ≡ some r
        go r e Ordering.lt c = e
        go r e Ordering.eq c = some≢none r (sym e ∙ rw (O.same (key r) (key q) c) (find_below (key q) rs h.0))
        go r e Ordering.gt c = e

    -- two ascending tables in which every key finds the same are equal
    pub find_ext : (xs ys : List R) → Asc cmp (map key xs) → Asc cmp (map key ys) → ((k : K) → find cmp key k xs ≡ find cmp key k ys) → xs ≡ ys
    find_ext [] [] h g f = refl
    find_ext [] (y ∷ ys) h g f = some≢none y (sym (rw (self cmp O (key y)) at (f (key y))))
    find_ext (x ∷ xs) [] h g f = some≢none x (rw (self cmp O (key x)) at (f (key x)))
    find_ext (x ∷ xs) (y ∷ ys) h g f = go (cmp (key x) (key y)) refl (find_ext xs ys h.1 g.1)
      where
        at_x : find cmp key (key x) (x ∷ xs) ≡ some x
        at_x = rw (self cmp O (key x))

        at_y : find cmp key (key y) (y ∷ ys) ≡ some y
        at_y = rw (self cmp O (key y))

        tails : key x ≡ key y → (k : K) → find cmp key k xs ≡ find cmp key k ys
        tails p k = go (cmp k (key x)) refl (subst (λ (j : K). hit (cmp k (key x)) x (find cmp key k xs) ≡ hit (cmp k j) y (find cmp key k ys)) (sym p) (f k))
          where
            go : (o : Ordering) → cmp k (key x) ≡ o → hit o x (find cmp key k xs) ≡ hit o y (find cmp key k ys) → find cmp key k xs ≡ find cmp key k ys
            go Ordering.lt e l = l
            go Ordering.eq e l =
                let q : k ≡ key x = O.same k (key x) e in
                find_below k xs (subst (λ (j : K). Below cmp j (map key xs)) (sym q) h.0)
                ∙ sym (find_below k ys (subst (λ (j : K). Below cmp j (map key ys)) (sym (q ∙ p)) g.0))
            go Ordering.gt e l = l

        go : (o : Ordering) → cmp (key x) (key y) ≡ o → (((k : K) → find cmp key k xs ≡ find cmp key k ys) → xs ≡ ys) → x ∷ xs ≡ y ∷ ys
        go Ordering.lt e l = some≢none x (sym at_x ∙ f (key x) ∙ find_below (key x) (y ∷ ys) (e, below_trans (key x) (key y) (map key ys) e g.0))
        go Ordering.eq e l =
            let p : key x ≡ key y = O.same (key x) (key y) e in
            let q : some x ≡ some y = sym at_x ∙ f (key x) ∙ ap (λ (k : K). find cmp key k (y ∷ ys)) p ∙ at_y in
            ap₂ ◌∷◌ (cc) (l (tails p))
        go Ordering.gt e l =
            let e' = gt_lt cmp O (key x) (key y) e in
            some≢none y (sym at_y ∙ sym (f (key y)) ∙ find_below (key y) (x ∷ xs) (e', below_trans (key y) (key x) (map key xs) e' h.0))

    module _ (f : K → Option R) (own : (k : K) (r : R) → f k ≡ some r → key r ≡ k) where
      find_cons? : (k j : K) (rs : List R) (b : Bool) → find cmp key k rs ≡ pick b (f k) none
          → find cmp key k (cons? (f j) rs) ≡ pick (compare_is_eq (cmp k j) || b) (f k) none
      find_cons? k j rs b l = go (f j) refl (cmp k j) refl
        where
          go : (o : Option R) → f j ≡ o → (c : Ordering) → cmp k j ≡ c → find cmp key k (cons? o rs) ≡ pick (compare_is_eq c || b) (f k) none
          go none e Ordering.lt u = l
          go none e Ordering.eq u = let z : f k ≡ none = ap f (O.same k j u) ∙ e in l ∙ rw z (pick_both b none)
          go none e Ordering.gt u = l
          go (some r) e Ordering.lt u = rw (own j r e, u) l
          go (some r) e Ordering.eq u = rw (own j r e, u) (sym e ∙ ap f (sym (O.same k j u)))
          go (some r) e Ordering.gt u = rw (own j r e, u) l

      pub find_collect : (k : K) (ks : List K) → find cmp key k (collect f ks) ≡ pick (has cmp k ks) (f k) none
      find_collect k [] = refl
      find_collect k (j ∷ js) = rw (has_cons k j js) (find_cons? k j (collect f js) (has cmp k js) (find_collect k js))

      below_collect : (j : K) (ks : List K) → Below cmp j ks → Below cmp j (map key (collect f ks))
      below_collect j [] h = tt
      below_collect j (k ∷ ks) h = go (f k) refl (below_collect j ks h.1)
        where
          go : (o : Option R) → f k ≡ o → Below cmp j (map key (collect f ks)) → Below cmp j (map key (cons? o (collect f ks)))
          go none e l = l
          go (some r) e l = (rw (own k r e) h.0, l)

      pub asc_collect : (ks : List K) → Asc cmp ks → Asc cmp (map key (collect f ks))
      asc_collect [] h = tt
      asc_collect (k ∷ ks) h = go (f k) refl (asc_collect ks h.1)
        where
          go : (o : Option R) → f k ≡ o → Asc cmp (map key (collect f ks)) → Asc cmp (map key (cons? o (collect f ks)))
          go none e l = l
          go (some r) e l = (rw (own k r e) (below_collect k ks h.0), l)

-- ---- rows changed or dropped one by one, each under its own key

abbrev pub after : {R Q : Type 0} → Option R → (R → Option Q) → Option Q
after none f = none
after (some r) f = f r

module _ {K R : Type 0} (cmp : K → K → Ordering) (O : Order cmp) (key : R → K) (f : R → Option R) (own : (r q : R) → f r ≡ some q → key q ≡ key r) where
  below_sift : (j : K) (rs : List R) → Below cmp j (map key rs) → Below cmp j (map key (collect f rs))
  below_sift j [] h = tt
  below_sift j (r ∷ rs) h = go (f r) refl (below_sift j rs h.1)
    where
      go : (o : Option R) → f r ≡ o → Below cmp j (map key (collect f rs)) → Below cmp j (map key (cons? o (collect f rs)))
      go none e l = l
      go (some q) e l = (rw (own r q e) h.0, l)

  pub asc_sift : (rs : List R) → Asc cmp (map key rs) → Asc cmp (map key (collect f rs))
  asc_sift [] h = tt
  asc_sift (r ∷ rs) h = go (f r) refl (asc_sift rs h.1)
    where
      go : (o : Option R) → f r ≡ o → Asc cmp (map key (collect f rs)) → Asc cmp (map key (cons? o (collect f rs)))
      go none e l = l
      go (some q) e l = (rw (own r q e) (below_sift (key r) rs h.0), l)

  pub find_sift : (k : K) (rs : List R) → Asc cmp (map key rs) → find cmp key k (collect f rs) ≡ after (find cmp key k rs) f
  find_sift k [] h = refl
  find_sift k (r ∷ rs) h = go (f r) refl (cmp k (key r)) refl (find_sift k rs h.1)
    where
      go : (o : Option R) → f r ≡ o → (c : Ordering) → cmp k (key r) ≡ c → find cmp key k (collect f rs) ≡ after (find cmp key k rs) f
          → find cmp key k (cons? o (collect f rs)) ≡ after (hit c r (find cmp key k rs)) f
      go none e Ordering.lt u l = l
      go none e Ordering.eq u l = rw (O.same k (key r) u) (find_below cmp O key (key r) (collect f rs) (below_sift (key r) rs h.0)) ∙ sym e
      go none e Ordering.gt u l = l
      go (some q) e Ordering.lt u l = rw (own r q e, u) l
      go (some q) e Ordering.eq u l = rw (own r q e, u) (sym e)
      go (some q) e Ordering.gt u l = rw (own r q e, u) l

-- ---- the union of two ascending lists, as two hands walk along them

module _ {K : Type 0} (cmp : K → K → Ordering) (O : Order cmp) where
  pub ins_first : (k : K) (ks : List K) → Below cmp k ks → ins cmp k ks ≡ k ∷ ks
  ins_first k [] h = refl
  ins_first k (j ∷ js) h = rw h.0

  pub below_union : (k : K) (xs ys : List K) → Below cmp k xs → Below cmp k ys → Below cmp k (union cmp xs ys)
  below_union k [] ys h g = g
  below_union k (x ∷ xs) ys h g = below_ins cmp O k x (union cmp xs ys) h.0 (below_union k xs ys h.1 g)

  pub union_lt : (x y : K) (xs ys : List K) → cmp x y ≡ Ordering.lt → Asc cmp (x ∷ xs) → Asc cmp (y ∷ ys) → union cmp (x ∷ xs) (y ∷ ys) ≡ x ∷ union cmp xs (y ∷ ys)
  union_lt x y xs ys e h g = ins_first x (union cmp xs (y ∷ ys)) (below_union x xs (y ∷ ys) h.0 (e, below_trans cmp O x y ys e g.0))

  pub union_gt : (y : K) (xs ys : List K) → Below cmp y xs → union cmp xs (y ∷ ys) ≡ y ∷ union cmp xs ys
  union_gt y [] ys h = refl
  union_gt y (x ∷ xs) ys h = ap (ins cmp x) (union_gt y xs ys h.1) ∙ rw (lt_gt cmp O y x h.0)

  pub union_eq : (x y : K) (xs ys : List K) → cmp x y ≡ Ordering.eq → Asc cmp (x ∷ xs) → union cmp (x ∷ xs) (y ∷ ys) ≡ x ∷ union cmp xs ys
  union_eq x y xs ys e h =
      let p : x ≡ y = O.same x y e in
      ap (ins cmp x) (union_gt y xs ys (subst (λ (j : K). Below cmp j xs) p h.0)) ∙ rw e (ap (λ (j : K). j ∷ union cmp xs ys) (sym p))

-- ---- a kind of table: what a key's value is, and which row says so. A key without a row has the value `val none`.

pub record Kind : Type 1 where
  pub Key : Type 0
  pub Row : Type 0
  pub Val : Type 0
  pub cmp : Key → Key → Ordering
  pub order : Order cmp
  pub key : Row → Key
  pub row : Key → Val → Option Row
  pub val : Option Row → Val
  pub val_row : (k : Key) (v : Val) → val (row k v) ≡ v
  pub key_row : (k : Key) (v : Val) (r : Row) → row k v ≡ some r → key r ≡ k
  pub row_none : (k : Key) → row k (val none) ≡ none

abbrev pub get : (S : Kind) → List S.Row → S.Key → S.Val
get S t k = S.val (find S.cmp S.key k t)

-- no row that says nothing
abbrev pub Proper : (S : Kind) → S.Row → Type 0
Proper S r = S.row (S.key r) (S.val (some r)) ≡ some r

pub record Normal (S : Kind) (t : List S.Row) : Type 0 where
  pub asc : Asc S.cmp (map S.key t)
  pub proper : All (Proper S) t

-- The table over the keys of two, in which the value of each key `k` is `f k`.
abbrev pub join : (S : Kind) → (S.Key → S.Val) → List S.Row → List S.Row → List S.Row
join S f xs ys = collect (λ k. S.row k (f k)) (union S.cmp (map S.key xs) (map S.key ys))

module _ (S : Kind) where
  pub find_row : (t : List S.Row) → Normal S t → (k : S.Key) → find S.cmp S.key k t ≡ S.row k (get S t k)
  find_row t h k = go (find S.cmp S.key k t) refl
    where
      go : (o : Option S.Row) → find S.cmp S.key k t ≡ o → o ≡ S.row k (S.val o)
      go none e = sym (S.row_none k)
      go (some r) e = rw (find_key S.cmp S.order S.key k t r e) (sym (find_all S.cmp S.order S.key (Proper S) k t r h.proper e))

  pub ext : (s t : List S.Row) → Normal S s → Normal S t → ((k : S.Key) → get S s k ≡ get S t k) → s ≡ t
  ext s t h g f =
      find_ext S.cmp S.order S.key s t h.asc g.asc
      (λ k. find_row s h k ∙ ap (S.row k) (f k) ∙ sym (find_row t g k))

  own : (f : S.Key → S.Val) (k : S.Key) (r : S.Row) → S.row k (f k) ≡ some r → S.key r ≡ k
  own f k r e = S.key_row k (f k) r e

  -- a row that a value makes says something
  pub proper_row : (k : S.Key) (v : S.Val) (r : S.Row) → S.row k v ≡ some r → Proper S r
  proper_row k v r e = ap₂ S.row (S.key_row k v r e) (ap S.val (sym e) ∙ S.val_row k v) ∙ e

  pub asc_join : (f : S.Key → S.Val) (s t : List S.Row) → Asc S.cmp (map S.key t) → Normal S (join S f s t)
  asc_join f s t h =
      record {
        asc = asc_collect S.cmp S.order S.key (λ k. S.row k (f k)) (own f) (union S.cmp (map S.key s) (map S.key t)) (asc_union S.cmp S.order (map S.key s) (map S.key t) h);
        proper = all_collect (Proper S) (λ k. S.row k (f k)) (union S.cmp (map S.key s) (map S.key t)) (λ k. proper_row k (f k));
      }

  pub normal_join : (f : S.Key → S.Val) (s t : List S.Row) → Normal S t → Normal S (join S f s t)
  normal_join f s t h = asc_join f s t h.asc

  pub get_join : (f : S.Key → S.Val) (s t : List S.Row)
      → ((k : S.Key) → get S s k ≡ S.val none → get S t k ≡ S.val none → f k ≡ S.val none)
      → (k : S.Key) → get S (join S f s t) k ≡ f k
  get_join f s t z k =
      ap S.val (find_collect S.cmp S.order S.key (λ k. S.row k (f k)) (own f) k (union S.cmp (map S.key s) (map S.key t)))
      ∙ go (has S.cmp k (map S.key s)) (has S.cmp k (map S.key t)) refl refl
      (has_union S.cmp S.order k (map S.key s) (map S.key t))
    where
      empty : (u : List S.Row) → has S.cmp k (map S.key u) ≡ false → get S u k ≡ S.val none
      empty u e = go (find S.cmp S.key k u) (find_has S.cmp S.order S.key k u ∙ e)
        where
          go : (o : Option S.Row) → is_some o ≡ false → S.val o ≡ S.val none
          go none e = refl
          go (some r) e = absurd (false≢true (sym e))

      go : (a b : Bool) → has S.cmp k (map S.key s) ≡ a → has S.cmp k (map S.key t) ≡ b
          → has S.cmp k (union S.cmp (map S.key s) (map S.key t)) ≡ (has S.cmp k (map S.key s) || has S.cmp k (map S.key t))
          → S.val (pick (has S.cmp k (union S.cmp (map S.key s) (map S.key t))) (S.row k (f k)) none) ≡ f k
      go true b p q u = rw (u, p) (S.val_row k (f k))
      go false true p q u = rw (u, p, q) (S.val_row k (f k))
      go false false p q u = rw (u, p, q) (sym (z k (empty s p) (empty t q)))

  -- join, as two hands walk along the tables: what a loop over both does
  pub join_lt : (f : S.Key → S.Val) (x y : S.Row) (xs ys : List S.Row) → S.cmp (S.key x) (S.key y) ≡ Ordering.lt → Asc S.cmp (map S.key (x ∷ xs)) → Asc S.cmp (map S.key (y ∷ ys))
      → join S f (x ∷ xs) (y ∷ ys) ≡ cons? (S.row (S.key x) (f (S.key x))) (join S f xs (y ∷ ys))
  join_lt f x y xs ys e h g = ap (collect (λ k. S.row k (f k))) (union_lt S.cmp S.order (S.key x) (S.key y) (map S.key xs) (map S.key ys) e h g)

  pub join_gt : (f : S.Key → S.Val) (x y : S.Row) (xs ys : List S.Row) → S.cmp (S.key x) (S.key y) ≡ Ordering.gt → Asc S.cmp (map S.key (x ∷ xs))
      → join S f (x ∷ xs) (y ∷ ys) ≡ cons? (S.row (S.key y) (f (S.key y))) (join S f (x ∷ xs) ys)
  join_gt f x y xs ys e h =
      let l = gt_lt S.cmp S.order (S.key x) (S.key y) e in
      ap (collect (λ k. S.row k (f k))) (union_gt S.cmp S.order (S.key y) (map S.key (x ∷ xs)) (map S.key ys) (l, below_trans S.cmp S.order (S.key y) (S.key x) (map S.key xs) l h.0))

  pub join_eq : (f : S.Key → S.Val) (x y : S.Row) (xs ys : List S.Row) → S.cmp (S.key x) (S.key y) ≡ Ordering.eq → Asc S.cmp (map S.key (x ∷ xs))
      → join S f (x ∷ xs) (y ∷ ys) ≡ cons? (S.row (S.key x) (f (S.key x))) (join S f xs ys)
  join_eq f x y xs ys e h = ap (collect (λ k. S.row k (f k))) (union_eq S.cmp S.order (S.key x) (S.key y) (map S.key xs) (map S.key ys) e h)

  pub join_nil : (f : S.Key → S.Val) (y : S.Row) (ys : List S.Row) → join S f [] (y ∷ ys) ≡ cons? (S.row (S.key y) (f (S.key y))) (join S f [] ys)
  join_nil f y ys = refl

-- ---- the row under a key

abbrev pub row_at : (S : Kind) → List S.Row → S.Key → Option S.Row
row_at S t k = find S.cmp S.key k t

module _ (S : Kind) where
  pub key_at : (t : List S.Row) (k : S.Key) (r : S.Row) → row_at S t k ≡ some r → k ≡ S.key r
  key_at t k r e = find_key S.cmp S.order S.key k t r e

  -- a value, by whether the key has a row
  pub by_row : (P : S.Val → Type 0) (t : List S.Row) (k : S.Key)
      → P (S.val none) → ((r : S.Row) → row_at S t k ≡ some r → P (S.val (some r))) → P (get S t k)
  by_row P t k n s = go (row_at S t k) refl
    where
      go : (o : Option S.Row) → row_at S t k ≡ o → P (S.val o)
      go none e = n
      go (some r) e = s r e

  -- what holds of all rows holds of the row under a key; what holds of each row under its key holds of all
  pub all_at : (P : S.Row → Type 0) (t : List S.Row) → All P t → (k : S.Key) (r : S.Row) → row_at S t k ≡ some r → P r
  all_at P t h k r e = find_all S.cmp S.order S.key P k t r h e

  pub at_all : (P : S.Row → Type 0) (t : List S.Row) → Normal S t → ((r : S.Row) → row_at S t (S.key r) ≡ some r → Proper S r → P r) → All P t
  at_all P t h f = all_both (λ r. row_at S t (S.key r) ≡ some r) (Proper S) P t f (all_find S.cmp S.order S.key t h.asc) h.proper

  -- the same for tests
  pub every_at : (p : S.Row → Bool) (t : List S.Row) → T (every p t) → (k : S.Key) (r : S.Row) → row_at S t k ≡ some r → T (p r)
  every_at p t h k r e = all_at (λ r. T (p r)) t (every_all p t h) k r e

  pub at_every : (p : S.Row → Bool) (t : List S.Row) → Normal S t → ((r : S.Row) → row_at S t (S.key r) ≡ some r → Proper S r → T (p r)) → T (every p t)
  at_every p t h f = all_every p t (at_all (λ r. T (p r)) t h f)

  pub any_at : (p : S.Row → Bool) (t : List S.Row) → Normal S t → T (any p t) → (r : S.Row) × (row_at S t (S.key r) ≡ some r) × T (p r)
  any_at p t h a = any_from (λ r. row_at S t (S.key r) ≡ some r) p t (at_all (λ r. row_at S t (S.key r) ≡ some r) t h (λ r e q. e)) a

  pub at_any : (p : S.Row → Bool) (t : List S.Row) (k : S.Key) (r : S.Row) → row_at S t k ≡ some r → T (p r) → T (any p t)
  at_any p t k r e a = any_to S.cmp S.order S.key p k t r e a

-- ---- a table whose rows are changed or dropped one by one: `f` does to a row what `g` does to its key's value

collect_same : {R Q : Type 0} (P : R → Type 0) (f h : R → Option Q) (rs : List R) → ((r : R) → P r → f r ≡ h r) → All P rs → collect f rs ≡ collect h rs
collect_same P f h [] e a = refl
collect_same P f h (r ∷ rs) e a = ap₂ cons? (e r a.0) (collect_same P f h rs e a.1)

module _ (S : Kind) (f : S.Row → Option S.Row) (g : S.Key → S.Val → S.Val)
    (says : (r : S.Row) → Proper S r → f r ≡ S.row (S.key r) (g (S.key r) (S.val (some r)))) where
  abbrev by_value : S.Row → Option S.Row
  by_value r = S.row (S.key r) (g (S.key r) (S.val (some r)))

  same_rows : (t : List S.Row) → Normal S t → collect f t ≡ collect by_value t
  same_rows t h = collect_same (Proper S) f by_value t says h.proper

  own_key : (r q : S.Row) → by_value r ≡ some q → S.key q ≡ S.key r
  own_key r q e = S.key_row (S.key r) (g (S.key r) (S.val (some r))) q e

  pub normal_sift : (t : List S.Row) → Normal S t → Normal S (collect f t)
  normal_sift t h = rw (same_rows t h) (record { asc = asc_sift S.cmp S.order S.key by_value own_key t h.asc; proper = all_collect (Proper S) by_value t (λ r. proper_row S (S.key r) (g (S.key r) (S.val (some r)))) })

  pub get_sift : ((k : S.Key) → g k (S.val none) ≡ S.val none) → (t : List S.Row) → Normal S t → (k : S.Key) → get S (collect f t) k ≡ g k (get S t k)
  get_sift z t h k =
      ap (λ (u : List S.Row). get S u k) (same_rows t h)
      ∙ ap S.val (find_sift S.cmp S.order S.key by_value own_key k t h.asc) ∙ go (row_at S t k) refl
    where
      go : (o : Option S.Row) → row_at S t k ≡ o → S.val (after o by_value) ≡ g k (S.val o)
      go none e = sym (z k)
      go (some r) e = rw (key_at S t k r e) (S.val_row (S.key r) (g (S.key r) (S.val (some r))))
