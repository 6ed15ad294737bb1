-- Two tables walked together: at each key, a value of the two values there.
use Prim.Native.Nat.{ℕ, ◌+◌, ◌≤◌, ◌<◌, compare, min, Ordering}
use Rattle.std.specs.Prelude.{◌≡◌, Bool, true, false, List, [], ◌∷◌, map, eqb, ltb, length, take, get_or}
use Rattle.std.proofs.Math.Path.{refl, ap, ap₂, subst}
use Rattle.std.proofs.Common.{sym, ◌∙◌, arith, add-one, add-zero, length-take, drop_of_length-le, eq-eqb, ne_eqb, ltb-true, ltb-false}
use Rattle.std.proofs.Math.Option.{Option, none, some}
use Rattle.std.proofs.Math.Seq.{slice, slice-cons}
use Rattle.tables.specs.Order.{self, lt_gt, gt_lt, nat_order, nat_lt}
use Rattle.tables.specs.Table.{Kind, Normal, Proper, get, join, ext, get_join, normal_join, normal_sift, get_sift, collect, cons?, union, find, hit, pick, Below, Asc, find_below, below_trans, below_union, ins_first, union_gt, union_eq}

-- ---- what a row of a table says does not matter to the keys after it

module _ {K R : Type 0} (cmp : K → K → Ordering) where
  pub collect_below : (f g : K → Option R) (j : K) (ks : List K) → Below cmp j ks → ((k : K) → cmp j k ≡ Ordering.lt → f k ≡ g k) → collect f ks ≡ collect g ks
  collect_below f g j [] h e = refl
  collect_below f g j (k ∷ ks) h e = ap₂ cons? (e k h.0) (collect_below f g j ks h.1 e)

-- the rows after the first
abbrev pub tail : {R : Type 0} → List R → List R
tail [] = []
tail (r ∷ rs) = rs

module _ (S : Kind) where
  unfoldable pub zip : (S.Key → S.Val → S.Val → S.Val) → List S.Row → List S.Row → List S.Row
  zip h xs ys = join S (λ k. h k (get S xs k) (get S ys k)) xs ys

  pub get_zip : (h : S.Key → S.Val → S.Val → S.Val) (xs ys : List S.Row) → ((k : S.Key) → h k (S.val none) (S.val none) ≡ S.val none)
      → (k : S.Key) → get S (zip h xs ys) k ≡ h k (get S xs k) (get S ys k)
  unfolding zip
  get_zip h xs ys z k = get_join S (λ k. h k (get S xs k) (get S ys k)) xs ys (λ k e f. ap₂ (h k) e f ∙ z k) k

  pub normal_zip : (h : S.Key → S.Val → S.Val → S.Val) (xs ys : List S.Row) → Normal S ys → Normal S (zip h xs ys)
  unfolding zip
  normal_zip h xs ys n = normal_join S (λ k. h k (get S xs k) (get S ys k)) xs ys n

  pub get_first : (x : S.Row) (xs : List S.Row) → get S (x ∷ xs) (S.key x) ≡ S.val (some x)
  get_first x xs = ap (λ (o : Ordering). S.val (hit o x (find S.cmp S.key (S.key x) xs))) (self S.cmp S.order (S.key x))

  pub get_none : (xs : List S.Row) (k : S.Key) → Below S.cmp k (map S.key xs) → get S xs k ≡ S.val none
  get_none xs k h = ap S.val (find_below S.cmp S.order S.key k xs h)

  pub get_after : (x : S.Row) (xs : List S.Row) (k : S.Key) → S.cmp (S.key x) k ≡ Ordering.lt → get S (x ∷ xs) k ≡ get S xs k
  get_after x xs k e = ap (λ (o : Ordering). S.val (hit o x (find S.cmp S.key k xs))) (lt_gt S.cmp S.order (S.key x) k e)

  module _ (h : S.Key → S.Val → S.Val → S.Val) where
    abbrev F : List S.Row → List S.Row → S.Key → Option S.Row
    F xs ys k = S.row k (h k (get S xs k) (get S ys k))

    pub zip_left : (x : S.Row) (xs ys : List S.Row) → Below S.cmp (S.key x) (map S.key xs) → Below S.cmp (S.key x) (map S.key ys)
        → zip h (x ∷ xs) ys ≡ cons? (S.row (S.key x) (h (S.key x) (S.val (some x)) (S.val none))) (zip h xs ys)
    unfolding zip
    zip_left x xs ys p q =
        let u = below_union S.cmp S.order (S.key x) (map S.key xs) (map S.key ys) p q in
        ap (collect (F (x ∷ xs) ys)) (ins_first S.cmp S.order (S.key x) (union S.cmp (map S.key xs) (map S.key ys)) u)
        ∙ ap₂ cons? (ap₂ (λ (v w : S.Val). S.row (S.key x) (h (S.key x) v w)) (get_first x xs) (get_none ys (S.key x) q))
        (collect_below S.cmp (F (x ∷ xs) ys) (F xs ys) (S.key x) (union S.cmp (map S.key xs) (map S.key ys)) u
        (λ k e. ap (λ (v : S.Val). S.row k (h k v (get S ys k))) (get_after x xs k e)))

    pub zip_right : (y : S.Row) (xs ys : List S.Row) → Below S.cmp (S.key y) (map S.key xs) → Below S.cmp (S.key y) (map S.key ys)
        → zip h xs (y ∷ ys) ≡ cons? (S.row (S.key y) (h (S.key y) (S.val none) (S.val (some y)))) (zip h xs ys)
    unfolding zip
    zip_right y xs ys p q =
        let u = below_union S.cmp S.order (S.key y) (map S.key xs) (map S.key ys) p q in
        ap (collect (F xs (y ∷ ys))) (union_gt S.cmp S.order (S.key y) (map S.key xs) (map S.key ys) p)
        ∙ ap₂ cons? (ap₂ (λ (v w : S.Val). S.row (S.key y) (h (S.key y) v w)) (get_none xs (S.key y) p) (get_first y ys))
        (collect_below S.cmp (F xs (y ∷ ys)) (F xs ys) (S.key y) (union S.cmp (map S.key xs) (map S.key ys)) u
        (λ k e. ap (λ (v : S.Val). S.row k (h k (get S xs k) v)) (get_after y ys k e)))

    pub zip_both : (x y : S.Row) (xs ys : List S.Row) → S.cmp (S.key x) (S.key y) ≡ Ordering.eq → Below S.cmp (S.key x) (map S.key xs) → Asc S.cmp (map S.key xs) → Below S.cmp (S.key y) (map S.key ys)
        → zip h (x ∷ xs) (y ∷ ys) ≡ cons? (S.row (S.key x) (h (S.key x) (S.val (some x)) (S.val (some y)))) (zip h xs ys)
    unfolding zip
    zip_both x y xs ys c p a q =
        let s : S.key x ≡ S.key y = S.order.same (S.key x) (S.key y) c in
        let q' : Below S.cmp (S.key x) (map S.key ys) = subst (λ (j : S.Key). Below S.cmp j (map S.key ys)) (sym s) q in
        let u = below_union S.cmp S.order (S.key x) (map S.key xs) (map S.key ys) p q' in
        ap (collect (F (x ∷ xs) (y ∷ ys))) (union_eq S.cmp S.order (S.key x) (S.key y) (map S.key xs) (map S.key ys) c (p, a))
        ∙ ap₂ cons? (ap₂ (λ (v w : S.Val). S.row (S.key x) (h (S.key x) v w)) (get_first x xs) (ap (get S (y ∷ ys)) s ∙ get_first y ys))
        (collect_below S.cmp (F (x ∷ xs) (y ∷ ys)) (F xs ys) (S.key x) (union S.cmp (map S.key xs) (map S.key ys)) u
        (λ k e. ap₂ (λ (v w : S.Val). S.row k (h k v w)) (get_after x xs k e) (get_after y ys k (subst (λ (j : S.Key). S.cmp j k ≡ Ordering.lt) s e))))

    pub zip_nil : zip h [] [] ≡ []
    unfolding zip
    zip_nil = refl

  -- ---- one turn of a loop over two tables

  -- which of the two first rows is next: the first's, both, or the second's
  abbrev pub turn_of : List S.Row → List S.Row → Ordering
  turn_of [] [] = Ordering.eq
  turn_of [] (y ∷ ys) = Ordering.gt
  turn_of (x ∷ xs) [] = Ordering.lt
  turn_of (x ∷ xs) (y ∷ ys) = S.cmp (S.key x) (S.key y)

  -- what is ahead after a turn
  abbrev pub left_after : Ordering → List S.Row → List S.Row
  left_after Ordering.lt xs = tail xs
  left_after Ordering.eq xs = tail xs
  left_after Ordering.gt xs = xs

  abbrev pub right_after : Ordering → List S.Row → List S.Row
  right_after Ordering.lt ys = ys
  right_after Ordering.eq ys = tail ys
  right_after Ordering.gt ys = tail ys

  -- the row that a turn gives
  abbrev pub one_row : (S.Key → S.Val → S.Val → S.Val) → S.Row → Option S.Row → Option S.Row → Option S.Row
  one_row h r x y = S.row (S.key r) (h (S.key r) (S.val x) (S.val y))

  abbrev pub turn_row : (S.Key → S.Val → S.Val → S.Val) → Ordering → List S.Row → List S.Row → Option S.Row
  turn_row h Ordering.lt [] ys = none
  turn_row h Ordering.lt (x ∷ xs) ys = one_row h x (some x) none
  turn_row h Ordering.eq [] ys = none
  turn_row h Ordering.eq (x ∷ xs) [] = none
  turn_row h Ordering.eq (x ∷ xs) (y ∷ ys) = one_row h x (some x) (some y)
  turn_row h Ordering.gt xs [] = none
  turn_row h Ordering.gt xs (y ∷ ys) = one_row h y none (some y)

  abbrev pub Ascend : List S.Row → Type 0
  Ascend rs = Asc S.cmp (map S.key rs)

  pub zip_turn : (h : S.Key → S.Val → S.Val → S.Val) (xs ys : List S.Row) → Ascend xs → Ascend ys
      → zip h xs ys ≡ cons? (turn_row h (turn_of xs ys) xs ys) (zip h (left_after (turn_of xs ys) xs) (right_after (turn_of xs ys) ys))
  zip_turn h [] [] a b = refl
  zip_turn h [] (y ∷ ys) a b = zip_right h y [] ys tt b.0
  zip_turn h (x ∷ xs) [] a b = zip_left h x xs [] a.0 tt
  zip_turn h (x ∷ xs) (y ∷ ys) a b = go (S.cmp (S.key x) (S.key y)) refl
    where
      go : (o : Ordering) → S.cmp (S.key x) (S.key y) ≡ o
          → zip h (x ∷ xs) (y ∷ ys) ≡ cons? (turn_row h o (x ∷ xs) (y ∷ ys)) (zip h (left_after o (x ∷ xs)) (right_after o (y ∷ ys)))
      go Ordering.lt c = zip_left h x xs (y ∷ ys) a.0 (c, below_trans S.cmp S.order (S.key x) (S.key y) (map S.key ys) c b.0)
      go Ordering.eq c = zip_both h x y xs ys c a.0 a.1 b.0
      go Ordering.gt c =
          let c' = gt_lt S.cmp S.order (S.key x) (S.key y) c in
          zip_right h y (x ∷ xs) ys (c', below_trans S.cmp S.order (S.key y) (S.key x) (map S.key xs) c' a.0) b.0

  pub ascend_left : (o : Ordering) (xs : List S.Row) → Ascend xs → Ascend (left_after o xs)
  ascend_left Ordering.lt [] a = tt
  ascend_left Ordering.lt (x ∷ xs) a = a.1
  ascend_left Ordering.eq [] a = tt
  ascend_left Ordering.eq (x ∷ xs) a = a.1
  ascend_left Ordering.gt xs a = a

  pub ascend_right : (o : Ordering) (ys : List S.Row) → Ascend ys → Ascend (right_after o ys)
  ascend_right Ordering.lt ys a = a
  ascend_right Ordering.eq [] a = tt
  ascend_right Ordering.eq (y ∷ ys) a = a.1
  ascend_right Ordering.gt [] a = tt
  ascend_right Ordering.gt (y ∷ ys) a = a.1

-- ---- tables whose keys are numbers: a step of a loop over two of them

pub record Rows : Type 1 where
  pub Row : Type 0
  pub Val : Type 0
  pub key : Row → ℕ
  pub row : ℕ → Val → Option Row
  pub val : Option Row → Val
  pub val_row : (k : ℕ) (v : Val) → val (row k v) ≡ v
  pub key_row : (k : ℕ) (v : Val) (r : Row) → row k v ≡ some r → key r ≡ k
  pub row_none : (k : ℕ) → row k (val none) ≡ none

abbrev pub kind : Rows → Kind
kind N = record { Key = ℕ; Row = N.Row; Val = N.Val; cmp = compare; order = nat_order; key = N.key; row = N.row; val = N.val; val_row = N.val_row; key_row = N.key_row; row_none = N.row_none }

module _ (N : Rows) where
  -- the key of the first row, or the number e
  abbrev pub front : ℕ → List N.Row → ℕ
  front e [] = e
  front e (r ∷ rs) = N.key r

  -- what the first row says of a key that no row before it has
  abbrev pub said : ℕ → List N.Row → N.Val
  said k [] = N.val none
  said k (r ∷ rs) = pick (eqb (N.key r) k) (N.val (some r)) (N.val none)

  -- the rows after the key
  abbrev pub past : ℕ → List N.Row → List N.Row
  past k [] = []
  past k (r ∷ rs) = pick (eqb (N.key r) k) rs (r ∷ rs)

  abbrev pub Rise : List N.Row → Type 0
  Rise rs = Asc compare (map N.key rs)

  pub rise_past : (k : ℕ) (rs : List N.Row) → Rise rs → Rise (past k rs)
  rise_past k [] h = tt
  rise_past k (r ∷ rs) h = go (eqb (N.key r) k)
    where
      go : (b : Bool) → Rise (pick b rs (r ∷ rs))
      go true = h.1
      go false = h

  module _ (h : ℕ → N.Val → N.Val → N.Val) where
    -- one turn of a loop over two tables: `low` is the smaller of the first keys
    pub zip_step : (e low : ℕ) (xs ys : List N.Row) → Rise xs → Rise ys → low < e → low ≡ min (front e xs) (front e ys)
        → zip (kind N) h xs ys ≡ cons? (N.row low (h low (said low xs) (said low ys))) (zip (kind N) h (past low xs) (past low ys))
    zip_step e low [] [] a b l t = absurd (omega arith)
    zip_step e low [] (y ∷ ys) a b l t =
        let s : N.key y ≡ low = omega arith in
        rw (← s, eq-eqb (N.key y) (N.key y) refl) (zip_right (kind N) h y [] ys tt b.0)
    zip_step e low (x ∷ xs) [] a b l t =
        let s : N.key x ≡ low = omega arith in
        rw (← s, eq-eqb (N.key x) (N.key x) refl) (zip_left (kind N) h x xs [] a.0 tt)
    zip_step e low (x ∷ xs) (y ∷ ys) a b l t = go (compare (N.key x) (N.key y)) refl
      where
        go : (o : Ordering) → compare (N.key x) (N.key y) ≡ o
            → zip (kind N) h (x ∷ xs) (y ∷ ys) ≡ cons? (N.row low (h low (said low (x ∷ xs)) (said low (y ∷ ys)))) (zip (kind N) h (past low (x ∷ xs)) (past low (y ∷ ys)))
        go Ordering.lt c =
            let m = nat_lt (N.key x) (N.key y) c in
            let s : N.key x ≡ low = omega arith in
            rw (← s, eq-eqb (N.key x) (N.key x) refl, ne_eqb (N.key y) (N.key x) (λ z. omega arith))
            (zip_left (kind N) h x xs (y ∷ ys) a.0 (c, below_trans compare nat_order (N.key x) (N.key y) (map N.key ys) c b.0))
        go Ordering.eq c =
            let m : N.key x ≡ N.key y = nat_order.same (N.key x) (N.key y) c in
            let s : N.key x ≡ low = omega arith in
            rw (← s, eq-eqb (N.key x) (N.key x) refl, eq-eqb (N.key y) (N.key x) (sym m))
            (zip_both (kind N) h x y xs ys c a.0 a.1 b.0)
        go Ordering.gt c =
            let c' = gt_lt compare nat_order (N.key x) (N.key y) c in
            let m = nat_lt (N.key y) (N.key x) c' in
            let s : N.key y ≡ low = omega arith in
            rw (← s, eq-eqb (N.key y) (N.key y) refl, ne_eqb (N.key x) (N.key y) (λ z. omega arith))
            (zip_right (kind N) h y (x ∷ xs) ys (c', below_trans compare nat_order (N.key y) (N.key x) (map N.key xs) c' a.0) b.0)

pub by_lt : {C : Type 0} (a b : ℕ) → (a < b → C) → (b ≤ a → C) → C
by_lt {C} a b f g = go (ltb a b) refl
  where
    go : (t : Bool) → ltb a b ≡ t → C
    go true e = f (ltb-true a b e)
    go false e = g (ltb-false a b e)

-- ---- the same at places of a list, as a loop has it

module _ (N : Rows) (l : List N.Row) (i n e low : ℕ) (d : N.Row) (small : low < e) (fits : n ≤ length l) where
  ahead : i < n → slice i n l ≡ get_or l i d ∷ slice (i + 1) n l
  ahead h = rw add-one (slice-cons i n l d h fits)

  done : n ≤ i → slice i n l ≡ []
  done h = drop_of_length-le (take n l) {i = i} (simp length-take (omega arith))

  -- the place after the key
  pub next_past : slice (i + pick (eqb (front N e (slice i n l)) low) 1 0) n l ≡ past N low (slice i n l)
  next_past = by_lt i n (λ h. rw (ahead h) (go (eqb (N.key (get_or l i d)) low) h)) (λ h. rw (done h, ne_eqb e low (λ z. omega arith), add-zero) (done h))
    where
      go : (b : Bool) → i < n → slice (i + pick b 1 0) n l ≡ pick b (slice (i + 1) n l) (get_or l i d ∷ slice (i + 1) n l)
      go true h = refl
      go false h = rw add-zero (ahead h)

  pub next_le : i ≤ n → i + pick (eqb (front N e (slice i n l)) low) 1 0 ≤ n
  next_le k = by_lt i n (λ h. go (eqb (front N e (slice i n l)) low) h) (λ h. rw (done h, ne_eqb e low (λ z. omega arith)) (omega arith))
    where
      go : (b : Bool) → i < n → i + pick b 1 0 ≤ n
      go true h = omega arith
      go false h = omega arith

pub pick_some : (x low : ℕ) → x ≡ low → ◌≡◌ {A = ℕ} (pick (eqb x low) 1 0) 1
pick_some x low h = rw (eq-eqb x low h)

-- ---- where the second table alone says nothing, the first one's rows are kept or changed one by one

pub zip_first : (S : Kind) (h : S.Key → S.Val → S.Val → S.Val) (xs ys : List S.Row) (f : S.Row → Option S.Row)
    → ((r : S.Row) → Proper S r → f r ≡ S.row (S.key r) (h (S.key r) (S.val (some r)) (get S ys (S.key r))))
    → ((k : S.Key) (w : S.Val) → h k (S.val none) w ≡ S.val none) → Normal S xs → Normal S ys → zip S h xs ys ≡ collect f xs
unfolding zip
zip_first S h xs ys f says z nx ny =
    ext S (join S (λ k. h k (get S xs k) (get S ys k)) xs ys) (collect f xs) (normal_join S (λ k. h k (get S xs k) (get S ys k)) xs ys ny)
    (normal_sift S f (λ k v. h k v (get S ys k)) says xs nx)
    (λ k. get_join S (λ k. h k (get S xs k) (get S ys k)) xs ys (λ j p q. ap (λ (v : S.Val). h j v (get S ys j)) p ∙ z j (get S ys j)) k
    ∙ sym (get_sift S f (λ k v. h k v (get S ys k)) says (λ j. z j (get S ys j)) xs nx k))
