-- Two tables walked along ascending keys, which have all of theirs.
use Prim.Native.Nat.{ℕ, suc, ◌≤◌, ◌<◌, compare, Ordering}
use Rattle.std.specs.Prelude.{◌≡◌, Bool, true, false, eqb}
use Rattle.std.proofs.Math.Path.{refl, ap₂}
use Rattle.std.proofs.Common.{sym, ap, ◌∙◌, subst, eqb-true}
use Rattle.std.proofs.lemmas.Bool.{false≢true, eqb-false}
use Rattle.std.proofs.Math.Option.{Option, none, some}
use mathlib.Core.List.{List, [], ◌∷◌, map}
use native.Mathlib.Omega.{arith}
use Rattle.std.proofs.Math.ListN.{length}
use Rattle.tables.specs.Order.{self, nat_order, lt_nat}
use Rattle.tables.specs.Table.{Normal, get, join, collect, cons?, find, has, hit, pick, is_some, Below, Asc, below_trans, ext, get_join, normal_join}
use Rattle.tables.specs.Zip.{Rows, kind, front, said, past, Rise, rise_past, collect_below, get_first, get_none, get_after, by_lt}

has_below : (k : ℕ) (ks : List ℕ) → Below compare k ks → has compare k ks ≡ false
has_below k ks h = go ks h
  where
    go : (ks : List ℕ) → Below compare k ks → is_some (find compare (λ j. j) k ks) ≡ false
    go [] h = refl
    go (j ∷ js) h = rw h.0 (go js h.1)

has_self : (k : ℕ) (ks : List ℕ) → has compare k (k ∷ ks) ≡ true
has_self k ks = rw (self compare nat_order k)

has_other : (k j : ℕ) (js : List ℕ) → (k ≡ j → ⊥) → has compare k (j ∷ js) ≡ has compare k js
has_other k j js h = go (compare k j) refl
  where
    go : (o : Ordering) → compare k j ≡ o → is_some (hit o j (find compare (λ i. i) k js)) ≡ has compare k js
    go Ordering.lt e = refl
    go Ordering.eq e = absurd (h (nat_order.same k j e))
    go Ordering.gt e = refl

module _ (N : Rows) where
  abbrev pub Sub : List ℕ → List N.Row → Type 0
  Sub ks xs = (k : ℕ) → has compare k (map N.key xs) ≡ true → has compare k ks ≡ true

  below_of : (k : ℕ) (x : N.Row) (xs : List N.Row) → k < N.key x → Rise N (x ∷ xs) → Below compare k (map N.key (x ∷ xs))
  below_of k x xs h r = let e = lt_nat k (N.key x) h in (e, below_trans compare nat_order k (N.key x) (map N.key xs) e r.0)

  pub front_sub : (k : ℕ) (ks : List ℕ) (xs : List N.Row) → Below compare k ks → Sub (k ∷ ks) xs → k ≤ front N k xs
  front_sub k ks [] b s = omega arith
  front_sub k ks (x ∷ xs) b s = by_lt (N.key x) k
      (λ h.
      let e = lt_nat (N.key x) k h in
      let t : has compare (N.key x) (k ∷ ks) ≡ true = s (N.key x) (has_self (N.key x) (map N.key xs)) in
      absurd (false≢true (sym (has_below (N.key x) (k ∷ ks) (e, below_trans compare nat_order (N.key x) k ks e b)) ∙ t)))
      (λ h. h)

  pub sub_past : (k : ℕ) (ks : List ℕ) (xs : List N.Row) → Below compare k ks → Rise N xs → Sub (k ∷ ks) xs → Sub ks (past N k xs)
  sub_past k ks [] b r s = λ j t. absurd (false≢true t)
  sub_past k ks (x ∷ xs) b r s = go (eqb (N.key x) k) refl
    where
      go : (c : Bool) → eqb (N.key x) k ≡ c → Sub ks (pick c xs (x ∷ xs))
      go true e j t =
          let m : N.key x ≡ k = eqb-true (N.key x) k e in
          let d : j ≡ N.key x → ⊥ = λ z. false≢true (sym (has_below (N.key x) (map N.key xs) r.0) ∙ subst (λ (i : ℕ). has compare i (map N.key xs) ≡ true) z t) in
          sym (has_other j k ks (λ z. d (z ∙ sym m))) ∙ s j (has_other j (N.key x) (map N.key xs) d ∙ t)
      go false e j t =
          let f = front_sub k ks (x ∷ xs) b s in
          let l : k < N.key x = let d = eqb-false (N.key x) k e in omega arith in
          let d : j ≡ k → ⊥ = λ z. false≢true (sym (has_below k (map N.key (x ∷ xs)) (below_of k x xs l r)) ∙ subst (λ (i : ℕ). has compare i (map N.key (x ∷ xs)) ≡ true) z t) in
          sym (has_other j k ks d) ∙ s j t

  pub said_get : (k : ℕ) (xs : List N.Row) → Rise N xs → k ≤ front N k xs → said N k xs ≡ get (kind N) xs k
  said_get k [] r f = refl
  said_get k (x ∷ xs) r f = go (eqb (N.key x) k) refl
    where
      go : (c : Bool) → eqb (N.key x) k ≡ c → pick c (N.val (some x)) (N.val none) ≡ get (kind N) (x ∷ xs) k
      go true e = sym (get_first (kind N) x xs) ∙ ap (get (kind N) (x ∷ xs)) (eqb-true (N.key x) k e)
      go false e = let d = eqb-false (N.key x) k e in sym (get_none (kind N) (x ∷ xs) k (below_of k x xs (omega arith) r))

  pub get_past : (k j : ℕ) (xs : List N.Row) → compare k j ≡ Ordering.lt → get (kind N) (past N k xs) j ≡ get (kind N) xs j
  get_past k j [] h = refl
  get_past k j (x ∷ xs) h = go (eqb (N.key x) k) refl
    where
      go : (c : Bool) → eqb (N.key x) k ≡ c → get (kind N) (pick c xs (x ∷ xs)) j ≡ get (kind N) (x ∷ xs) j
      go true e = sym (get_after (kind N) x xs j (subst (λ (i : ℕ). compare i j ≡ Ordering.lt) (sym (eqb-true (N.key x) k e)) h))
      go false e = refl

  -- at each key in turn, the value by the rule of what the two tables say there
  module _ (f : ℕ → N.Val → N.Val → N.Val) where
    unfoldable pub walked : List ℕ → List N.Row → List N.Row → List N.Row
    walked [] xs ys = []
    walked (k ∷ ks) xs ys = cons? (N.row k (f k (said N k xs) (said N k ys))) (walked ks (past N k xs) (past N k ys))

    abbrev pub at : List N.Row → List N.Row → ℕ → N.Val
    at xs ys k = f k (get (kind N) xs k) (get (kind N) ys k)

    pub walked_is : (ks : List ℕ) (xs ys : List N.Row) → Asc compare ks → Rise N xs → Rise N ys → Sub ks xs → Sub ks ys
        → walked ks xs ys ≡ collect (λ k. N.row k (at xs ys k)) ks
    unfolding walked
    walked_is [] xs ys o rx ry sx sy = refl
    walked_is (k ∷ ks) xs ys o rx ry sx sy =
        ap₂ cons?
        (ap₂ (λ (u w : N.Val). N.row k (f k u w)) (said_get k xs rx (front_sub k ks xs o.0 sx)) (said_get k ys ry (front_sub k ks ys o.0 sy)))
        (walked_is ks (past N k xs) (past N k ys) o.1 (rise_past N k xs rx) (rise_past N k ys ry) (sub_past k ks xs o.0 rx sx) (sub_past k ks ys o.0 ry sy)
        ∙ collect_below compare (λ j. N.row j (at (past N k xs) (past N k ys) j)) (λ j. N.row j (at xs ys j)) k ks o.0
        (λ j e. ap₂ (λ (u w : N.Val). N.row j (f j u w)) (get_past k j xs e) (get_past k j ys e)))

    -- so it is the join of the two, where nothing else has a value
    pub walked_join : (vs xs ys : List N.Row) → Normal (kind N) vs → Normal (kind N) ys → Rise N xs → Sub (map N.key vs) xs → Sub (map N.key vs) ys
        → ((k : ℕ) → get (kind N) vs k ≡ N.val none → at xs ys k ≡ N.val none)
        → ((k : ℕ) → get (kind N) xs k ≡ N.val none → get (kind N) ys k ≡ N.val none → at xs ys k ≡ N.val none)
        → walked (map N.key vs) xs ys ≡ join (kind N) (at xs ys) xs ys
    walked_join vs xs ys nv ny rx sx sy z w =
        walked_is (map N.key vs) xs ys nv.asc rx ny.asc sx sy
        ∙ ext (kind N) (join (kind N) (at xs ys) [] vs) (join (kind N) (at xs ys) xs ys)
        (normal_join (kind N) (at xs ys) [] vs nv) (normal_join (kind N) (at xs ys) xs ys ny)
        (λ k. get_join (kind N) (at xs ys) [] vs (λ j p q. z j q) k ∙ sym (get_join (kind N) (at xs ys) xs ys w k))

    pub length_walked : (ks : List ℕ) (xs ys : List N.Row) → length (walked ks xs ys) ≤ length ks
    unfolding walked
    length_walked [] xs ys = omega arith
    length_walked (k ∷ ks) xs ys = go (N.row k (f k (said N k xs) (said N k ys))) (length_walked ks (past N k xs) (past N k ys))
      where
        go : (o : Option N.Row) → length (walked ks (past N k xs) (past N k ys)) ≤ length ks → length (cons? o (walked ks (past N k xs) (past N k ys))) ≤ suc (length ks)
        go none h = omega arith
        go (some r) h = omega arith

pub length_collect : {K R : Type 0} (f : K → Option R) (ks : List K) → length (collect f ks) ≤ length ks
length_collect f [] = omega arith
length_collect {K} {R} f (k ∷ ks) = go (f k) (length_collect f ks)
  where
    go : (o : Option R) → length (collect f ks) ≤ length ks → length (cons? o (collect f ks)) ≤ suc (length ks)
    go none h = omega arith
    go (some r) h = omega arith
