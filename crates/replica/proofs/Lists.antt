-- What holds of any, or of all, of a list made from others, and how long it is.
use Prim.Native.Nat.{suc, ◌+◌, ◌≤◌, Ordering}
use Rattle.std.specs.Prelude.{◌≡◌, refl, Bool, ◌||◌, List, [], ◌∷◌, ◌++◌, map, T, length}
use Rattle.std.proofs.Common.{sym, ap, ap₂, ◌∙◌, subst, arith}
use Rattle.std.proofs.Math.Bool.{or_assoc}
use Rattle.std.proofs.Math.Option.{Option}
use Rattle.std.proofs.lemmas.List.{length-map}
use Rattle.tables.specs.Truth.{or_l, or_r, or_e}
use Rattle.tables.specs.Table.{Kind, All, any, get, put, ins, union, all_sift}
use Rattle.tables.specs.Zip.{zip}
use Rattle.tables.specs.Walk.{length_collect}

-- ---- any

pub any_same : {R : Type 0} (P : R → Type 0) (p q : R → Bool) (rs : List R) → ((r : R) → P r → p r ≡ q r) → All P rs → any p rs ≡ any q rs
any_same P p q [] f h = refl
any_same P p q (r ∷ rs) f h = ap₂ ◌||◌ (f r h.0) (any_same P p q rs f h.1)

pub any_more : {R : Type 0} (p q : R → Bool) (rs : List R) → ((r : R) → T (p r) → T (q r)) → T (any p rs) → T (any q rs)
any_more p q [] f t = t
any_more p q (r ∷ rs) f t = or_e (p r) (any p rs) t (λ u. or_l (q r) (any q rs) (f r u)) (λ u. or_r (q r) (any q rs) (any_more p q rs f u))

pub any_append : {X : Type 0} (p : X → Bool) (xs ys : List X) → any p (xs ++ ys) ≡ (any p xs || any p ys)
any_append p [] ys = refl
any_append p (x ∷ xs) ys = ap (λ (b : Bool). p x || b) (any_append p xs ys) ∙ sym (or_assoc (p x) (any p xs) (any p ys))

pub any_mapped : {X Y : Type 0} (p : Y → Bool) (f : X → Y) (xs : List X) → any p (map f xs) ≡ any (λ x. p (f x)) xs
any_mapped p f [] = refl
any_mapped p f (x ∷ xs) = ap (λ (b : Bool). p (f x) || b) (any_mapped p f xs)

-- ---- all

pub all_append : {X : Type 0} (P : X → Type 0) (xs ys : List X) → All P xs → All P ys → All P (xs ++ ys)
all_append P [] ys h g = g
all_append P (x ∷ xs) ys h g = (h.0, all_append P xs ys h.1 g)

pub all_mapped : {X Y : Type 0} (P : Y → Type 0) (f : X → Y) (xs : List X) → All (λ x. P (f x)) xs → All P (map f xs)
all_mapped P f [] h = tt
all_mapped P f (x ∷ xs) h = (h.0, all_mapped P f xs h.1)

pub all_there : {X : Type 0} (P : X → Type 0) (xs : List X) (x : X) (ys : List X) → All P (xs ++ (x ∷ ys)) → P x
all_there P [] x ys h = h.0
all_there P (z ∷ xs) x ys h = all_there P xs x ys h.1

all_ins : {K : Type 0} (P : K → Type 0) (cmp : K → K → Ordering) (k : K) (ks : List K) → P k → All P ks → All P (ins cmp k ks)
all_ins P cmp k [] p h = (p, tt)
all_ins {K} P cmp k (j ∷ js) p h = go (cmp k j) (all_ins P cmp k js p h.1)
  where
    go : (o : Ordering) → All P (ins cmp k js) → All P (put o k j js (ins cmp k js))
    go Ordering.lt l = (p, h)
    go Ordering.eq l = h
    go Ordering.gt l = (h.0, l)

all_union : {K : Type 0} (P : K → Type 0) (cmp : K → K → Ordering) (xs ys : List K) → All P xs → All P ys → All P (union cmp xs ys)
all_union P cmp [] ys h g = g
all_union P cmp (x ∷ xs) ys h g = all_ins P cmp x (union cmp xs ys) h.0 (all_union P cmp xs ys h.1 g)

all_keys : {R K : Type 0} (P : K → Type 0) (key : R → K) (rs : List R) → All (λ r. P (key r)) rs → All P (map key rs)
all_keys P key [] h = tt
all_keys P key (r ∷ rs) h = (h.0, all_keys P key rs h.1)

-- what all keys of two tables have, those of the two zipped have
pub all_zip : (S : Kind) (P : S.Key → Type 0) (h : S.Key → S.Val → S.Val → S.Val) (xs ys : List S.Row) → All (λ r. P (S.key r)) xs → All (λ r. P (S.key r)) ys → All (λ r. P (S.key r)) (zip S h xs ys)
unfolding zip
all_zip S P h xs ys p q =
    all_sift P (λ r. P (S.key r)) (λ k. S.row k (h k (get S xs k) (get S ys k))) (union S.cmp (map S.key xs) (map S.key ys))
    (λ k r t e. subst P (sym (S.key_row k (h k (get S xs k) (get S ys k)) r e)) t) (all_union P S.cmp (map S.key xs) (map S.key ys) (all_keys P S.key xs p) (all_keys P S.key ys q))

-- ---- how long two tables are, zipped

length_ins : {K : Type 0} (cmp : K → K → Ordering) (k : K) (ks : List K) → length (ins cmp k ks) ≤ suc (length ks)
length_ins cmp k [] = omega arith
length_ins cmp k (j ∷ js) = go (cmp k j) (length_ins cmp k js)
  where
    go : (o : Ordering) → length (ins cmp k js) ≤ suc (length js) → length (put o k j js (ins cmp k js)) ≤ suc (suc (length js))
    go Ordering.lt l = omega arith
    go Ordering.eq l = omega arith
    go Ordering.gt l = omega arith

length_union : {K : Type 0} (cmp : K → K → Ordering) (xs ys : List K) → length (union cmp xs ys) ≤ length xs + length ys
length_union cmp [] ys = omega arith
length_union cmp (x ∷ xs) ys = let i = length_ins cmp x (union cmp xs ys) in let l = length_union cmp xs ys in omega arith

pub length_zip : (S : Kind) (h : S.Key → S.Val → S.Val → S.Val) (xs ys : List S.Row) → length (zip S h xs ys) ≤ length xs + length ys
unfolding zip
length_zip S h xs ys =
    let f : S.Key → Option S.Row = λ k. S.row k (h k (get S xs k) (get S ys k)) in
    let c = length_collect f (union S.cmp (map S.key xs) (map S.key ys)) in
    let u = length_union S.cmp (map S.key xs) (map S.key ys) in
    let x = length-map xs S.key in let y = length-map ys S.key in
    omega arith
