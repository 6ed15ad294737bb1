-- What is proved of specs/Refusal.antt.
use Prim.Native.Nat.{ℕ, ◌≤◌, ◌<◌, compare}
use Rattle.std.specs.Prelude.{◌≡◌, refl, ◌↔◌, Bool, true, false, List, [], ◌∷◌, ◌++◌, map, eqb}
use Rattle.std.proofs.Common.{sym, ap, ◌∙◌, arith, ne_eqb}
use Rattle.std.proofs.lemmas.Bool.{false≢true}
use Rattle.tables.specs.Order.{nat_lt}
use Rattle.tables.specs.Table.{pick, All, all_map, Asc, Below}
use Rattle.tables.specs.Refusal.{Refusal, first_of, Numbered, NoneApplies, First}

first_from : (rs : List Refusal) (k : ℕ) → 0 < k → first_of rs ≡ k → First rs k
unfolding first_of
first_from [] k p e = absurd (omega arith)
first_from (r ∷ rs) k p e = go r.applies refl e (first_from rs k p)
  where
    go : (b : Bool) → r.applies ≡ b → pick b r.number (first_of rs) ≡ k → (first_of rs ≡ k → First rs k) → First (r ∷ rs) k
    go true u e f = record { earlier = []; this = r; later = rs; listed = refl; none_earlier = tt; this_applies = u; this_number = e }
    go false u e f = let t = f e in record {
      earlier = r ∷ t.earlier;
      this = t.this;
      later = t.later;
      listed = ap (λ (l : List Refusal). r ∷ l) t.listed;
      none_earlier = (u, t.none_earlier);
      this_applies = t.this_applies;
      this_number = t.this_number;
    }

first_here : (earlier : List Refusal) (r : Refusal) (later : List Refusal) → NoneApplies earlier → r.applies ≡ true → first_of (earlier ++ (r ∷ later)) ≡ r.number
unfolding first_of
first_here [] r later h e = rw e
first_here (q ∷ earlier) r later h e = rw h.0 (first_here earlier r later h.1 e)

-- a number is given exactly if it is that of the first refusal that applies
pub first_right : (rs : List Refusal) (k : ℕ) → 0 < k → (first_of rs ≡ k) ↔ First rs k
first_right rs k p = (first_from rs k p, λ f. ap first_of f.listed ∙ first_here f.earlier f.this f.later f.none_earlier f.this_applies ∙ f.this_number)

done_from : (rs : List Refusal) → Numbered rs → first_of rs ≡ 0 → NoneApplies rs
unfolding first_of
done_from [] h e = tt
done_from (r ∷ rs) h e = go r.applies refl e (done_from rs h.1)
  where
    go : (b : Bool) → r.applies ≡ b → pick b r.number (first_of rs) ≡ 0 → (first_of rs ≡ 0 → NoneApplies rs) → NoneApplies (r ∷ rs)
    go true u e f = let p = h.0 in absurd (omega arith)
    go false u e f = (u, f e)

done_to : (rs : List Refusal) → NoneApplies rs → first_of rs ≡ 0
unfolding first_of
done_to [] a = refl
done_to (r ∷ rs) a = rw a.0 (done_to rs a.1)

-- "done" is said exactly if none applies
pub done_right : (rs : List Refusal) → Numbered rs → (first_of rs ≡ 0) ↔ NoneApplies rs
done_right rs h = (done_from rs h, done_to rs)

-- "The lowest number that applies is given", where numbers are listed ascending
below_number : (k : ℕ) (rs : List Refusal) → Below compare k (map (λ r. r.number) rs) → All (λ r. k < r.number) rs
below_number k [] h = tt
below_number k (r ∷ rs) h = (nat_lt k r.number h.0, below_number k rs h.1)

pub first_lowest : (rs : List Refusal) → Asc compare (map (λ r. r.number) rs) → All (λ r. r.applies ≡ true → first_of rs ≤ r.number) rs
unfolding first_of
first_lowest [] h = tt
first_lowest (r ∷ rs) h = go r.applies refl (below_number r.number rs h.0) (first_lowest rs h.1)
  where
    go : (b : Bool) → r.applies ≡ b → All (λ q. r.number < q.number) rs → All (λ q. q.applies ≡ true → first_of rs ≤ q.number) rs
        → (r.applies ≡ true → pick b r.number (first_of rs) ≤ r.number) × All (λ q. q.applies ≡ true → pick b r.number (first_of rs) ≤ q.number) rs
    go true u l f = (λ e. omega arith, all_map (λ q. r.number < q.number) (λ q. q.applies ≡ true → r.number ≤ q.number) rs (λ q k e. omega arith) l)
    go false u l f = (λ e. absurd (false≢true (sym u ∙ e)), f)

-- two lists, one after the other
pub first_append : (xs ys : List Refusal) → Numbered xs → first_of (xs ++ ys) ≡ pick (eqb (first_of xs) 0) (first_of ys) (first_of xs)
unfolding first_of
first_append [] ys h = refl
first_append (x ∷ xs) ys h = go x.applies (first_append xs ys h.1)
  where
    go : (b : Bool) → first_of (xs ++ ys) ≡ pick (eqb (first_of xs) 0) (first_of ys) (first_of xs)
        → pick b x.number (first_of (xs ++ ys)) ≡ pick (eqb (pick b x.number (first_of xs)) 0) (first_of ys) (pick b x.number (first_of xs))
    go true e = rw (ne_eqb x.number 0 (λ z. let p = h.0 in omega arith))
    go false e = e
