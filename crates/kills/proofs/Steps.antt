-- One turn of each loop, in the code's terms.
use Prim.Native.Nat.{ℕ, zero, suc, ◌+◌, ◌-◌, ◌*◌, ◌≤◌, ◌<◌, max, min}
use mathlib.Core.Path.{◌≡◌, refl, sym, ap, ap₂, ◌∙◌}
use mathlib.Core.Bool.{Bool, true, false}
use mathlib.Core.List.{List, [], ◌∷◌, ◌++◌, map}
use native.Mathlib.Omega.{arith}
use native.Mathlib.Nat.{add-zero, zero-add, add_assoc, zero-max}
use native.Mathlib.Numerals.{add-one}
use borrow.Rule.Slice.PartMut.{put_mid}
use lib.Dec.{eqb}
use lib.ListN.{length, take, drop, set, get_or, replicate, length-take, length-drop, drop_of_length-le, get_or-eq_default, get_or-append}
use lib.Seq.{get_or-set_other, sets, sets-eq, length-sets, take_all, take_at, take-suc, take-suc-set, drop-cons}
use borrow.Author.Tests.{lt-ltb, le-ltb, eq-eqb, ne_eqb}
use Rattle.std.proofs.lemmas.List.{map-append, get_or-append_right, get_or-drop, get_or-take}
use Rattle.std.proofs.lemmas.Slice.{put_mid-paste}
use Rattle.tables.specs.Stores.{sets_append}
use Rattle.tables.specs.Table.{pick}
use Rattle.tables.specs.Zip.{Rows, said, by_lt}
use Rattle.dots.specs.declared.Dot.{Dot}
use Rattle.dots.specs.Dot.{dots, dot, actor_of}
use Rattle.dots.specs.Clock.{Clock}
use Rattle.replica.specs.Replica.{member_rows}
use Rattle.layout.specs.Fields.{u32_at, u64_at}
use Rattle.layout.specs.Clock.{dot_in, dot_at, dots_at, clock_end, clock_end_in}
use Rattle.layout.specs.Rows.{members_at}
use Rattle.fields.specs.Read.{clock_read}
use Rattle.fields.proofs.Steps.{list_step, list_end}
use Rattle.kills.specs.Lines.{reach, along, line_of, raise_from, raised, top_from, spread, kill_lines, wait_read}
use Rattle.kills.specs.Posts.{Padded, numbers_by, lines_by, UpTo, Founded}
use Rattle.kills.specs.Laws.{length_along, raise_grows, length_raised, sets_cons, spread_front}

-- ---- a padded copy

zeros : (n j : ℕ) → ◌≡◌ {A = ℕ} (get_or (replicate n 0) j 0) 0
zeros zero j = refl
zeros (suc n) zero = refl
zeros (suc n) (suc j) = zeros n j

pub padded_part : (t mid z : List ℕ) (from n : ℕ) → n ≡ min (length t - from) 192 → mid ≡ take (from + n - from) (drop from t) → z ≡ replicate 192 0 → Padded t from (mid ++ drop n z)
padded_part t mid z from n e m r =
    let y : from + n - from ≡ n = omega arith in
    let l : length mid ≡ n = rw (m, y) (simp (length-take, length-drop) (omega arith)) in
    record {
      same = λ j h. by_lt j n
          (λ k. get_or-append mid (drop n z) 0 j (omega arith) ∙ rw (m, y) (get_or-take n (drop from t) j 0 k ∙ get_or-drop from t j 0))
          (λ k. get_or-append_right mid (drop n z) n j 0 l k ∙ get_or-drop n z (j - n) 0 ∙ rw r (zeros 192 (n + (j - n))) ∙ sym (get_or-eq_default t 0 (omega arith)));
    }

pub padded_none : (t z : List ℕ) (from : ℕ) → length t ≤ from → z ≡ replicate 192 0 → Padded t from z
padded_none t z from h r = record { same = λ j k. rw r (zeros 192 j) ∙ sym (get_or-eq_default t 0 (omega arith)) }

module _ (t : List ℕ) (from : ℕ) (copy : List ℕ) (same : (j : ℕ) → j < 192 → get_or copy j 0 ≡ get_or t (from + j) 0) where
  padded_u32 : (k : ℕ) → k + 4 ≤ 192 → u32_at copy k ≡ u32_at t (from + k)
  unfolding u32_at
  padded_u32 k h = rw (same k (omega arith), same (k + 1) (omega arith), same (k + 2) (omega arith), same (k + 3) (omega arith), ← (add_assoc from k 1), ← (add_assoc from k 2), ← (add_assoc from k 3))

  padded_dot : (k : ℕ) → k + 12 ≤ 192 → dot_at copy k ≡ dot_at t (from + k)
  unfolding dot_in u64_at
  padded_dot k h =
      let e : from + (k + 4) ≡ from + k + 4 = omega arith in
      let f : from + (k + 4 + 4) ≡ from + k + 4 + 4 = omega arith in
      let a = padded_u32 k (omega arith) in
      let b = rw e at (padded_u32 (k + 4) (omega arith)) in
      let c = rw f at (padded_u32 (k + 4 + 4) (omega arith)) in
      λ i. record { actor = record { 0 = a i }; counter = b i + c i * 4294967296 }

  padded_from : (left k : ℕ) → k + 12 * left ≤ 192 → dots_at copy k left ≡ dots_at t (from + k) left
  padded_from zero k h = list_end dot_at (λ s p. p + 12) copy k 0 (omega arith) ∙ sym (list_end dot_at (λ s p. p + 12) t (from + k) 0 (omega arith))
  padded_from (suc left) k h =
      let e : from + (k + 12) ≡ from + k + 12 = omega arith in
      let r = rw e at (padded_from left (k + 12) (omega arith)) in
      list_step dot_at (λ s p. p + 12) copy k (suc left) left (omega arith) ∙ ap₂ ◌∷◌ (padded_dot k (omega arith)) r
      ∙ sym (list_step dot_at (λ s p. p + 12) t (from + k) (suc left) left (omega arith))

pub padded_dots : (t : List ℕ) (from : ℕ) (copy : List ℕ) (left : ℕ) → left ≤ 16 → Padded t from copy → dots_at copy 0 left ≡ dots_at t from left
padded_dots t from copy left h p = padded_from t from copy p.same left 0 (omega arith) ∙ ap (λ (q : ℕ). dots_at t q left) (add-zero from)

-- ---- dots that stand in bytes one after the other

module _ (t : List ℕ) (k : ℕ) where
  pub skip_dot : (p q left j : ℕ) → left ≡ j + 1 → q ≡ p + 12 → u32_at t p < k → reach dots k (dots_at t p left) ≡ reach dots k (dots_at t q j)
  unfolding dot_in
  skip_dot p q left j e f h = rw (list_step dot_at (λ s p. p + 12) t p left j e, lt-ltb (u32_at t p) k h, f)

  pub stop_dot : (p left j : ℕ) → left ≡ j + 1 → k ≤ u32_at t p → reach dots k (dots_at t p left) ≡ dots_at t p left
  unfolding dot_in
  stop_dot p left j e h = rw (list_step dot_at (λ s p. p + 12) t p left j e, le-ltb (u32_at t p) k h)

  pub end_dot : (p left : ℕ) → left ≤ 0 → reach dots k (dots_at t p left) ≡ dots_at t p left
  end_dot p left h = rw (list_end dot_at (λ s p. p + 12) t p left h)

  pub counted_none : (p left : ℕ) → left ≤ 0 → said dots k (dots_at t p left) ≡ 0
  counted_none p left h = rw (list_end dot_at (λ s p. p + 12) t p left h)

  said_first : (p left : ℕ) → 0 < left → said dots k (dots_at t p left) ≡ pick (eqb (u32_at t p) k) (u64_at t (p + 4)) 0
  unfolding dot_in
  said_first p left h = rw (list_step dot_at (λ s p. p + 12) t p left (left - 1) (omega arith))

  pub counted_first : (p left : ℕ) → 0 < left → u32_at t p ≡ k → u64_at t (p + 4) ≡ said dots k (dots_at t p left)
  counted_first p left h e = sym (said_first p left h ∙ rw (eq-eqb (u32_at t p) k e))

  pub counted_other : (p left : ℕ) → 0 < left → (u32_at t p ≡ k → ⊥) → ◌≡◌ {A = ℕ} 0 (said dots k (dots_at t p left))
  counted_other p left h e = sym (said_first p left h ∙ rw (ne_eqb (u32_at t p) k e))

pub read_at : (t : List ℕ) (at q n : ℕ) → q ≡ at → n ≡ min (u32_at t q) 16 → dots_at t (q + 4) n ≡ clock_read t at
unfolding clock_read
read_at t at q n e f = rw (f, e)

pub take_most : {A : Type 0} (l : List A) (n m k : ℕ) → length l ≡ m → k ≡ min n m → take k l ≡ take n l
take_most l n m k h e = by_lt n m (λ q. let f : k ≡ n = omega arith in rw f) (λ q. take_all k l (omega arith) ∙ sym (take_all n l (omega arith)))

-- ---- the table

set_same : (t : List ℕ) (p x : ℕ) → (p < length t → x ≤ get_or t p 0) → set t p (max (get_or t p 0) x) ≡ t
set_same [] p x h = refl
set_same (y ∷ t) zero x h = let k = h (omega arith) in let e : max y x ≡ y = omega arith in ap (λ (z : ℕ). z ∷ t) e
set_same (y ∷ t) (suc p) x h = ap (λ (l : List ℕ). y ∷ l) (set_same t p x (λ l. h (omega arith)))

pub raise_turn : (out line : List ℕ) (p q j : ℕ) → j < length line → q ≡ p + 1
    → raise_from (set out p (max (get_or out p 0) (get_or line j 0))) q (drop (j + 1) line) ≡ raise_from out p (drop j line)
unfolding raise_from
raise_turn out line p q j h e = rw (drop-cons line j 0 h, e, add-one p, add-one j)

pub raise_end : (out line : List ℕ) (p j : ℕ) → length line ≤ j → raise_from out p (drop j line) ≡ out
unfolding raise_from
raise_end out line p j h = let e = drop_of_length-le line {i = j} h in rw e

-- ---- one walk along keys and rows

module _ (N : Rows) (ks : List ℕ) (i : ℕ) (r : N.Row) (rs : List N.Row) where
  along_turn : i < length ks → get_or ks i 0 ≤ N.key r → along N (drop i ks) (r ∷ rs) ≡ said N (get_or ks i 0) (r ∷ rs) ∷ along N (drop (i + 1) ks) (r ∷ rs)
  along_turn h q = rw (drop-cons ks i 0 h, add-one i, le-ltb (N.key r) (get_or ks i 0) q)

  pub along_stop : i < length ks → N.key r < get_or ks i 0 → along N (drop i ks) rs ≡ along N (drop i ks) (r ∷ rs)
  along_stop h q = rw (drop-cons ks i 0 h, lt-ltb (N.key r) (get_or ks i 0) q)

-- nothing is raised past the last key
module _ (ks line out : List ℕ) (i : ℕ) (h : length ks ≤ i) where
  pub number_end : (d : Dot) (ds : List Dot) → numbers_by ks line (length ks) ds ≡ numbers_by ks line i (d ∷ ds)
  unfolding raise_from
  number_end d ds = let e : drop i ks ≡ [] = drop_of_length-le ks {i = i} h in let f : drop (length ks) ks ≡ [] = drop_of_length-le ks {i = length ks} (omega arith) in rw (e, f)

  pub same_end : (m : ℕ) (rs : List ℕ) → lines_by ks line out (length ks) rs ≡ lines_by ks line out i (m ∷ rs)
  unfolding raised
  same_end m rs = let e : drop i ks ≡ [] = drop_of_length-le ks {i = i} h in let f : drop (length ks) ks ≡ [] = drop_of_length-le ks {i = length ks} (omega arith) in rw (e, f)

-- ---- the lines of one member

flag : (b : Bool) → pick b true false ≡ b
flag true = refl
flag false = refl

pub same_turn : (ms line out out' rs : List ℕ) (i m : ℕ) → i < length ms → get_or ms i 0 ≤ m → out' ≡ pick (eqb m (get_or ms i 0)) (raise_from out (16 * i) line) out
    → lines_by ms line out' (i + 1) (m ∷ rs) ≡ lines_by ms line out i (m ∷ rs)
unfolding raised
same_turn ms line out out' rs i m h q w = rw (along_turn member_rows ms i m rs h q, flag (eqb m (get_or ms i 0)), w, add-one)

pub line_met : (out line : List ℕ) (i m k : ℕ) → m ≡ k → raise_from out (16 * i) line ≡ pick (eqb m k) (raise_from out (16 * i) line) out
line_met out line i m k e = rw (eq-eqb m k e)

pub line_kept : (out line : List ℕ) (i m k : ℕ) → (m ≡ k → ⊥) → out ≡ pick (eqb m k) (raise_from out (16 * i) line) out
line_kept out line i m k e = rw (ne_eqb m k e)

-- ---- the lines of all members that stand from a place on

pub named_turn : (t ms out out' line : List ℕ) (i r p q left j m : ℕ) → left ≡ j + 1 → q ≡ p + 4 → m ≡ u32_at t p → UpTo member_rows (lines_by ms line) m i out r out'
    → lines_by ms line out' r (members_at t q j) ≡ lines_by ms line out i (members_at t p left)
named_turn t ms out out' line i r p q left j m h k e u =
    let f : members_at t p left ≡ m ∷ members_at t q j = rw (e, k) (list_step u32_at (λ s p. p + 4) t p left j h) in
    rw f (u.same (members_at t q j))

none_raised : (out line : List ℕ) (i : ℕ) (ks : List ℕ) → raised out i (along member_rows ks []) line ≡ out
unfolding raised
none_raised out line i [] = refl
none_raised out line i (k ∷ ks) = none_raised out line (suc i) ks

pub named_end : (t ms out line : List ℕ) (i p left : ℕ) → left ≤ 0 → lines_by ms line out i (members_at t p left) ≡ out
named_end t ms out line i p left h = rw (list_end u32_at (λ s p. p + 4) t p left h) (none_raised out line i (drop i ms))

-- ---- the numbers of one actor

pub number_turn : (actors line line' : List ℕ) (ds : List Dot) (i a x : ℕ) → i < length actors → get_or actors i 0 ≤ a
    → line' ≡ set line i (max (get_or line i 0) (pick (eqb a (get_or actors i 0)) x 0)) → numbers_by actors line' (i + 1) (dot a x ∷ ds) ≡ numbers_by actors line i (dot a x ∷ ds)
unfolding raise_from
number_turn actors line line' ds i a x h q w = rw (along_turn dots actors i (dot a x) ds h q, w, add-one)

pub number_met : (line : List ℕ) (i a b x y : ℕ) → a ≡ b → y ≡ max (get_or line i 0) x → set line i y ≡ set line i (max (get_or line i 0) (pick (eqb a b) x 0))
number_met line i a b x y e f = rw (eq-eqb a b e, f)

pub number_kept : (line : List ℕ) (i a b x : ℕ) → (a ≡ b → ⊥) → line ≡ set line i (max (get_or line i 0) (pick (eqb a b) x 0))
number_kept line i a b x e = rw (ne_eqb a b e) (sym (set_same line i 0 (λ h. omega arith)))

-- ---- the numbers of all actors of the dots that stand from a place on

pub dots_turn : (t actors line line' : List ℕ) (i r p q left j a x : ℕ) → left ≡ j + 1 → q ≡ p + 12 → a ≡ u32_at t p → x ≡ u64_at t (p + 4) → UpTo dots (numbers_by actors) (dot a x) i line r line'
    → numbers_by actors line' r (dots_at t q j) ≡ numbers_by actors line i (dots_at t p left)
unfolding dot_in
dots_turn t actors line line' i r p q left j a x h k e f u =
    let g : dots_at t p left ≡ dot a x ∷ dots_at t q j = rw (e, f, k) (list_step dot_at (λ s p. p + 12) t p left j h) in
    rw g (u.same (dots_at t q j))

none_counted : (line : List ℕ) (i : ℕ) (ks : List ℕ) → raise_from line i (along dots ks []) ≡ line
unfolding raise_from
none_counted line i [] = refl
none_counted line i (k ∷ ks) = ap (λ (l : List ℕ). raise_from l (suc i) (along dots ks [])) (set_same line i 0 (λ h. omega arith)) ∙ none_counted line (suc i) ks

pub dots_end : (t actors line : List ℕ) (i p left : ℕ) → left ≤ 0 → numbers_by actors line i (dots_at t p left) ≡ line
dots_end t actors line i p left h = rw (list_end dot_at (λ s p. p + 12) t p left h) (none_counted line i (drop i actors))

-- ---- the actors of a clock, and the members at places

pub each_turn : {A : Type 0} (f : A → ℕ) (none : A) (l : List A) (out : List ℕ) (i x : ℕ) → i < length out → i < length l → x ≡ f (get_or l i none)
    → take i out ≡ map f (take i l) → take (i + 1) (set out i x) ≡ map f (take (i + 1) l)
each_turn f none l out i x h k e w = rw (add-one i, take-suc-set out i x h, take-suc l i none k, map-append f (take i l) (get_or l i none ∷ []), w, e)

pub taken : (z xs : List ℕ) (n : ℕ) → length xs ≡ n → n ≤ length z → take n (sets z 0 xs) ≡ xs
taken z xs n e h = rw (sets-eq xs z 0 (omega arith)) (take_at xs (drop (0 + length xs) z) n e)

-- ---- the floor

-- a part written over is a run of stores
part_set : (out xs : List ℕ) (at k : ℕ) → length xs ≡ k → at + k ≤ length out → put_mid at k out xs ≡ sets out at xs
part_set out xs at k e h = put_mid-paste at k out xs xs (length xs) refl e refl ∙ rw (take_all (length xs) xs (omega arith)) (sym (sets-eq xs out at (omega arith)))

pub spread_turn : (out out' floor : List ℕ) (n i : ℕ) → i < n → length floor ≡ 16 → 16 * n ≤ length out → out' ≡ put_mid (16 * i) (16 * i + 16 - 16 * i) out floor → sets out' (16 * (i + 1)) (spread (n - (i + 1)) floor) ≡ sets out (16 * i) (spread (n - i) floor)
unfolding spread
spread_turn out out' floor n i h l k w =
    let z : 16 * i + 16 - 16 * i ≡ 16 = omega arith in
    let e : n - i ≡ suc (n - (i + 1)) = omega arith in
    let f : 16 * (i + 1) ≡ 16 * i + length floor = omega arith in
    rw (e, f, w, z, part_set out floor (16 * i) 16 l (omega arith)) (sym (sets_append out (16 * i) floor (spread (n - (i + 1)) floor)))

pub spread_end : (out floor : List ℕ) (p n i : ℕ) → n ≤ i → sets out p (spread (n - i) floor) ≡ out
unfolding spread
spread_end out floor p n i h = let e : n - i ≡ 0 = omega arith in rw e

-- a table that is nowhere below a line is not raised by it

raise_none : (t : List ℕ) (p : ℕ) (xs : List ℕ) → ((j : ℕ) → j < length xs → p + j < length t → get_or xs j 0 ≤ get_or t (p + j) 0) → raise_from t p xs ≡ t
unfolding raise_from
raise_none t p [] h = refl
raise_none t p (x ∷ xs) h =
    let e = set_same t p x (rw add-zero at (h 0 (omega arith))) in
    rw e (raise_none t (suc p) xs (λ j l k. let f : suc p + j ≡ p + suc j = omega arith in rw f (h (suc j) (omega arith) (omega arith))))

raised_none : (t : List ℕ) (i : ℕ) (bs : List Bool) (xs : List ℕ) → length xs ≡ 16 → ((m j : ℕ) → m < length bs → j < 16 → 16 * (i + m) + j < length t → get_or xs j 0 ≤ get_or t (16 * (i + m) + j) 0) → raised t i bs xs ≡ t
unfolding raised
raised_none t i [] xs l h = refl
raised_none t i (b ∷ bs) xs l h =
    rw (first b) (raised_none t (suc i) bs xs l (λ m j u v k. let f : suc i + m ≡ i + suc m = omega arith in rw f (h (suc m) j (omega arith) v (omega arith))))
  where
    first : (b : Bool) → pick b (raise_from t (16 * i) xs) t ≡ t
    first true = raise_none t (16 * i) xs (λ j u. rw add-zero at (h 0 j (omega arith) (omega arith)))
    first false = refl

pub none_above : (t floor : List ℕ) (n : ℕ) (bs : List Bool) (xs : List ℕ) → length xs ≡ 16 → length bs ≤ n → Founded floor n t → ((j : ℕ) → j < 16 → get_or xs j 0 ≤ get_or floor j 0) → t ≡ raised t 0 bs xs
none_above t floor n bs xs l k f h = sym (raised_none t 0 bs xs l (λ m j u v q. let e = zero-add m in rw e (let a = h j v in let b = f.least m j (omega arith) v (omega arith) in omega arith)))

-- a table that is nowhere below the floor stays so

raised_grows : (t : List ℕ) (i : ℕ) (bs : List Bool) (xs : List ℕ) (q : ℕ) → get_or t q 0 ≤ get_or (raised t i bs xs) q 0
unfolding raised
raised_grows t i [] xs q = omega arith
raised_grows t i (b ∷ bs) xs q = let a = first b in let r = raised_grows (pick b (raise_from t (16 * i) xs) t) (suc i) bs xs q in omega arith
  where
    first : (b : Bool) → get_or t q 0 ≤ get_or (pick b (raise_from t (16 * i) xs) t) q 0
    first true = raise_grows t (16 * i) xs q
    first false = omega arith

pub founded_raised : (t t' floor : List ℕ) (n : ℕ) (bs : List Bool) (xs : List ℕ) → length xs ≡ 16 → t' ≡ raised t 0 bs xs → Founded floor n t → Founded floor n t'
founded_raised t t' floor n bs xs w e f =
    let s : length t' ≡ length t = ap length e ∙ length_raised xs w t 0 bs in
    record { least = λ i j h k l. rw e (let a = raised_grows t 0 bs xs (16 * i + j) in let b = f.least i j h k (omega arith) in omega arith) }

pub founded_spread : (t t' floor : List ℕ) (n : ℕ) → length floor ≡ 16 → t' ≡ sets t 0 (spread n floor) → Founded floor n t'
founded_spread t t' floor n l e =
    let s : length t' ≡ length t = ap length e ∙ length-sets t 0 (spread n floor) in
    record { least = λ i j h u k. rw e (let a = spread_front t floor n i j l h u (omega arith) in omega arith) }

-- ---- a line raised by the counters of a clock is raised by the clock's line, and zeros so raised are that line

raise_padded : (t : List ℕ) (p m : ℕ) (xs : List ℕ) → length xs ≤ m → raise_from t p (sets (replicate m 0) 0 xs) ≡ raise_from t p xs
unfolding raise_from
raise_padded t p m [] h = raise_none t p (replicate m 0) (λ j l k. rw zeros (omega arith))
raise_padded t p zero (x ∷ xs) h = absurd (omega arith)
raise_padded t p (suc m) (x ∷ xs) h = rw (sets_cons x (replicate m 0) 0 xs) (raise_padded (set t p (max (get_or t p 0) x)) (suc p) m xs (omega arith))

raise_zeros : (t : List ℕ) (p : ℕ) (xs : List ℕ) → ((q : ℕ) → p ≤ q → get_or t q 0 ≡ 0) → raise_from t p xs ≡ sets t p xs
unfolding raise_from
raise_zeros t p [] z = refl
raise_zeros t p (x ∷ xs) z = rw (z p (omega arith), zero-max) (raise_zeros (set t p x) (suc p) xs (λ q h. get_or-set_other t p q x 0 (λ e. omega arith) ∙ z q (omega arith)))

module _ (v c : Clock) (actors : List ℕ) (e : actors ≡ map (λ d. actor_of d) v) where
  raise_line : (t : List ℕ) → length actors ≤ 16 → raise_from t 0 (along dots actors c) ≡ raise_from t 0 (line_of v c)
  unfolding line_of
  raise_line t few = rw (← e) (sym (raise_padded t 0 16 (along dots actors c) (rw (length_along dots actors c) few)))

  pub line_of_zeros : (line : List ℕ) → line ≡ raise_from (replicate 16 0) 0 (along dots actors c) → line ≡ line_of v c
  unfolding line_of
  line_of_zeros line w = w ∙ rw (← e) (raise_zeros (replicate 16 0) 0 (along dots actors c) (λ q h. zeros 16 q))

-- ---- all waiting removes

pub wait_turn : (v : Clock) (ms t waits out out' line : List ℕ) (i q : ℕ) → i < length waits → q ≡ get_or waits i 0 → line ≡ line_of v (clock_read t q)
    → out' ≡ raised out 0 (along member_rows ms (wait_read t q).members) line
    → kill_lines v ms (map (λ p. wait_read t p) (drop (i + 1) waits)) out' ≡ kill_lines v ms (map (λ p. wait_read t p) (drop i waits)) out
unfolding kill_lines wait_read
wait_turn v ms t waits out out' line i q h e f w = rw (drop-cons waits i 0 h, add-one i, ← e, w, f)

pub wait_end_is : (v : Clock) (ms t waits out : List ℕ) (i : ℕ) → length waits ≤ i → kill_lines v ms (map (λ p. wait_read t p) (drop i waits)) out ≡ out
unfolding kill_lines
wait_end_is v ms t waits out i h = let e : drop i waits ≡ [] = drop_of_length-le waits {i = i} h in rw e

module _ (v : Clock) (t waits top : List ℕ) (i : ℕ) where
  pub top_turn : (actors top' : List ℕ) → i < length waits → length actors ≤ 16 → actors ≡ map (λ d. actor_of d) v → top' ≡ raise_from top 0 (along dots actors (clock_read t (get_or waits i 0)))
      → top_from v (map (λ p. wait_read t p) (drop (i + 1) waits)) top' ≡ top_from v (map (λ p. wait_read t p) (drop i waits)) top
  unfolding top_from wait_read
  top_turn actors top' h few e w = rw (drop-cons waits i 0 h, add-one i, w, raise_line v (clock_read t (get_or waits i 0)) actors e top few)

  pub top_end : length waits ≤ i → top_from v (map (λ p. wait_read t p) (drop i waits)) top ≡ top
  unfolding top_from
  top_end h = let e : drop i waits ≡ [] = drop_of_length-le waits {i = i} h in rw e

-- where the members of the waiting remove at a place stand
pub members_are : (t : List ℕ) (at q n : ℕ) → q ≡ at → n ≡ u32_at t q → members_at t (q + 4 + 12 * n + 4) (min (u32_at t (q + 4 + 12 * n)) 64) ≡ (wait_read t at).members
unfolding wait_read clock_end_in
members_are t at q n e f = let g : q + 4 + 12 * n ≡ clock_end t at = rw (f, e) (omega arith) in rw g
