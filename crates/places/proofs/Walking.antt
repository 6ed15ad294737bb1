-- One turn of the walk along one list of dots beside another, and along two.
use Prim.Native.Nat.{ℕ, suc, ◌≤◌, ◌<◌, ◌+◌, min}
use mathlib.Core.Path.{◌≡◌, refl, sym, ap, ◌∙◌, subst}
use mathlib.Core.Bool.{Bool, true, false, ◌&&◌}
use mathlib.Core.List.{List, [], ◌∷◌}
use native.Mathlib.Omega.{arith}
use native.Mathlib.Nat.{add-zero}
use native.Mathlib.Numerals.{add-one}
use lib.Dec.{eqb, leb, lt→ltb}
use lib.ListN.{length, get_or, drop, set, length-set}
use lib.Seq.{sets, set_out}
use borrow.Author.Tests.{eq-eqb, ne_eqb}
use Rattle.std.specs.List.{list_all}
use Rattle.tables.specs.Table.{pick, cons?, every}
use Rattle.tables.specs.Zip.{front, said, past, by_lt}
use Rattle.dots.specs.declared.Dot.{Dot}
use Rattle.dots.specs.Dot.{actor_of, dot, dot?, dots, no_dot}
use Rattle.dots.specs.ClockLaws.{proper_dot}
use Rattle.dots.specs.Covering.{cover_of}
use Rattle.places.specs.declared.Rule.{Rule}
use Rattle.places.specs.Turn.{rule_of}
use Rattle.places.specs.Walked.{walked, walked_step}
use Rattle.places.proofs.Steps.{rest}

pub every_is : {R : Type 0} (p : R → Bool) (rs : List R) → list_all p rs ≡ every p rs
every_is p [] = refl
every_is p (r ∷ rs) = ap (λ (b : Bool). p r && b) (every_is p rs)

-- ---- whether one covers another

pub cover_step : (v c : List Dot) (i : ℕ) → i < length v → let d = get_or v i no_dot in
    cover_of (drop i v) c ≡ (leb (said dots (actor_of d) c) d.counter && cover_of (drop (i + 1) v) (past dots (actor_of d) c))
unfolding cover_of
cover_step v c i h = rw (rest v i no_dot h)

pub cover_end : (c : List Dot) → eqb (length c) 0 ≡ cover_of [] c
unfolding cover_of
cover_end [] = refl
cover_end (x ∷ c) = ne_eqb (suc (length c)) 0 (λ z. omega arith)

-- ---- what a turn stores: its dot, where that has a counter

pub record Stored (ds : List Dot) (c : ℕ) (d : Dot) (ds' : List Dot) (c' : ℕ) : Type 0 where
  pub store : (rest : List Dot) → sets ds' c' rest ≡ sets ds c (cons? (dot? (actor_of d) d.counter) rest)
  pub count : (rest : List Dot) → c' + length rest ≡ c + length (cons? (dot? (actor_of d) d.counter) rest)
  pub grows : c' ≤ c + 1
  pub long : length ds' ≡ length ds

pub stored_none : (ds : List Dot) (c : ℕ) (d : Dot) → d.counter ≡ 0 → Stored ds c d ds c
stored_none ds c d e = record { store = λ rest. rw e; count = λ rest. rw e; grows = omega arith; long = refl }

pub stored_some : (ds : List Dot) (c : ℕ) (d : Dot) → (d.counter ≡ 0 → ⊥) → Stored ds c d (set ds c d) (c + 1)
stored_some ds c d e =
    let p = proper_dot d (lt→ltb 0 d.counter (omega arith)) in
    record { store = λ rest. rw (p, add-one); count = λ rest. rw p (omega arith); grows = omega arith; long = length-set ds c d }

pub stored_full : (ds : List Dot) (c : ℕ) (d : Dot) → (d.counter ≡ 0 → ⊥) → length ds ≤ c → Stored ds c d ds (c + 1)
stored_full ds c d e h = subst (λ (l : List Dot). Stored ds c d l (c + 1)) (set_out ds c d h) (stored_some ds c d e)

-- ---- the walk along two: what is left of both, stored from here on, is the whole

pub record Zipping (rule : Rule) (start whole xs ys ds : List Dot) (c : ℕ) : Type 0 where
  pub few : c + (length xs + length ys) ≤ 32
  pub long : length ds ≡ 16
  pub store : sets ds c (walked (rule_of rule) xs ys) ≡ sets start 0 whole
  pub count : c + length (walked (rule_of rule) xs ys) ≡ length whole

-- an actor's dot goes where it is the first
past_at : (k : ℕ) (d : Dot) (ds : List Dot) → actor_of d ≡ k → length (past dots k (d ∷ ds)) < length (d ∷ ds)
past_at k d ds e = rw (eq-eqb (actor_of d) k e) (omega arith)

past_le : (k : ℕ) (ds : List Dot) → length (past dots k ds) ≤ length ds
past_le k [] = omega arith
past_le k (d ∷ ds) = go (eqb (actor_of d) k)
  where
    go : (b : Bool) → length (pick b ds (d ∷ ds)) ≤ length (d ∷ ds)
    go true = omega arith
    go false = omega arith

-- the lower of the two first actors goes
pub less : (e low : ℕ) (xs ys : List Dot) → low < e → low ≡ min (front dots e xs) (front dots e ys)
    → length (past dots low xs) + length (past dots low ys) < length xs + length ys
less e low [] [] s m = absurd (omega arith)
less e low [] (y ∷ ys) s m = let a = past_at low y ys (omega arith) in omega arith
less e low (x ∷ xs) [] s m = let a = past_at low x xs (omega arith) in omega arith
less e low (x ∷ xs) (y ∷ ys) s m =
    let p = past_le low (x ∷ xs) in
    let q = past_le low (y ∷ ys) in
    by_lt (actor_of x) (actor_of y)
    (λ h. let a = past_at low x xs (omega arith) in omega arith)
    (λ h. let a = past_at low y ys (omega arith) in omega arith)

pub again : {rule : Rule} {start whole xs ys ds : List Dot} {c : ℕ} (z : Zipping rule start whole xs ys ds c) (e low v : ℕ) → low < e → low ≡ min (front dots e xs) (front dots e ys)
    → v ≡ rule_of rule (said dots low xs) (said dots low ys) → (ds' : List Dot) (c' : ℕ) → Stored ds c (dot low v) ds' c' → Zipping rule start whole (past dots low xs) (past dots low ys) ds' c'
again {rule} {start} {whole} {xs} {ys} {ds} {c} z e low v s m ev ds' c' st =
    let next : walked (rule_of rule) xs ys ≡ cons? (dot? low v) (walked (rule_of rule) (past dots low xs) (past dots low ys)) =
    rw ev (walked_step (rule_of rule) e low xs ys s m) in
    let l = less e low xs ys s m in
    let g = st.grows in
    let f = z.few in
    let sl = st.long in
    let zl = z.long in
    record {
      few = omega arith;
      long = omega arith;
      store = st.store _ ∙ ap (sets ds c) (sym next) ∙ z.store;
      count = st.count _ ∙ ap (λ (r : List Dot). c + length r) (sym next) ∙ z.count;
    }

pub zip_end : {rule : Rule} {start whole xs ys ds : List Dot} {c : ℕ} → Zipping rule start whole xs ys ds c → length xs + length ys ≤ 0 → (ds ≡ sets start 0 whole) × (c ≡ length whole)
zip_end {xs = []} {ys = []} z h = (z.store, sym (add-zero _) ∙ z.count)
zip_end {xs = x ∷ xs} z h = absurd (omega arith)
zip_end {xs = []} {ys = y ∷ ys} z h = absurd (omega arith)
