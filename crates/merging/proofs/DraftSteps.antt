-- The counters of a clock in bytes for some actors, the actors and counters of a clock, and the draft of what was written.
use Rattle.std.proofs.lemmas.List.{take-map}
use Prim.Native.Nat.{ℕ, zero, suc, ◌+◌, ◌*◌, ◌-◌, ◌≤◌, ◌<◌}
use mathlib.Core.Path.{◌≡◌, refl, sym, ap, ◌∙◌}
use mathlib.Core.List.{List, [], ◌∷◌, ◌++◌, map}
use native.Mathlib.Omega.{arith}
use lib.Dec.{ltb}
use lib.ListN.{length, take, get_or, length-map, length-take}
use lib.Seq.{sets}
use Rattle.dots.specs.declared.Dot.{Dot}
use Rattle.dots.specs.Dot.{actor_of, no_dot}
use Rattle.dots.specs.Clock.{Clock, count}
use Rattle.dots.specs.Covering.{count_here, count_other}
use Rattle.clocks.specs.declared.VClock.{VClock}
use Rattle.clocks.specs.VClock.{dots_of}
use Rattle.replica.specs.Replica.{Entry, Wait}
use Rattle.layout.specs.Fields.{u32_at, u64_at}
use Rattle.layout.specs.Lists.{list_at}
use Rattle.layout.specs.Clock.{dot_in, dot_at}
use Rattle.layout.specs.Rows.{encode_waits}
use Rattle.results.specs.declared.Draft.{Draft}
use Rattle.merging.specs.declared.waits.WaitsDone.{WaitsDone}
use Rattle.merging.specs.Rowing.{WroteRows}
use Rattle.merging.specs.Waiting.{WroteWaits}
use Rattle.merging.specs.Draft.{DraftOf}
use Rattle.merging.proofs.OrderSteps.{dots_past, dots_step}

module _ (s : List ℕ) (p n a i : ℕ) (whole : ℕ) (z : count (dots_past s p n i) a ≡ whole) (h : i < n) where
  turn : count (dot_at s (p + 12 * i) ∷ dots_past s p n (i + 1)) a ≡ whole
  turn = rw (dots_step s p n i h) at z

  pub count_found : u32_at s (p + 12 * i) ≡ a → (r : ℕ) → r ≡ u64_at s (p + 12 * i + 4) → r ≡ whole
  unfolding dot_in
  count_found e r f = f ∙ sym (count_here (dot_at s (p + 12 * i)) (dots_past s p n (i + 1)) a e) ∙ turn

  pub count_on : (u32_at s (p + 12 * i) ≡ a → ⊥) → count (dots_past s p n (i + 1)) a ≡ whole
  unfolding dot_in
  count_on e = sym (count_other (dot_at s (p + 12 * i)) (dots_past s p n (i + 1)) a (λ x. e (sym x))) ∙ turn

pub count_end : (s : List ℕ) (p n a i : ℕ) (whole : ℕ) → count (dots_past s p n i) a ≡ whole → n ≤ i → 0 ≡ whole
unfolding list_at
count_end s p n a i whole z h = let e : n - i ≡ 0 = omega arith in rw e at z

-- the counters of the first i actors, and one more
pub record CountsTo (c : Clock) (vs : List ℕ) (i : ℕ) (line : List ℕ) : Type 0 where
  pub is : (j : ℕ) → j < i → get_or line j 0 ≡ count c (get_or vs j 0)

map_snoc : (f : Dot → ℕ) (xs : List Dot) (d : Dot) → map f (xs ++ (d ∷ [])) ≡ map f xs ++ (f d ∷ [])
map_snoc f [] d = refl
map_snoc f (x ∷ xs) d = ap (λ (l : List ℕ). f x ∷ l) (map_snoc f xs d)

pub number_at : (f : Dot → ℕ) → f no_dot ≡ 0 → (ds : List Dot) (i : ℕ) → get_or (map f ds) i 0 ≡ f (get_or ds i no_dot)
number_at f z [] i = sym z
number_at f z (d ∷ ds) zero = refl
number_at f z (d ∷ ds) (suc i) = number_at f z ds i

module _ (v : VClock) (vs : List ℕ) (long : length vs ≡ 16) (few : v.len ≤ 16) (e : take v.len vs ≡ map (λ d. actor_of d) (dots_of v)) where
  pub clock_long : length (dots_of v) ≡ v.len
  clock_long =
      let x : length (take v.len vs) ≡ v.len = simp length-take (omega arith) in
      let y : length (map (λ d. actor_of d) (dots_of v)) ≡ length (dots_of v) = simp length-map in
      sym y ∙ sym (ap length e) ∙ x

-- the actors of a clock, which its dots give
pub clock_actors : (v : VClock) (all : List ℕ) → length v.dots ≡ 16 → v.len ≤ 16 → all ≡ map (λ d. actor_of d) v.dots → take v.len all ≡ map (λ d. actor_of d) (dots_of v)
clock_actors v all long few e = ap (take v.len) e ∙ take-map (λ d. actor_of d) v.len v.dots

-- the first actors of a table are few where their number is
pub few_first : (vs : List ℕ) (n : ℕ) → n ≤ 16 → length (take n vs) ≤ 16
few_first vs n few = simp length-take (omega arith)

-- the draft d of what was written
pub draft_of : (es : List Entry) (ws : List Wait) (start : ℕ) (out mid out' : List ℕ) (n at : ℕ) (w : WaitsDone) (d : Draft) → WroteRows out start es mid n at → WroteWaits mid at ws out' w
    → (d.entries ≡ n) × (d.waits ≡ w.n) × (ltb 32 d.most ≡ ltb 32 w.most) × (d.middle ≡ at) × (d.end ≡ w.at) → DraftOf es ws start d out out'
draft_of es ws start out mid out' n at w d r k f = record {
  entries = f.0 ∙ r.count;
  waits = f.1 ∙ k.count;
  most = f.2 ∙ k.most;
  middle = f.3 ∙ r.ends;
  end = f.4 ∙ k.ends ∙ ap (λ (i : ℕ). i + length (encode_waits ws)) (sym f.3);
  bytes = rw f.3 (k.bytes ∙ ap (λ (l : List ℕ). sets l at (encode_waits ws)) r.bytes);
}
