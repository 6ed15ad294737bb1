-- What is proved of specs/Report.antt.
use Prim.Native.Nat.{ℕ, zero, suc, ◌<◌, max}
use Rattle.std.specs.Prelude.{◌≡◌, ◌↔◌, ◌⊎◌}
use Rattle.std.proofs.Common.{sym, ap, ◌∙◌, inl, inr, arith, not-suc-le-zero, eq-eqb}
use Rattle.std.proofs.lemmas.Bool.{false≢true}
use Rattle.std.proofs.Math.Option.{none}
use mathlib.Core.List.{[]}
use Rattle.std.proofs.Math.Dec.{T, eqb→eq}
use Rattle.tables.specs.Table.{pick_both, ext, is_some}
use Rattle.dots.specs.Clock.{Clock, count, covers}
use Rattle.replica.specs.Replica.{Replica, waits, entry, wait_at, holds}
use Rattle.replica.specs.Rules.{unite}
use Rattle.replica.specs.WellFormed.{Fine}
use Rattle.replica.specs.Merged.{Merged}
use Rattle.replica.specs.Membership.{Clear, Brings}
use Rattle.replica.proofs.MembershipFacts.{live_from, live_to}
use Rattle.replica.specs.Report.{Payload, payload}

module _ (A B : Payload) where
  -- "M = E ∩ B.E"
  abbrev pub M : ℕ → ℕ → ℕ → Type 0
  M e c i = A.E e c i × B.E e c i

  -- "M' = {(e, c, i) ∈ E \ B.E | c > B.v[i]}", "M'' = {(e, c, i) ∈ B.E \ E | c > v[i]}"
  abbrev pub M' : ℕ → ℕ → ℕ → Type 0
  M' e c i = A.E e c i × (B.E e c i → ⊥) × (B.v i < c)

  abbrev pub M'' : ℕ → ℕ → ℕ → Type 0
  M'' e c i = B.E e c i × (A.E e c i → ⊥) × (A.v i < c)

  -- "U = M ∪ M' ∪ M''"
  abbrev pub U : ℕ → ℕ → ℕ → Type 0
  U e c i = M e c i ⊎ (M' e c i ⊎ M'' e c i)

  -- "O = {(e, c, i) ∈ U | ∃ (e, c', i) ∈ U : c < c'}"
  abbrev pub O : ℕ → ℕ → ℕ → Type 0
  O e c i = U e c i × ((c' : ℕ) × U e c' i × (c < c'))

  -- "E := U \ O; v := [max(v[0], B.v[0]), .., max(v[n], B.v[n])]"
  abbrev pub merged_payload : Payload
  merged_payload = record { E = λ e c i. U e c i × (O e c i → ⊥); v = λ i. max (A.v i) (B.v i) }

-- ---- the merge is the report's

no_waits : (A : Replica) → A.waiting ≡ [] → (c : Clock) → wait_at A c ≡ none
no_waits A w c = rw w

all_clear : (A : Replica) → A.waiting ≡ [] → (m a n : ℕ) → Clear A m a n
all_clear A w m a n c ms e t = absurd (false≢true (ap is_some (sym (no_waits A w c) ∙ e)))

-- "U" in the words of the merge rule
u_from : (A B : Replica) (e c i : ℕ) → U (payload A) (payload B) e c i → (0 < c) × (Brings A B e i c ⊎ Brings B A e i c)
u_from A B e c i (inl m) = (m.0.0, inl (m.0.1, inl m.1.1))
u_from A B e c i (inr (inl m)) = (m.0.0, inl (m.0.1, inr m.2))
u_from A B e c i (inr (inr m)) = (m.0.0, inr (m.0.1, inr m.2))

-- what v does not cover is not in E
apart : (A : Replica) → Fine A → (e c i : ℕ) → (payload A).v i < c → (payload A).E e c i → ⊥
apart A h e c i l p = let w = h.within e i in let q = p.1 in omega arith

u_to : (A B : Replica) → Fine A → Fine B → (e c i : ℕ) → 0 < c → Brings A B e i c ⊎ Brings B A e i c → U (payload A) (payload B) e c i
u_to A B h g e c i p (inl (x, inl y)) = inl ((p, x), (p, y))
u_to A B h g e c i p (inl (x, inr y)) = inr (inl ((p, x), apart B g e c i y, y))
u_to A B h g e c i p (inr (x, inl y)) = inl ((p, y), (p, x))
u_to A B h g e c i p (inr (x, inr y)) = inr (inr ((p, x), apart A h e c i y, y))

module _ (A B R : Replica) (h : Fine A) (g : Fine B) (r : Merged A B R) (wA : A.waiting ≡ []) (wB : B.waiting ≡ []) where
  u_counts : (e c i : ℕ) → U (payload A) (payload B) e c i → (0 < c) × (count (entry R e) i ≡ c)
  unfolding holds
  u_counts e zero i u = absurd (not-suc-le-zero (u_from A B e zero i u).0)
  u_counts e (suc n) i u =
      let b = u_from A B e (suc n) i u in
      let l = live_to A B h g e i (suc n) b.1 (all_clear A wA e i (suc n)) (all_clear B wB e i (suc n)) in
      (b.0, eqb→eq (count (entry R e) i) (suc n) (rw (r.holds_is e i n) l))

  counts_u : (e c i : ℕ) → 0 < c → count (entry R e) i ≡ c → U (payload A) (payload B) e c i
  unfolding holds
  counts_u e zero i p q = absurd (not-suc-le-zero p)
  counts_u e (suc n) i p q =
      let t : T (holds R e i (suc n)) = rw (eq-eqb (count (entry R e) i) (suc n) q) tt in
      u_to A B h g e (suc n) i p (live_from A B e i (suc n) (rw (r.holds_is e i n) at t)).0

  pub report_elements : (e c i : ℕ) → (payload R).E e c i ↔ (merged_payload (payload A) (payload B)).E e c i
  report_elements e c i = (λ p. (counts_u e c i p.0 p.1, older p), λ u. u_counts e c i u.0)
    where
      older : (0 < c) × (count (entry R e) i ≡ c) → O (payload A) (payload B) e c i → ⊥
      older p o = let q = p.1 in let s = (u_counts e o.1.0 i o.1.1).1 in let l = o.1.2 in omega arith

  pub report_clock : (i : ℕ) → (payload R).v i ≡ (merged_payload (payload A) (payload B)).v i
  report_clock i = r.clock_is i

  pub report_waiting : R.waiting ≡ []
  unfolding unite
  report_waiting = ext waits R.waiting [] r.fine.waiting_ok (record { asc = tt; proper = tt })
      (λ c. r.wait_is c ∙ rw (no_waits A wA c, no_waits B wB c) (pick_both (covers R.clock c) none))
