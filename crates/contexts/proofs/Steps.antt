-- The calls by the answers of `inc` and of `apply`: where both clocks are fit, the refusal is that of `inc`, and that of `apply` where it has none.
use Rattle.std.proofs.Common.{◌≡◌, ℕ, ◌+◌, Bool, true, false, List, [], ◌∷◌, Result, Ok, Err, eqb, ltb, length, refl, sym, ap, ◌∙◌}
use Rattle.tables.specs.Table.{pick, every}
use Rattle.tables.specs.Refusal.{first_of}
use Rattle.dots.specs.declared.Dot.{Dot}
use Rattle.dots.specs.declared.refusals.Refused.{Refused}
use Rattle.dots.specs.declared.refusals.Refused.TheVariants.{BadClock}
use Rattle.dots.specs.Answers.{answer, refusal}
use Rattle.dots.proofs.AnswersFacts.{answered_ok}
use Rattle.dots.specs.Dot.{dot}
use Rattle.dots.specs.Clock.{Clock, count, applied}
use Rattle.clocks.specs.declared.VClock.{VClock}
use Rattle.clocks.specs.VClock.{dots_of, vclock, normalised, each}
use Rattle.clocks.specs.Calls.{judged, clock_answer, inc_call, apply_call}
use Rattle.clocks.proofs.Steps.{and-true}
use Rattle.contexts.specs.declared.ReadCtx.{ReadCtx}
use Rattle.contexts.specs.declared.AddCtx.{AddCtx}
use Rattle.contexts.specs.Contexts.{fit, unfit, add_ctx_call}

-- both clocks of a context, as the calls on clocks judge them
abbrev pub clocks_of : ReadCtx → List VClock
clocks_of x = x.add_clock ∷ x.rm_clock ∷ []

pub fit_is : (x : ReadCtx) → fit x ≡ every normalised (clocks_of x)
unfolding fit
fit_is x = rw and-true refl

pub judged_is : {A : Type 0} (x : ReadCtx) (a : A) → judged (clocks_of x) a ≡ answer (first_of (unfit x ∷ [])) a
unfolding judged
judged_is x a = rw fit_is refl

-- ---- the three ways, by the two tests: l, the counter is the largest, and w, the result has too many actors

module _ {D K V : Type 0} (d : D) (k : K) (v : V) where
  spent : (l w : Bool) (r : Refused) → Err r ≡ answer (pick l 5 0) d → Err r ≡ answer (pick l 5 (pick w 6 0)) v
  unfolding answer
  spent true w r e = let f : ◌≡◌ {A = Result D Refused} (Err r) (Err (refusal 5)) = e in let g : r ≡ refusal 5 = cc in ap Err g
  spent false w r e = let f : ◌≡◌ {A = Result D Refused} (Err r) (Ok d) = e in cc

  wide : (l w : Bool) (x : D) (r : Refused) → Ok x ≡ answer (pick l 5 0) d → Err r ≡ answer (pick w 6 0) k → Err r ≡ answer (pick l 5 (pick w 6 0)) v
  unfolding answer
  wide true w x r e f = let g : ◌≡◌ {A = Result D Refused} (Ok x) (Err (refusal 5)) = e in cc
  wide false true x r e f = let g : ◌≡◌ {A = Result K Refused} (Err r) (Err (refusal 6)) = f in let h : r ≡ refusal 6 = cc in ap Err h
  wide false false x r e f = let g : ◌≡◌ {A = Result K Refused} (Err r) (Ok k) = f in cc

  granted : (l w : Bool) (x : D) (y : K) → Ok x ≡ answer (pick l 5 0) d → Ok y ≡ answer (pick w 6 0) k → Ok v ≡ answer (pick l 5 (pick w 6 0)) v
  unfolding answer
  granted true w x y e f = let g : ◌≡◌ {A = Result D Refused} (Ok x) (Err (refusal 5)) = e in cc
  granted false true x y e f = let g : ◌≡◌ {A = Result K Refused} (Ok y) (Err (refusal 6)) = f in cc
  granted false false x y e f = refl

-- ---- of a context and an actor

module _ (x : ReadCtx) (a : ℕ) where
  abbrev c₀ : Clock
  c₀ = dots_of x.add_clock

  abbrev d₀ : Dot
  d₀ = dot a (count c₀ a + 1)

  abbrev k₀ : VClock
  k₀ = vclock (applied c₀ d₀)

  abbrev v₀ : AddCtx
  v₀ = record { clock = k₀; dot = d₀ }

  abbrev largest : Bool
  largest = eqb (count c₀ a) 18446744073709551615

  abbrev full : Bool
  full = ltb 16 (length (applied c₀ d₀))

  pub unfit_add : every normalised (clocks_of x) ≡ false → Err BadClock ≡ add_ctx_call x a
  unfolding add_ctx_call answer refusal first_of
  unfit_add e = simp (fit_is x, e)

  module _ (e : every normalised (clocks_of x) ≡ true) where
    good : normalised x.add_clock ≡ true
    good = (each x.add_clock x.rm_clock e).0

    inc_is : inc_call x.add_clock a ≡ answer (pick largest 5 0) d₀
    unfolding inc_call first_of
    inc_is = rw good

    apply_is : apply_call x.add_clock d₀ ≡ answer (pick full 6 0) k₀
    unfolding apply_call clock_answer first_of
    apply_is = rw good

    call_is : add_ctx_call x a ≡ answer (pick largest 5 (pick full 6 0)) v₀
    unfolding add_ctx_call first_of
    call_is = rw (fit_is, e)

    pub next_refused : (r : Refused) → Err r ≡ inc_call x.add_clock a → Err r ≡ add_ctx_call x a
    next_refused r h = spent d₀ k₀ v₀ largest full r (h ∙ inc_is) ∙ sym call_is

    module _ (d : Dot) (h : Ok d ≡ inc_call x.add_clock a) where
      pub next_is : d ≡ d₀
      next_is = sym (answered_ok (pick largest 5 0) d₀ d (sym inc_is ∙ sym h)).1

      pub after_refused : (r : Refused) → Err r ≡ apply_call x.add_clock d → Err r ≡ add_ctx_call x a
      after_refused r f = wide d₀ k₀ v₀ largest full d r (h ∙ inc_is) (rw next_is at f ∙ apply_is) ∙ sym call_is

      pub derived : (k : VClock) → Ok k ≡ apply_call x.add_clock d → Ok (record { clock = k; dot = d }) ≡ add_ctx_call x a
      derived k f =
          let g = rw next_is at f ∙ apply_is in
          let is : k ≡ k₀ = sym (answered_ok (pick full 6 0) k₀ k (sym g)).1 in
          rw (is, next_is) (granted d₀ k₀ v₀ largest full d k (h ∙ inc_is) g ∙ sym call_is)
