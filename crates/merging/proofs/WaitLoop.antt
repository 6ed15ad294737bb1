-- The loop over the waiting removes of two images.
use Prim.Native.Nat.{ℕ, zero, suc, ◌+◌, ◌≤◌, ◌<◌, max, Ordering}
use mathlib.Core.Path.{◌≡◌, refl, sym, ap, ap₂, ◌∙◌, subst}
use mathlib.Core.Option.{Option, none, some}
use mathlib.Core.List.{List, [], ◌∷◌}
use native.Mathlib.Omega.{arith}
use native.Mathlib.Nat.{add-zero, zero-add}
use lib.Dec.{ltb}
use lib.ListN.{length, length-append}
use lib.Seq.{sets, length-sets}
use Rattle.tables.specs.Table.{Normal, All, all_map, cons?}
use Rattle.tables.specs.Zip.{turn_of, left_after, right_after, Ascend, ascend_left, ascend_right}
use Rattle.dots.specs.Dot.{clocks}
use Rattle.dots.specs.Clock.{Clock}
use Rattle.dots.specs.Covering.{cover_is}
use Rattle.replica.specs.Replica.{Wait, waits, member_sets}
use Rattle.layout.specs.Lists.{list_at, bytes_of}
use Rattle.layout.proofs.Form.{length_list_at}
use Rattle.layout.specs.Rows.{waits_at, waits_end_at, wait_end, wait_at_place, encode_wait, encode_waits}
use Rattle.merging.specs.declared.waits.Waits.{Waits}
use Rattle.merging.specs.Ahead.{wrote, length_cons, bytes_cons}
use Rattle.changing.specs.KeptWaits.{kept_waits, next_clock, next_wait, first, waits_turn, waits_end}
use Rattle.merging.proofs.WaitSteps.{end_ge}
use Rattle.merging.specs.Waiting.{most_named, Sound, WaitsAhead, turn_wait, MergedWait, WaitsReady, WroteWaits}

-- ---- what the turns keep

all_left : (P : Wait → Type 0) (o : Ordering) (xs : List Wait) → All P xs → All P (left_after waits o xs)
all_left P Ordering.lt [] h = tt
all_left P Ordering.lt (x ∷ xs) h = h.1
all_left P Ordering.eq [] h = tt
all_left P Ordering.eq (x ∷ xs) h = h.1
all_left P Ordering.gt xs h = h

all_right : (P : Wait → Type 0) (o : Ordering) (ys : List Wait) → All P ys → All P (right_after waits o ys)
all_right P Ordering.lt ys h = h
all_right P Ordering.eq [] h = tt
all_right P Ordering.eq (y ∷ ys) h = h.1
all_right P Ordering.gt [] h = tt
all_right P Ordering.gt (y ∷ ys) h = h.1

first_at : (s : List ℕ) (p m : ℕ) → first (wait_at_place s p) (waits_at s p m) ≡ wait_at_place s p
unfolding list_at
first_at s p zero = refl
first_at s p (suc m) = refl

-- the clock that is next is normal
next_normal : (o : Ordering) (xs ys : List Wait) (d e : Wait) → o ≡ turn_of waits xs ys → 0 < length xs + length ys → All Sound xs → All Sound ys → Normal clocks (next_clock o (first d xs) (first e ys))
next_normal o [] [] d e t h a b = absurd (omega arith)
next_normal o [] (y ∷ ys) d e t h a b = rw t b.0.clock_ok
next_normal o (x ∷ xs) [] d e t h a b = rw t a.0.clock_ok
next_normal Ordering.lt (x ∷ xs) (y ∷ ys) d e t h a b = a.0.clock_ok
next_normal Ordering.eq (x ∷ xs) (y ∷ ys) d e t h a b = a.0.clock_ok
next_normal Ordering.gt (x ∷ xs) (y ∷ ys) d e t h a b = b.0.clock_ok

most_cons : (o : Option Wait) (ws : List Wait) → most_named (cons? o ws) ≡ max (most_named (cons? o [])) (most_named ws)
unfolding most_named
most_cons none ws = omega arith
most_cons (some w) ws = omega arith

-- ---- the invariant

abbrev pub waits_left : Clock → List ℕ → List ℕ → Waits → List Wait
waits_left v s t w = kept_waits v (waits_at s w.p w.m) (waits_at t w.q w.k)

pub record Waiting (v : Clock) (s t : List ℕ) (p m q k at : ℕ) (out₀ : List ℕ) (whole : List Wait) (out : List ℕ) (w : Waits) : Type 0 where
  pub left_rise : Ascend waits (waits_at s w.p w.m)
  pub right_rise : Ascend waits (waits_at t w.q w.k)
  pub left_sound : All Sound (waits_at s w.p w.m)
  pub right_sound : All Sound (waits_at t w.q w.k)
  pub left_edge : waits_end_at s w.p w.m ≡ waits_end_at s p m
  pub right_edge : waits_end_at t w.q w.k ≡ waits_end_at t q k
  pub few : w.n + (w.m + w.k) ≤ m + k
  pub room : w.at ≤ at + (w.p + w.q)
  pub size : length out ≡ length out₀
  pub count : w.n + length (waits_left v s t w) ≡ length whole
  pub ends : w.at + length (encode_waits (waits_left v s t w)) ≡ at + length (encode_waits whole)
  pub most : max w.most (most_named (waits_left v s t w)) ≡ most_named whole
  pub store : sets out w.at (encode_waits (waits_left v s t w)) ≡ sets out₀ at (encode_waits whole)

module _ (v : Clock) (s : List ℕ) (p m : ℕ) (t : List ℕ) (q k : ℕ) (R : WaitsReady v s p m t q k) where
  pub waits_begin : (w : Waits) → w.p ≡ p → w.m ≡ m → w.q ≡ q → w.k ≡ k → w.n ≡ 0 → w.most ≡ 0 → (out : List ℕ) → Waiting v s t p m q k w.at out (kept_waits v (waits_at s p m) (waits_at t q k)) out w
  waits_begin w ep em eq ek n most out =
      record {
        left_rise = rw (ep, em) R.left_rise;
        right_rise = rw (eq, ek) R.right_rise;
        left_sound = rw (ep, em) R.left_sound;
        right_sound = rw (eq, ek) R.right_sound;
        left_edge = rw (ep, em);
        right_edge = rw (eq, ek);
        few = omega arith;
        room = omega arith;
        size = refl;
        count = rw (ep, em, eq, ek, n) (zero-add _);
        ends = rw (ep, em, eq, ek);
        most = rw (ep, em, eq, ek, most) (omega arith);
        store = rw (ep, em, eq, ek);
      }

  module _ {at : ℕ} {out₀ : List ℕ} {whole : List Wait} {out : List ℕ} {w : Waits} (z : Waiting v s t p m q k at out₀ whole out w) where
    pub waits_ahead : 0 < w.m + w.k → WaitsAhead s t w
    waits_ahead h =
        let la = R.left_edge in let lb = R.right_edge in let ea = z.left_edge in let eb = z.right_edge in
        let ia = R.left_inside in let ib = R.right_inside in
        record { more = h; left_rise = z.left_rise; right_rise = z.right_rise; left_sound = z.left_sound; right_sound = z.right_sound; left_edge = omega arith; right_edge = omega arith; left_inside = omega arith; right_inside = omega arith }

    pub waits_again : 0 < w.m + w.k → (out' : List ℕ) (w' : Waits) → MergedWait v s t out w out' w' → Waiting v s t p m q k at out₀ whole out' w'
    unfolding next_wait
    waits_again h out' w' d =
        let xs = waits_at s w.p w.m in
        let ys = waits_at t w.q w.k in
        let x = wait_at_place s w.p in
        let y = wait_at_place t w.q in
        let lx = length_list_at wait_at_place wait_end s w.p w.m in
        let ly = length_list_at wait_at_place wait_end t w.q w.k in
        let r = next_wait v d.side x y in
        let cl : Normal clocks (next_clock d.side x y) = subst (λ (c : Clock). Normal clocks c) (ap₂ (next_clock d.side) (first_at s w.p w.m) (first_at t w.q w.k)) (next_normal d.side xs ys x y d.turn (omega arith) z.left_sound z.right_sound) in
        let same : turn_wait v d.side x y ≡ r = rw (cover_is v (next_clock d.side x y) R.clock_ok cl) in
        let step : kept_waits v xs ys ≡ cons? r (waits_left v s t w') =
        waits_turn v x y xs ys z.left_rise z.right_rise (all_map Sound (λ w. Normal member_sets w.members) xs (λ w k. k.members_ok) z.left_sound) (all_map Sound (λ w. Normal member_sets w.members) ys (λ w k. k.members_ok) z.right_sound)
        (λ a b. let la : length xs ≡ 0 = rw a in let lb : length ys ≡ 0 = rw b in absurd (omega arith))
        ∙ rw (← d.turn, first_at s w.p w.m, first_at t w.q w.k, d.left, d.right) in
        let cn : w'.n ≡ w.n + length (cons? r []) = rw same at d.count in
        let en : w'.at ≡ w.at + length (encode_waits (cons? r [])) = rw same at d.ends in
        let mo : w'.most ≡ max w.most (most_named (cons? r [])) = rw same at d.most in
        let by : out' ≡ sets out w.at (encode_waits (cons? r [])) = rw same at d.bytes in
        let mv = d.moves in let fw = z.few in let ro = z.room in let rm = d.room in
        let one = length_one r in
        record {
          left_rise = rw d.left (ascend_left waits d.side xs z.left_rise);
          right_rise = rw d.right (ascend_right waits d.side ys z.right_rise);
          left_sound = rw d.left (all_left Sound d.side xs z.left_sound);
          right_sound = rw d.right (all_right Sound d.side ys z.right_sound);
          left_edge = d.left_edge ∙ z.left_edge;
          right_edge = d.right_edge ∙ z.right_edge;
          few = omega arith;
          room = omega arith;
          size = ap length by ∙ length-sets out w.at (encode_waits (cons? r [])) ∙ z.size;
          count = let f = length_cons encode_wait r (waits_left v s t w') in let g = ap length step in let c = z.count in omega arith;
          ends = let f : length (encode_waits (cons? r (waits_left v s t w'))) ≡ length (encode_waits (cons? r [])) + length (encode_waits (waits_left v s t w')) = ap length (bytes_cons encode_wait r (waits_left v s t w')) ∙ simp length-append in
              let g = ap (λ (l : List Wait). length (encode_waits l)) step in let c = z.ends in omega arith;
          most = let f = most_cons r (waits_left v s t w') in let g = ap most_named step in let c = z.most in omega arith;
          store = rw (by, en) (wrote encode_wait out w.at r (waits_left v s t w')) ∙ ap (λ (l : List Wait). sets out w.at (encode_waits l)) (sym step) ∙ z.store;
        }
      where
        length_one : (r : Option Wait) → length (cons? r []) ≤ 1
        length_one none = omega arith
        length_one (some w) = omega arith

    pub waits_done : w.m + w.k ≡ 0 → WroteWaits out₀ at whole out (record { at = w.at; n = w.n; most = w.most })
    unfolding list_at bytes_of most_named
    waits_done e =
        let em : w.m ≡ 0 = omega arith in
        let ek : w.k ≡ 0 = omega arith in
        let fw = z.few in let ro = z.room in let fa = R.left_few in let fb = R.right_few in let ea = R.left_edge in let eb = R.right_edge in let za = z.left_edge in let zb = z.right_edge in
        let ga = end_ge s w.p w.m in let gb = end_ge t w.q w.k in
        let nil : waits_left v s t w ≡ [] = rw (em, ek) (waits_end v) in
        record {
          count = rw (nil, add-zero) at z.count;
          ends = rw (nil, add-zero) at z.ends;
          most = let mo = rw nil at z.most in let e : w.most ≡ most_named whole = omega arith in ap (ltb 32) e;
          few = omega arith;
          room = omega arith;
          bytes = rw nil at z.store;
        }
