-- What is ahead in each of the three loops, and what one turn does to it, in the code's terms.
use Prim.Native.Nat.{ℕ, zero, suc, ◌+◌, ◌-◌, ◌*◌, ◌≤◌, ◌<◌}
use Rattle.std.specs.Prelude.{Result, Ok, Err, ⊤}
use mathlib.Core.Path.{◌≡◌, refl, sym, ap, ◌∙◌}
use mathlib.Core.Bool.{true, false}
use mathlib.Core.List.{List, [], ◌∷◌, ◌++◌, map, append_assoc}
use native.Mathlib.Omega.{arith}
use lib.ListN.{length, set, get_or}
use lib.Seq.{sets, slice, take-length}
use Rattle.tables.specs.Table.{All}
use Rattle.tables.specs.Zip.{said}
use Rattle.dots.specs.declared.Dot.{Dot}
use Rattle.dots.specs.Dot.{actor_of, dots}
use Rattle.dots.specs.Rising.{rising, first_of}
use Rattle.clocks.proofs.Steps.{ahead, done}
use Rattle.replica.specs.Replica.{Entry}
use Rattle.replica.specs.Validate.{first}
use Rattle.layout.specs.Fields.{u32_at, u64_at}
use Rattle.layout.specs.Lists.{list_at}
use Rattle.layout.specs.Kit.{Stands}
use Rattle.layout.specs.Clock.{dot_in, dot_at, dots_at, clock_in, clock_at}
use Rattle.layout.specs.Rows.{row_in, row_at}
use Rattle.fields.proofs.Steps.{list_step, list_end}
use Rattle.kills.specs.Lines.{reach, along}
use Rattle.kills.proofs.Steps.{skip_dot, stop_dot, end_dot, counted_none, counted_first, counted_other}
use Rattle.validating.specs.declared.MergeRefused.{MergeRefused}
use Rattle.validating.specs.Search.{Sight, sight, reportable, spotted, sights, sights_beside, sights_of, spent_is, verdict, Listed, Walked, key_of, keys_of}

-- ---- the walk past an actor, with the dots from p on ahead

module _ (t : List ℕ) (all : List Dot) (a p left : ℕ) (e : reach dots a all ≡ reach dots a (dots_at t p left)) where
  pub walked_stop : 0 < left → a < u32_at t p → Walked all (dots_at t p left) a 0
  walked_stop h l =
      let s = e ∙ stop_dot t a p left (left - 1) (omega arith) (omega arith) in
      record { counted = counted_other t a p left h (λ q. omega arith) ∙ sym (ap (said dots a) s); later = λ k g. ap (reach dots k) s }

  pub walked_here : (c : ℕ) → 0 < left → u32_at t p ≡ a → c ≡ u64_at t (p + 4) → Walked all (dots_at t (p + 12) (left - 1)) a c
  walked_here c h q f =
      let s = e ∙ stop_dot t a p left (left - 1) (omega arith) (omega arith) in
      record { counted = f ∙ counted_first t a p left h q ∙ sym (ap (said dots a) s); later = λ k g. ap (reach dots k) s ∙ skip_dot t k p (p + 12) left (left - 1) (omega arith) refl (omega arith) }

  pub walked_end : (q : ℕ) → left ≤ 0 → Walked all (dots_at t q 0) a 0
  walked_end q h =
      let s = e ∙ end_dot t a p left h ∙ list_end dot_at (λ s p. p + 12) t p left h ∙ sym (list_end dot_at (λ s p. p + 12) t q 0 (omega arith)) in
      record { counted = sym (counted_none t a q 0 (omega arith)) ∙ sym (ap (said dots a) s); later = λ k g. ap (reach dots k) s }

-- ---- the three loops

-- our dots beside two clocks that are the same from the first of our actors on
along_later : (s : List ℕ) (p n actor : ℕ) (cs rest : List Dot) → (0 < n → actor < u32_at s p) → ((k : ℕ) → actor < k → reach dots k cs ≡ reach dots k rest)
    → along dots (map (λ d. actor_of d) (dots_at s p n)) cs ≡ along dots (map (λ d. actor_of d) (dots_at s p n)) rest
unfolding list_at dot_in
along_later s p zero actor cs rest h f = refl
along_later s p (suc n) actor cs rest h f = ap (λ (l : List Dot). said dots (u32_at s p) l ∷ along dots (map (λ d. actor_of d) (dots_at s (p + 12) n)) l) (f (u32_at s p) (h (omega arith)))

-- dots that rise: each actor is below the next
pub rising_next : (s : List ℕ) (p low n k : ℕ) → rising low (dots_at s p n) ≡ true → k + 1 < n → u32_at s (p + 12 * k) < u32_at s (p + 12 * (k + 1))
unfolding dot_in
rising_next s p low n zero r h =
    let f = first_of low (dot_at s p) (dots_at s (p + 12) (n - 1)) (rw (list_step dot_at (λ s p. p + 12) s p n (n - 1) (omega arith)) at r) in
    let g = first_of (u32_at s p + 1) (dot_at s (p + 12)) (dots_at s (p + 12 + 12) (n - 2)) (rw (list_step dot_at (λ s p. p + 12) s (p + 12) (n - 1) (n - 2) (omega arith)) at f.others) in
    let x : p + 12 * 0 ≡ p = omega arith in
    let y : p + 12 * (0 + 1) ≡ p + 12 = omega arith in
    rw (x, y) (omega (arith, g.from))
rising_next s p low n (suc k) r h =
    let f = first_of low (dot_at s p) (dots_at s (p + 12) (n - 1)) (rw (list_step dot_at (λ s p. p + 12) s p n (n - 1) (omega arith)) at r) in
    let x : p + 12 * (suc k) ≡ p + 12 + 12 * k = omega arith in
    let y : p + 12 * (suc k + 1) ≡ p + 12 + 12 * (k + 1) = omega arith in
    rw (x, y) (rising_next s (p + 12) (u32_at s p + 1) (n - 1) k f.others (omega arith))

pub next_above : (s : List ℕ) (p n k : ℕ) (d : Dot) → Stands s (p + 4) → n ≡ u32_at s (p + 4) → d ≡ dot_at s (p + 8 + 12 * k) → k + 1 < n → actor_of d < u32_at s (p + 8 + 12 * (k + 1))
unfolding clock_in dot_in
next_above s p n k d h e f l =
    let x : p + 4 + 4 ≡ p + 8 = omega arith in
    rw f (rising_next s (p + 8) 0 n k (rw (x, ← e) at h.rises) l)

-- ---- keys along the actors of a clock that stands in bytes

module _ (v s out : List ℕ) (missing n k at place left : ℕ) where
  -- k of the n actors are past, and `left` dots are ahead
  unfoldable pub at_keys : List ℕ
  at_keys = sets out (at + k) (keys_of missing (dots_at v (28 + 12 * k) (n - k)) (dots_at s place left))

  pub keys_end : n ≤ k → at_keys ≡ out
  unfolding at_keys keys_of
  keys_end h = rw (list_end dot_at (λ s p. p + 12) v (28 + 12 * k) (n - k) (omega arith))

pub keys_turn : (v s out : List ℕ) (missing n k at place left actor got x z others : ℕ) → k < n → rising 0 (dots_at v 28 n) ≡ true → actor ≡ u32_at v (28 + 12 * k) → Walked (dots_at s place left) (dots_at s z others) actor got → x ≡ key_of missing got
    → at_keys v s (set out (at + k) x) missing n (k + 1) at z others ≡ at_keys v s out missing n k at place left
unfolding at_keys keys_of dot_in
keys_turn v s out missing n k at place left actor got x z others h r ea w ex =
    let y : 28 + 12 * k + 12 ≡ 28 + 12 * (k + 1) = omega arith in
    let g : at + (k + 1) ≡ suc (at + k) = omega arith in
    let f = along_later v (28 + 12 * (k + 1)) (n - (k + 1)) actor (reach dots actor (dots_at s place left)) (dots_at s z others) (λ l. rw ea (rising_next v 28 0 n k r (omega arith))) w.later in
    rw (list_step dot_at (λ s p. p + 12) v (28 + 12 * k) (n - k) (n - (k + 1)) (omega arith), ← ea, y, f, ← w.counted, ← ex, g)

pub keys_start : (v s out : List ℕ) (missing n at p place left : ℕ) → place ≡ p + 8 → left ≡ u32_at s (p + 4) → at_keys v s out missing n 0 at place left ≡ sets out at (keys_of missing (dots_at v 28 n) (clock_at s (p + 4)))
unfolding at_keys clock_in
keys_start v s out missing n at p place left f e =
    let x : place ≡ p + 4 + 4 = omega arith in
    let y : at + 0 ≡ at = omega arith in
    let z : n - 0 ≡ n = omega arith in
    rw (x, y, z, e)

-- ---- sights that are not reported

abbrev pub Unspotted : List Sight → Type 0
Unspotted xs = All (λ s. spotted s ≡ false) xs

none_first : (xs ys : List Sight) → Unspotted xs → first spotted (xs ++ ys) ≡ first spotted ys
none_first [] ys h = refl
none_first (x ∷ xs) ys h = rw h.0 (none_first xs ys h.1)

module _ (a ours b theirs : List ℕ) where
  abbrev they : List Entry
  they = map (row_at b) theirs

  unfoldable pub at_ours : ℕ → Result ⊤ MergeRefused
  at_ours i = verdict (first spotted (sights_of (map (row_at a) (slice i (length ours) ours)) they))

  abbrev later : ℕ → List Sight
  later i = sights_of (map (row_at a) (slice (i + 1) (length ours) ours)) they

  unfoldable pub at_theirs : ℕ → ℕ → ℕ → Result ⊤ MergeRefused
  at_theirs i p j = verdict (first spotted (sights_beside (row_at a p) (map (row_at b) (slice j (length theirs) theirs)) ++ later i))

  -- k of our n dots are past, and `left` of theirs are ahead from y on
  unfoldable pub at_actors : (i p our n j their k y left : ℕ) → Result ⊤ MergeRefused
  at_actors i p our n j their k y left =
      verdict (first spotted (sights our their (dots_at a (p + 8 + 12 * k) (n - k)) (dots_at b y left) ++ (sights_beside (row_at a p) (map (row_at b) (slice (j + 1) (length theirs) theirs)) ++ later i)))

  pub whole_is : at_ours 0 ≡ verdict (first spotted (sights_of (map (row_at a) ours) they))
  unfolding at_ours
  whole_is = rw (take-length ours)

  module _ (i : ℕ) where
    pub our_row : (p : ℕ) → i < length ours → p ≡ get_or ours i 0 → at_ours i ≡ at_theirs i p 0
    unfolding at_ours at_theirs
    our_row p h e = rw (ahead ours i (length ours) 0 h (omega arith), e, take-length theirs)

    pub our_end : length ours ≤ i → at_ours i ≡ Ok tt
    unfolding at_ours
    our_end h = rw (done ours i (length ours) h)

    module _ (p j : ℕ) where
      pub their_end : length theirs ≤ j → at_theirs i p j ≡ at_ours (i + 1)
      unfolding at_theirs at_ours
      their_end h = rw (done theirs j (length theirs) h)

      -- an entry of theirs at q that has no sight to report
      pub their_past : (q : ℕ) → j < length theirs → q ≡ get_or theirs j 0 → Unspotted (sights (row_at a p).member (row_at b q).member (row_at a p).clock (row_at b q).clock) → at_theirs i p j ≡ at_theirs i p (j + 1)
      unfolding at_theirs
      their_past q h e u =
          let x = sights_beside (row_at a p) (map (row_at b) (slice (j + 1) (length theirs) theirs)) in
          let z = sights (row_at a p).member (row_at b q).member (row_at a p).clock (row_at b q).clock in
          rw (ahead theirs j (length theirs) 0 h (omega arith), ← e, append_assoc z x (later i), none_first z (x ++ later i) u)

      module _ (our n their : ℕ) where
        pub their_row : (q y left : ℕ) → j < length theirs → q ≡ get_or theirs j 0 → our ≡ u32_at a p → n ≡ u32_at a (p + 4) → their ≡ u32_at b q → y ≡ q + 8 → left ≡ u32_at b (q + 4)
            → at_theirs i p j ≡ at_actors i p our n j their 0 y left
        unfolding at_theirs at_actors row_in clock_in
        their_row q y left h e eo en et ey el =
            let x : p + 8 + 12 * 0 ≡ p + 4 + 4 = omega arith in
            let m : n - 0 ≡ u32_at a (p + 4) = omega arith in
            let z : y ≡ q + 4 + 4 = omega arith in
            rw (ahead theirs j (length theirs) 0 h (omega arith), ← e, append_assoc, eo, et, x, m, z, el)

        module _ (k y left : ℕ) where
          pub dot_end : n ≤ k → at_actors i p our n j their k y left ≡ at_theirs i p (j + 1)
          unfolding at_actors at_theirs
          dot_end h = rw (list_end dot_at (λ s p. p + 12) a (p + 8 + 12 * k) (n - k) (omega arith))

          module _ (d : Dot) (z others got : ℕ) (h : k < n) (ed : d ≡ dot_at a (p + 8 + 12 * k)) (up : k + 1 < n → actor_of d < u32_at a (p + 8 + 12 * (k + 1)))
              (w : Walked (dots_at b y left) (dots_at b z others) (actor_of d) got) where
            abbrev ahead_here : List Sight
            ahead_here = sights our their (dots_at a (p + 8 + 12 * (k + 1)) (n - (k + 1))) (dots_at b z others) ++ (sights_beside (row_at a p) (map (row_at b) (slice (j + 1) (length theirs) theirs)) ++ later i)

            turn : sights our their (dots_at a (p + 8 + 12 * k) (n - k)) (dots_at b y left) ++ (sights_beside (row_at a p) (map (row_at b) (slice (j + 1) (length theirs) theirs)) ++ later i) ≡ sight our their d got ∷ ahead_here
            turn =
                let x : p + 8 + 12 * k + 12 ≡ p + 8 + 12 * (k + 1) = omega arith in
                let f = along_later a (p + 8 + 12 * (k + 1)) (n - (k + 1)) (actor_of d) (reach dots (actor_of d) (dots_at b y left)) (dots_at b z others) (λ l. up (omega arith)) w.later in
                rw (list_step dot_at (λ s p. p + 12) a (p + 8 + 12 * k) (n - k) (n - (k + 1)) (omega arith), ← ed, x, f, ← w.counted)

            pub dot_here : reportable our their d.counter got ≡ true → at_actors i p our n j their k y left ≡ Err (spent_is d our their)
            unfolding at_actors spotted
            dot_here t = rw (turn, t)

            pub dot_next : reportable our their d.counter got ≡ false → at_actors i p our n j their k y left ≡ at_actors i p our n j their (k + 1) z others
            unfolding at_actors spotted
            dot_next t = rw (turn, t)

-- the clock of an entry at a place
pub listed_clock_at : (s places : List ℕ) (n i p : ℕ) → Listed s places n → i < n → p ≡ get_or places i 0 → Stands s (p + 4)
listed_clock_at s places n i p h l e = rw e (h.clock i l)

pub dots_inside : (s : List ℕ) (p m : ℕ) → Stands s (p + 4) → m ≡ u32_at s (p + 4) → p + 8 + 12 * m ≤ length s
dots_inside s p m h f = omega (arith, h.room, f)
