-- What becomes of one dot of one member where an operation comes before a merge or after it, by truth table. The Booleans are those of specs/OneDot.antt of
-- replica.
use Rattle.std.specs.Prelude.{◌≡◌, Bool, not, ◌&&◌, ◌||◌, List, [], ◌∷◌, T}
use Rattle.std.specs.Bool.{beq}
use Rattle.tables.specs.Truth.{Test, table, imp, mp, pm, beq→eq}
use Rattle.tables.specs.Table.{All, alls, alls_to, pick}
use Rattle.replica.specs.OneDot.{lives, sane, rest}

-- what follows from tests that hold (`given` of replica's OneDotFacts)
given : (hs : List Bool) (b : Bool) → T (imp (alls hs) b) → All T hs → T b
given hs b t h = mp (alls hs) b t (alls_to hs h)

-- a remove after the merge, or at the first side before it: `r` says that it covers the dot, `c` that the side's V covers its clock
module _ (hA hB sA sB kA kB r c : Bool) where
  abbrev removed_after : Bool
  removed_after = lives hA hB sA sB kA kB && not r

  abbrev removed_before : Bool
  removed_before = lives (hA && not r) hB sA sB (kA || not c && r) kB

remove_test : Test 8
remove_test hA hB sA sB kA kB r c = imp (alls (imp (c && r) sA ∷ [])) (beq (removed_after hA hB sA sB kA kB r c) (removed_before hA hB sA sB kA kB r c))

-- if V covers the remove's clock, it has seen what the remove covers
pub remove_law : (hA hB sA sB kA kB r c : Bool) → (T (c && r) → T sA)
    → (lives hA hB sA sB kA kB && not r) ≡ lives (hA && not r) hB sA sB (kA || not c && r) kB
unfolding remove_test alls
remove_law hA hB sA sB kA kB r c f =
    let after = removed_after hA hB sA sB kA kB r c in
    let before = removed_before hA hB sA sB kA kB r c in
    beq→eq after before (given (imp (c && r) sA ∷ []) (beq after before) (table 8 remove_test tt hA hB sA sB kA kB r c) (pm (c && r) sA f, tt))

-- an add likewise: `l` says that it lists the member, `a` that its dot has the actor, `n` that it has the counter, `u` that its counter is no smaller;
-- `k` is for the merge without the add, `k'` for the first side with it
module _ (hA sA kA hB sB kB l a n u k k' : Bool) where
  abbrev added_after : Bool
  added_after = pick (l && a) n (lives hA hB sA sB kA kB) && not k

  abbrev added_before : Bool
  added_before = lives (pick (l && a) n hA && not kA) hB (sA || a && u) sB k' kB

  abbrev adding_given : List Bool
  adding_given = sane hA sA kA ∷ sane hB sB kB ∷ rest k kA kB (sA || sB) ∷ imp k' kA ∷ imp kA (k' || (sA || a && u)) ∷ imp (a && n) (not sA) ∷ imp (a && sB) sA ∷ []

add_test : Test 12
add_test hA sA kA hB sB kB l a n u k k' =
    imp (alls (adding_given hA sA kA hB sB kB l a n u k k')) (beq (added_after hA sA kA hB sB kB l a n u k k') (added_before hA sA kA hB sB kB l a n u k k'))

-- the add's dot is new to the first side, which has seen of the dot's actor all that the second has
pub add_law : (hA sA kA hB sB kB l a n u k k' : Bool) → T (sane hA sA kA) → T (sane hB sB kB) → T (rest k kA kB (sA || sB))
    → (T k' → T kA) → (T kA → T (k' || (sA || a && u))) → (T (a && n) → T (not sA)) → (T (a && sB) → T sA)
    → (pick (l && a) n (lives hA hB sA sB kA kB) && not k) ≡ lives (pick (l && a) n hA && not kA) hB (sA || a && u) sB k' kB
unfolding add_test alls
add_law hA sA kA hB sB kB l a n u k k' p q r f g new ahead =
    let after = added_after hA sA kA hB sB kB l a n u k k' in
    let before = added_before hA sA kA hB sB kB l a n u k k' in
    beq→eq after before (given (adding_given hA sA kA hB sB kB l a n u k k') (beq after before) (table 12 add_test tt hA sA kA hB sB kB l a n u k k')
    (p, (q, (r, (pm k' kA f, (pm kA (k' || (sA || a && u)) g, (pm (a && n) (not sA) new, (pm (a && sB) sA ahead, tt))))))))
