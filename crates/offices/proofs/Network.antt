-- Replicas that meet again and again: what was merged may come again, and any order of merges gives the same.
use Rattle.std.specs.Prelude.{◌≡◌, List, [], ◌∷◌, T}
use Rattle.std.proofs.Common.{sym, ap, ◌∙◌}
use Rattle.tables.specs.Table.{All}
use Rattle.replica.specs.Replica.{Replica}
use Rattle.replica.specs.Rules.{merge}
use Rattle.replica.specs.WellFormed.{sound}
use Rattle.replica.proofs.MergeLaws.{merge_commutes, merge_associates, merge_itself, merge_sound, merge_settled}
use Rattle.offices.specs.Network.{merge_all, Sound, In, here, later}

module _ (A B C D : Replica) (a : T (sound A)) (b : T (sound B)) (c : T (sound C)) (d : T (sound D)) where
  -- two merges of two, merged, in the other pairing
  pub interchange : merge (merge A B) (merge C D) ≡ merge (merge A C) (merge B D)
  interchange =
      merge_associates A B (merge C D) a b (merge_sound C D c d)
      ∙ ap (merge A) (sym (merge_associates B C D b c d) ∙ ap (λ (X : Replica). merge X D) (merge_commutes B C b c) ∙ merge_associates C B D c b d)
      ∙ sym (merge_associates A C (merge B D) a c (merge_sound B D b d))

-- a merge is settled, so that it merges with itself to itself
twice : (A B : Replica) → T (sound A) → T (sound B) → merge (merge A B) (merge A B) ≡ merge A B
twice A B a b = merge_itself (merge A B) (merge_sound A B a b) (rw (merge_settled A B a b) tt)

-- What was merged may come again, any number of times, and changes nothing: settled or not.
pub merge_again : (A B : Replica) → T (sound A) → T (sound B) → merge (merge A B) B ≡ merge A B
merge_again A B a b =
    let bb = merge_sound B B b b in
    merge_associates A B B a b b
    ∙ sym (twice A (merge B B) a bb)
    ∙ interchange A (merge B B) A (merge B B) a bb a bb
    ∙ ap (merge (merge A A)) (twice B B b b)
    ∙ interchange A A B B a a b b
    ∙ twice A B a b

-- ---- a whole network

merge_all_sound : (A : Replica) (Bs : List Replica) → Sound A → All Sound Bs → Sound (merge_all A Bs)
merge_all_sound A [] s h = s
merge_all_sound A (B ∷ Bs) s h = merge_all_sound (merge A B) Bs (merge_sound A B s h.0) h.1

-- what A takes in already, it still does after more merges
still : (A X : Replica) (Bs : List Replica) → Sound A → Sound X → All Sound Bs → merge A X ≡ A → merge (merge_all A Bs) X ≡ merge_all A Bs
still A X [] s x h e = e
still A X (B ∷ Bs) s x h e = still (merge A B) X Bs (merge_sound A B s h.0) x h.1
    (merge_associates A B X s h.0 x ∙ ap (merge A) (merge_commutes B X h.0 x) ∙ sym (merge_associates A X B s x h.0) ∙ ap (λ (Z : Replica). merge Z B) e)

-- each that was merged is taken in, and so is the first where there was a merge
taken_in : (A X : Replica) (Bs : List Replica) → Sound A → All Sound Bs → In X Bs → merge (merge_all A Bs) X ≡ merge_all A Bs
taken_in A X [] s h i = elim i [ ]
taken_in A X (B ∷ Bs) s h here = still (merge A X) X Bs (merge_sound A X s h.0) h.0 h.1 (merge_again A X s h.0)
taken_in A X (B ∷ Bs) s h (later i) = taken_in (merge A B) X Bs (merge_sound A B s h.0) h.1 i

first_in : (A B : Replica) (Bs : List Replica) → Sound A → Sound B → All Sound Bs → merge (merge_all A (B ∷ Bs)) A ≡ merge_all A (B ∷ Bs)
first_in A B Bs s b h = still (merge A B) A Bs (merge_sound A B s b) s h
    (ap (λ (Z : Replica). merge Z A) (merge_commutes A B s b) ∙ merge_again B A b s ∙ merge_commutes B A b s)

-- what takes in each of them takes in all of them
takes_all : (Y A : Replica) (Bs : List Replica) → Sound Y → Sound A → All Sound Bs → merge Y A ≡ Y → ((X : Replica) → In X Bs → merge Y X ≡ Y) → merge Y (merge_all A Bs) ≡ Y
takes_all Y A [] y s h e f = e
takes_all Y A (B ∷ Bs) y s h e f = takes_all Y (merge A B) Bs y (merge_sound A B s h.0) h.1
    (sym (merge_associates Y A B y s h.0) ∙ ap (λ (Z : Replica). merge Z B) e ∙ f B here) (λ X i. f X (later i))

-- Two offices that have merged the same replicas, at least two, whichever came first, in any order and however often, are the same. (One alone may be
-- unsettled, and merges with itself to another.)
pub converges : (A B A' B' : Replica) (Bs Cs : List Replica) → Sound A → Sound B → All Sound Bs → Sound A' → Sound B' → All Sound Cs
    → ((X : Replica) → In X (A ∷ B ∷ Bs) → In X (A' ∷ B' ∷ Cs)) → ((X : Replica) → In X (A' ∷ B' ∷ Cs) → In X (A ∷ B ∷ Bs))
    → merge_all A (B ∷ Bs) ≡ merge_all A' (B' ∷ Cs)
converges A B A' B' Bs Cs a b h a' b' g p q =
    let X = merge_all A (B ∷ Bs) in
    let Y = merge_all A' (B' ∷ Cs) in
    let x = merge_all_sound A (B ∷ Bs) a (b, h) in
    let y = merge_all_sound A' (B' ∷ Cs) a' (b', g) in
    sym (takes_all X A' (B' ∷ Cs) x a' (b', g) (has A B Bs a b h A' (q A' here)) (λ Z i. has A B Bs a b h Z (q Z (later i))))
    ∙ merge_commutes X Y x y
    ∙ takes_all Y A (B ∷ Bs) y a (b, h) (has A' B' Cs a' b' g A (p A here)) (λ Z i. has A' B' Cs a' b' g Z (p Z (later i)))
  where
    has : (A B : Replica) (Bs : List Replica) → Sound A → Sound B → All Sound Bs → (X : Replica) → In X (A ∷ B ∷ Bs) → merge (merge_all A (B ∷ Bs)) X ≡ merge_all A (B ∷ Bs)
    has A B Bs a b h X here = first_in A B Bs a b h
    has A B Bs a b h X (later i) = taken_in A X (B ∷ Bs) a (b, h) i
