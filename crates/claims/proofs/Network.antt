-- Offices that merge one another's replicas: those that have merged the same ones have the same bytes in hand.
use Rattle.std.specs.Prelude.{ℕ, ◌≡◌, refl, List, [], ◌∷◌, ◌++◌, map}
use Rattle.std.proofs.Common.{sym, ap, ap₂, ◌∙◌, subst}
use Rattle.tables.specs.Table.{All, all_map}
use Rattle.replica.proofs.Lists.{all_mapped}
use Rattle.replica.specs.Replica.{Replica}
use Rattle.replica.specs.Rules.{merge}
use Rattle.replica.proofs.MergeLaws.{merge_associates, merge_sound}
use Rattle.offices.specs.Network.{merge_all, Sound, In as Among, here as front, later as behind}
use Rattle.offices.proofs.Network.{converges}
use Rattle.layout.specs.Image.{image_of}
use Rattle.claims.specs.Granted.{WellFormed}
use Rattle.claims.specs.Network.{In, here, later, SameOnes, Gathers, came, merged, Gathered}
use Rattle.claims.proofs.MergesFacts.{well_formed_sound, same_image, joined}

sounds : (bs : List (List ℕ)) → All WellFormed bs → All Sound (map image_of bs)
sounds bs h = all_mapped Sound image_of bs (all_map WellFormed (λ b. Sound (image_of b)) bs (λ b w. well_formed_sound w) h)

all_joined : (xs ys : List (List ℕ)) → All WellFormed xs → All WellFormed ys → All WellFormed (xs ++ ys)
all_joined [] ys h g = g
all_joined (x ∷ xs) ys h g = (h.0, all_joined xs ys h.1 g)

-- a merge with what was merged of others is a merge with each of them
merge_each : (X C : Replica) (Ds : List Replica) → Sound X → Sound C → All Sound Ds → merge X (merge_all C Ds) ≡ merge_all (merge X C) Ds
merge_each X C [] x c h = refl
merge_each X C (D ∷ Ds) x c h = merge_each X (merge C D) Ds x (merge_sound C D c h.0) h.1 ∙ ap (λ (Z : Replica). merge_all Z Ds) (sym (merge_associates X C D x c h.0))

merge_on : (A : Replica) (xs : List (List ℕ)) (b : List ℕ) (ys : List (List ℕ)) → merge_all (merge (merge_all A (map image_of xs)) (image_of b)) (map image_of ys) ≡ merge_all A (map image_of (xs ++ (b ∷ ys)))
merge_on A [] b ys = refl
merge_on A (x ∷ xs) b ys = merge_on (merge A (image_of x)) xs b ys

pub gathered : {a z : List ℕ} {bs : List (List ℕ)} → Gathers a bs z → Gathered a bs z
gathered (came w) = record { first_formed = w; all_formed = tt; end_formed = w; end_says = refl }
gathered (merged {a = a} {b = b} {p = p} {q = q} {xs = xs} {ys = ys} g h kept done) =
    let G = gathered g in
    let H = gathered h in
    let m = joined p q G.end_formed.bytes H.end_formed.bytes kept done in
    let s : Sound (merge_all (image_of a) (map image_of xs)) = subst Sound G.end_says (well_formed_sound G.end_formed) in
    record {
      first_formed = G.first_formed;
      all_formed = all_joined xs (b ∷ ys) G.all_formed (H.first_formed, H.all_formed);
      end_formed = m.is_formed;
      end_says =
          m.says
          ∙ ap₂ merge G.end_says H.end_says
          ∙ merge_each (merge_all (image_of a) (map image_of xs)) (image_of b) (map image_of ys) s (well_formed_sound H.first_formed) (sounds ys H.all_formed)
          ∙ merge_on (image_of a) xs b ys;
    }

-- ---- so the same ones give the same

in_image : (x : List ℕ) (xs : List (List ℕ)) → In x xs → Among (image_of x) (map image_of xs)
in_image x [] i = elim i [ ]
in_image x (y ∷ xs) here = front
in_image x (y ∷ xs) (later i) = behind (in_image x xs i)

of_image : (xs : List (List ℕ)) (X : Replica) → Among X (map image_of xs) → (x : List ℕ) × In x xs × (image_of x ≡ X)
of_image [] X i = elim i [ ]
of_image (x ∷ xs) X front = (x, here, refl)
of_image (x ∷ xs) X (behind i) = let r = of_image xs X i in (r.0, later r.1, r.2)

images : (xs ys : List (List ℕ)) → ((x : List ℕ) → In x xs → In x ys) → (X : Replica) → Among X (map image_of xs) → Among X (map image_of ys)
images xs ys f X i = let r = of_image xs X i in subst (λ (Y : Replica). Among Y (map image_of ys)) r.2 (in_image r.0 ys (f r.0 r.1))

pub same_gathered : {a b c d y z : List ℕ} {bs ds : List (List ℕ)} → Gathers a (b ∷ bs) y → Gathers c (d ∷ ds) z → SameOnes (a ∷ b ∷ bs) (c ∷ d ∷ ds) → y ≡ z
same_gathered {a} {b} {c} {d} {y} {z} {bs} {ds} g h f =
    let G = gathered g in
    let H = gathered h in
    let i = images (a ∷ b ∷ bs) (c ∷ d ∷ ds) (λ x. (f x).0) in
    let j = images (c ∷ d ∷ ds) (a ∷ b ∷ bs) (λ x. (f x).1) in
    same_image G.end_formed H.end_formed (G.end_says
    ∙ converges (image_of a) (image_of b) (image_of c) (image_of d) (map image_of bs) (map image_of ds)
    (well_formed_sound G.first_formed) (well_formed_sound G.all_formed.0) (sounds bs G.all_formed.1)
    (well_formed_sound H.first_formed) (well_formed_sound H.all_formed.0) (sounds ds H.all_formed.1) i j
    ∙ sym H.end_says)
