-- Entries go along the actors of a clock that counts all that theirs do.
use Prim.Native.Nat.{ℕ, ◌<◌}
use mathlib.Core.Path.{◌≡◌}
use mathlib.Core.Bool.{true}
use mathlib.Core.List.{List, [], ◌∷◌, map}
use native.Mathlib.Omega.{arith}
use lib.ListN.{length}
use Rattle.tables.specs.Table.{Normal, all_map}
use Rattle.dots.specs.Dot.{clocks, actor_of}
use Rattle.dots.specs.Clock.{Clock}
use Rattle.dots.specs.ClockLaws.{covers_le}
use Rattle.replica.specs.Limits.{full}
use Rattle.layout.specs.Image.{image_of, good_image}
use Rattle.layout.specs.Formed.{EntryFine}
use Rattle.layout.proofs.Checks.{passed}
use Rattle.changing.specs.Kept.{Along, met_whole}
use Rattle.changing.specs.Brought.{brought}
use Rattle.merging.specs.Rowing.{Goes}

module _ (v : Clock) (n : Normal clocks v) where
  -- those of a good image, whose clock v counts
  pub goes_image : (s : List ℕ) → good_image s ≡ true → Along v (image_of s).clock → Goes (map (λ d. actor_of d) v) (image_of s).entries
  goes_image s g h =
      all_map (EntryFine full (image_of s)) _ (image_of s).entries
      (λ e f. met_whole v e.clock n f.normal_ok (λ a z. let k = covers_le (image_of s).clock e.clock f.covers_ok a in let q = h a z in omega arith))
      (passed s g).formed.entries_ok

  -- those that an operation brings, if any, with a clock that v counts
  pub goes_brought : (c : Clock) (ks : List ℕ) → Normal clocks c → (0 < length ks → Along v c) → Goes (map (λ d. actor_of d) v) (brought c ks)
  goes_brought c [] m h = tt
  goes_brought c (k ∷ ks) m h = (met_whole v c n m (h (omega arith)), goes_brought c ks m (λ l. h (omega arith)))
