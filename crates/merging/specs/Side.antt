-- What an operation brings, as the image of a second side.
use Prim.Native.Nat.{ℕ, ◌+◌, ◌≤◌, ◌<◌, compare}
use Rattle.std.specs.Prelude.{◌≡◌, List, [], ◌∷◌, length, take}
use Rattle.tables.specs.Table.{Normal, Asc}
use Rattle.dots.specs.Dot.{clocks}
use Rattle.clocks.specs.declared.VClock.{VClock}
use Rattle.clocks.specs.VClock.{dots_of}
use Rattle.replica.specs.Replica.{Replica}
use Rattle.layout.specs.Lists.{starts_at}
use Rattle.layout.specs.Rows.{waits_end_at}
use Rattle.layout.specs.Image.{image_of, waits_start_at, waits_count}
use Rattle.lists.specs.declared.Members.{Members}
use Rattle.lists.specs.Members.{list_of}
use Rattle.changing.specs.Brought.{brought}
use Rattle.image.specs.declared.Image.{Image}
use Rattle.merging.specs.Draft.{Held}

-- entries of one dot each stand 20 bytes apart
abbrev pub places_of : ℕ → List ℕ
places_of n = starts_at (λ s p. p + 20) [] 28 n

-- the first n members with the clock c, and one remove by c that waits on all of them
abbrev pub side_of : VClock → Members → ℕ → Replica
side_of c m n = record {
  clock = [];
  entries = brought (dots_of c) (take n m.at);
  waiting = record { clock = dots_of c; members = list_of m } ∷ [];
}

-- what it is made of: an ascending list of at most 64 members, and a normalised clock, of one dot where it is to stand with members
pub record SideReady (c : VClock) (m : Members) (n : ℕ) : Type 0 where
  pub within : n ≤ m.len
  pub many : m.len ≤ 64
  pub few : c.len ≤ 16
  pub one : 0 < n → c.len ≡ 1
  pub asc : Asc compare (list_of m)
  pub normal : Normal clocks (dots_of c)

-- the bytes say what the side has, and y tells where it stands
pub record Brings (B : Replica) (s : List ℕ) (y : Image) : Type 0 where
  pub image : image_of s ≡ B
  pub held : Held s y
  pub edge : waits_end_at s (waits_start_at s) (waits_count s) < 65536
  pub inside : waits_end_at s (waits_start_at s) (waits_count s) ≤ length s
