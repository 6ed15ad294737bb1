-- What is written of a clock, said of the replica that an image holds.
use Prim.Native.Nat.{ℕ, ◌≤◌, compare}
use Rattle.std.specs.Prelude.{◌≡◌, refl, true, List, length}
use Rattle.std.proofs.Math.Option.{Option, none, some}
use Rattle.std.proofs.Common.{arith}
use Rattle.tables.specs.Order.{nat_order}
use Rattle.tables.specs.Table.{pick, find, find_all}
use Rattle.tables.specs.Refusal.{first_of}
use Rattle.clocks.specs.VClock.{dots_vclock}
use Rattle.replica.specs.Replica.{Entry, clock_of, entry, is_in}
use Rattle.replica.specs.Reads.{contains}
use Rattle.replica.specs.Limits.{full}
use Rattle.layout.specs.Clock.{encode_clock}
use Rattle.layout.specs.Image.{image_of, good_image}
use Rattle.layout.specs.Formed.{Formed, EntryFine}
use Rattle.layout.proofs.FormedFacts.{formed_from}
use Rattle.layout.proofs.MainFacts.{good_formed}
use Rattle.image.specs.Image.{clock_call}
use Rattle.reading.specs.Calls.{contains_call}
use Rattle.dots.specs.Answers.{answer}
use Rattle.replies.specs.Reply.{fitted}
use Rattle.exports.specs.Calls.{contains_reply, clock_reply}

module _ (s : List ℕ) (good : good_image s ≡ true) where
  formed : Formed full (image_of s)
  formed = formed_from full (image_of s) (good_formed s (rw good tt))

  -- V, in the image's form
  pub clock_said : (room : ℕ) → clock_reply s room ≡ fitted room 0 (length (encode_clock (image_of s).clock)) (encode_clock (image_of s).clock)
  unfolding clock_reply clock_call answer
  clock_said room = rw (good, dots_vclock (image_of s).clock formed.actors_ok)

  few_dots : (m : ℕ) → length (entry (image_of s) m) ≤ 16
  few_dots m = go (find compare (λ e. e.member) m (image_of s).entries) refl
    where
      go : (o : Option Entry) → find compare (λ e. e.member) m (image_of s).entries ≡ o → length (clock_of o) ≤ 16
      go none q = omega arith
      go (some e) q = (find_all compare nat_order (λ e. e.member) (EntryFine full (image_of s)) m (image_of s).entries e formed.entries_ok q).few_ok

  -- the member's clock, empty where it isn't there, and 1 or 0 for whether it is
  pub contains_said : (m room : ℕ) → contains_reply s m room ≡ fitted room 0 (pick (is_in (image_of s) m) 1 0) (encode_clock (entry (image_of s) m))
  unfolding contains_reply contains_call answer first_of contains
  contains_said m room = rw (good, dots_vclock (entry (image_of s) m) (few_dots m))
