-- "Longest: 24 + 196 + 64 × 200 + 16 × 328 = 18,268.", over the limits.
use Rattle.std.specs.Prelude.{ℕ, ◌+◌, ◌*◌, ◌≤◌, ◌≡◌, refl, List, [], ◌∷◌}
use Rattle.std.proofs.Common.{arith, mul-suc, length-append}
use Rattle.std.proofs.Math.Nat.{mul-le-mul_left}
use Rattle.std.proofs.Math.ListN.{length}
use Rattle.tables.specs.Table.{All, all_map}
use Rattle.replica.specs.Replica.{Entry, Wait, Replica}
use Rattle.replica.specs.Limits.{Limits, full}
use Rattle.layout.specs.Lists.{bytes_of}
use Rattle.layout.specs.Rows.{encode_row, encode_wait}
use Rattle.layout.specs.Image.{rows_from, waits_from, length_of, encode}
use Rattle.layout.proofs.Round.{length_encode}
use Rattle.layout.proofs.KitFacts.{length_encode_clock, length_encode_row, length_encode_wait}
use Rattle.layout.specs.Formed.{Formed, EntryFine, WaitFine}

-- the contents, V, an entry and a waiting remove at the limits
unfoldable pub longest_of : Limits → ℕ
longest_of l = 24 + (4 + 12 * l.actors) + (8 + 12 * l.actors) * l.members + (8 + 12 * l.actors + 4 * l.named) * l.waiting

pub longest_full : longest_of full ≡ 18268
unfolding longest_of
longest_full = refl

most_bytes : {R : Type 0} (put : R → List ℕ) (w : ℕ) (rs : List R) → All (λ r. length (put r) ≤ w) rs → length (bytes_of put rs) ≤ w * length rs
unfolding bytes_of
most_bytes put w [] h = omega arith
most_bytes put w (r ∷ rs) h = let e = mul-suc w (length rs) in let k = h.0 in let t = most_bytes put w rs h.1 in simp length-append (omega arith)

module _ (l : Limits) where
  short_entry : (r : Replica) (e : Entry) → EntryFine l r e → length (encode_row e) ≤ 8 + 12 * l.actors
  short_entry r e f = let k = f.few_ok in rw length_encode_row (omega arith)

  short_wait : (w : Wait) → WaitFine l w → length (encode_wait w) ≤ 8 + 12 * l.actors + 4 * l.named
  short_wait w f = let k = f.few_ok in let n = f.named_ok in rw length_encode_wait (omega arith)

  pub longest : (r : Replica) → Formed l r → length (encode r) ≤ longest_of l
  unfolding longest_of length_of waits_from rows_from
  longest r f =
      let v = length_encode_clock r.clock in
      let a = f.actors_ok in
      let e = most_bytes encode_row (8 + 12 * l.actors) r.entries (all_map (EntryFine l r) (λ e. length (encode_row e) ≤ 8 + 12 * l.actors) r.entries (short_entry r) f.entries_ok) in
      let w = most_bytes encode_wait (8 + 12 * l.actors + 4 * l.named) r.waiting (all_map (WaitFine l) (λ w. length (encode_wait w) ≤ 8 + 12 * l.actors + 4 * l.named) r.waiting short_wait f.waits_ok) in
      let m = mul-le-mul_left (8 + 12 * l.actors) f.members_ok in
      let n = mul-le-mul_left (8 + 12 * l.actors + 4 * l.named) f.waiting_ok in
      rw length_encode (omega arith)
