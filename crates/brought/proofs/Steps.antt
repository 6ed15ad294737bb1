-- The members of a record that are written, and a waiting remove written in two parts.
use Prim.Native.Nat.{ℕ, ◌+◌, min}
use mathlib.Core.Path.{◌≡◌, sym, ◌∙◌}
use mathlib.Core.List.{List}
use native.Mathlib.Omega.{arith}
use lib.ListN.{length, take, length-append}
use lib.Seq.{take_all}
use Rattle.tables.specs.Stores.{sets_append}
use Rattle.tables.specs.Zip.{by_lt}
use Rattle.clocks.specs.declared.VClock.{VClock}
use Rattle.clocks.specs.VClock.{dots_of}
use Rattle.layout.specs.Clock.{encode_clock}
use Rattle.layout.specs.Rows.{encode_wait, encode_wait_in}
use Rattle.fields.specs.Read.{Put}
use Rattle.lists.specs.declared.Members.{Members}
use Rattle.brought.specs.Brought.{counted_members, wait_of}
use Rattle.lists.specs.Members.{list_of}

pub few_take : (m : Members) (n : ℕ) → length m.at ≡ 64 → n ≡ min m.len 64 → take n m.at ≡ list_of m
few_take m n h e = by_lt m.len 64
    (λ l. let q : n ≡ m.len = omega arith in rw q)
    (λ l. take_all n m.at (omega arith) ∙ sym (take_all m.len m.at (omega arith)))

pub wait_done : (s t u : List ℕ) (at r k : ℕ) (c : VClock) (m : Members) → Put s at (encode_clock (dots_of c)) t r → Put t (at + r) (counted_members m) u k → Put s at (encode_wait (wait_of c m)) u (r + k)
unfolding encode_wait_in counted_members
wait_done s t u at r k c m p q =
    record {
      long = let a = p.long in let b = q.long in simp length-append (omega (arith, simp length-append at b));
      is = q.is ∙ rw (p.is, p.long) (sym (sets_append s at (encode_clock (dots_of c)) (counted_members m)));
    }
