use Rattle.scan.proofs.Steps.{count_short, count_many, count_no_room, count_stands}
use Rattle.layout.specs.Fields.{u32_at}
use Rattle.std.proofs.Math.Nat.{mul-le-mul_left}
use native.Mathlib.Omega.{arith}
use Prim.Native.Nat.{◌+◌, ◌*◌, ◌≤◌, ◌<◌}
use lib.ListN.{length}
use mathlib.Core.Path.{◌≡◌, ◌∙◌}
use Rattle.scan.proofs.counted.Goals as goal

pub overflow_mul-width : goal.overflow_mul-width
overflow_mul-width c = let h : c.index-n.result ≤ 32 = omega arith in omega (arith, mul-le-mul_left c.args.width h)

pub overflow_add-width : goal.overflow_add-width
overflow_add-width c = let h : c.index-n.result ≤ 32 = omega arith in omega (arith, mul-le-mul_left c.args.width h)

pub returns-then-s-at : goal.returns-then-s-at
returns-then-s-at c = let a = c.args in record { is = count_short a.s.now a.at a.width a.most (omega arith); room = tt }

pub returns-then-left-lt4 : goal.returns-then-left-lt4
returns-then-left-lt4 c = let a = c.args in record { is = count_short a.s.now a.at a.width a.most (omega arith); room = tt }

pub returns-then-most-n : goal.returns-then-most-n
returns-then-most-n c = let a = c.args in record { is = count_many a.s.now a.at a.width a.most (omega arith); room = tt }

pub returns-then-left-width : goal.returns-then-left-width
returns-then-left-width c =
    let a = c.args in
    let n : c.index-n.result ≡ u32_at a.s.now a.at = c.index-n.ensures.0 ∙ c.u32_at.ensures in
    let h : length a.s.now < a.at + (4 + a.width * c.index-n.result) = omega arith in
    record { is = count_no_room a.s.now a.at a.width a.most (rw n at h); room = tt }

pub returns : goal.returns
returns c =
    let a = c.args in
    let n : c.index-n.result ≡ u32_at a.s.now a.at = c.index-n.ensures.0 ∙ c.u32_at.ensures in
    let h : a.at + (4 + a.width * c.index-n.result) ≤ length a.s.now = omega arith in
    record { is = rw n (count_stands a.s.now a.at a.width a.most (omega arith) (rw n at h)); room = h }
