use mathlib.Core.Path.{◌≡◌, refl}
use native.Mathlib.Omega.{arith}
use lib.ListN.{length}
use Rattle.layout.proofs.Form.{length_list_at}
use Rattle.validating.proofs.Steps.{listed_clock_at, dots_inside}
use Rattle.validating.proofs.Keys.{lines_turn}
use Rattle.validating.proofs.put_lines.Goals as goal

pub put_keys-requires : goal.put_keys-requires
put_keys-requires c =
    let z = c.requires in
    (dots_inside _ _ _ (listed_clock_at _ _ _ _ _ z.1 (omega arith) c.index.ensures.0) refl, z.3, z.4, omega (arith, z.1.few, z.2, c.loop-j.invariant.long))

pub loop-j-preserved : goal.loop-j-preserved
loop-j-preserved c =
    let z = c.requires in
    lines_turn _ _ _ _ _ _ _ _ (omega (arith, z.1.few)) z.2 (length_list_at _ _ _ _ _) c.index.ensures.0 c.put_keys.ensures c.loop-j.invariant

pub returns : goal.returns
returns c =
    let e : c.loop-j.j ≡ length c.args.places.now = omega arith in
    rw e at c.loop-j.invariant
