use Rattle.std.proofs.Common.{arith}
use Rattle.clocks.specs.VClock.{few}
use Rattle.clocks.proofs.Steps.{so}
use Rattle.display.proofs.Steps.{not_normal, too_short, in_full}
use Rattle.display.proofs.display.Goals as goal

-- `display::display` meets its contract: the definitions test as the code does.
pub returns-then-not-is_normalised : goal.returns-then-not-is_normalised
returns-then-not-is_normalised c = let p = not_normal _ _ (so c.is_normalised.ensures c.if-not-is_normalised.true) in record { says = p.0; written = p.1 }

pub shared_ref_as_front-dots : goal.shared_ref_as_front-dots
shared_ref_as_front-dots c = few _ (so c.is_normalised.ensures c.if-not-is_normalised.false)

pub returns-then-out-n : goal.returns-then-out-n
returns-then-out-n c = let p = too_short _ _ (so c.is_normalised.ensures c.if-not-is_normalised.false) (let e = c.text_len-n.ensures in omega arith) in record { says = p.0; written = p.1 }

pub returns : goal.returns
returns c =
    let e = c.text_len-n.ensures in
    let p = in_full _ _ (so c.is_normalised.ensures c.if-not-is_normalised.false) (omega arith) e c.put_text.ensures in
    record { says = p.0; written = p.1 }
