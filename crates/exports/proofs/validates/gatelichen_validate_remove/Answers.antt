use Rattle.exports.proofs.Named.{remove_replies}
use Rattle.exports.proofs.validates.gatelichen_validate_remove.Goals as goal

pub returns : goal.returns
returns c = remove_replies _ _ _ _ _ _ _ c.clock_lent.ensures c.validate_op-v.ensures c.number_of.ensures c.packed.ensures
