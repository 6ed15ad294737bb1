use Rattle.exports.proofs.Named.{add_replies}
use Rattle.exports.proofs.validates.gatelichen_validate_add.Goals as goal

pub returns : goal.returns
returns c = add_replies _ _ _ _ _ _ _ _ _ c.new.ensures c.validate_op-v.ensures c.number_of.ensures c.packed.ensures c.put_gap.ensures
