use Rattle.fields.proofs.Steps.{first_few}
use Rattle.fields.proofs.put_members.Goals as goal

pub returns : goal.returns
returns c = rw (first_few c.args.members.now c.min.result c.min.ensures) at c.put_few.ensures
