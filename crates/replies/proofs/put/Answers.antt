use Rattle.replies.proofs.Fitted.{refused_put}
use Rattle.replies.proofs.put.Goals as goal

pub returns-in-Err : goal.returns-in-Err
returns-in-Err c = refused_put _ _ _ _ _ c.in-Err.is c.number.ensures c.packed.ensures
