use Rattle.merging.proofs.CopyAll.{none_joins}
use Rattle.merging.proofs.draft.keep_waits.Goals as goal

pub returns-then-l-n-eq0 : goal.returns-then-l-n-eq0
returns-then-l-n-eq0 c =
    let b = c in
    rw (none_joins _ b.requires.3 b.args.v b.args.b.now _ b.args.l b.requires.4 c.if-l-n-eq0.true) c.copy_waits.ensures
