use native.Mathlib.Omega.{arith}
use mathlib.Core.Path.{sym}
use Rattle.tables.specs.Stores.{sets_append}
use Rattle.layout.specs.Lists.{bytes_of}
use Rattle.layout.proofs.FieldsFacts.{length_le32}
use Rattle.merging.proofs.KeepSteps.{dot_none, dot_bytes}
use Rattle.merging.proofs.entries.put_dot.Goals as goal

pub returns-then-counter-eq0 : goal.returns-then-counter-eq0
unfolding bytes_of
returns-then-counter-eq0 c = let e = dot_none c.args.actor c.args.counter c.if-counter-eq0.true in (omega arith, rw e, rw e)

pub returns : goal.returns
returns c =
    let e = dot_bytes c.args.actor c.args.counter c.if-counter-eq0.false in
    (omega arith, sym e.0, rw e.1 (simp (sets_append, length_le32) (cc)))
