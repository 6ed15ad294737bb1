use Rattle.numbers.proofs.Edge.{le32_bytes}
use Rattle.numbers.proofs.store_edge.Goals as goal

pub returns : goal.returns
returns c =
    let a = c.args in
    let b = c.to_le_bytes.ensures in
    le32_bytes a.s.now a.at a.k a.v c.put_after.new.s c.put_after-2.new.s c.put_after-3.new.s c.put_after-4.new.s
    (rw b at c.put_after.ensures) (rw b at c.put_after-2.ensures) (rw b at c.put_after-3.ensures) (rw b at c.put_after-4.ensures)
