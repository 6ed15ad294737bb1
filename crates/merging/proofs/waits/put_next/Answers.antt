use native.Mathlib.Omega.{arith}
use Rattle.merging.proofs.WaitSteps.{put_same, names_inside, only_left_named, only_right_named, same_named}
use Rattle.merging.proofs.waits.put_next.Goals as goal

pub copy_wait-requires : goal.copy_wait-requires
copy_wait-requires c = let h = c.requires in let e = c.in-Less.is in (h.0.left (λ z. cc), h.0.left_small, h.1)

pub returns-in-Less : goal.returns-in-Less
returns-in-Less c =
    let h = c.requires.0 in let e = c.in-Less.is in
    rw e (put_same (only_left_named _ _ _ _ (h.right_none e) (h.left (λ z. cc)).normal) (omega arith) c.copy_wait.ensures)

pub copy_wait-requires-in-Greater : goal.copy_wait-requires-in-Greater
copy_wait-requires-in-Greater c = let h = c.requires in let e = c.in-Greater.is in (h.0.right (λ z. cc), h.0.right_small, h.1)

pub returns-in-Greater : goal.returns-in-Greater
returns-in-Greater c =
    let h = c.requires.0 in let e = c.in-Greater.is in
    rw e (put_same (only_right_named _ _ _ _ (h.left_none e) (h.right (λ z. cc)).normal) (omega arith) c.copy_wait-in-Greater.ensures)

pub same_members-requires : goal.same_members-requires
same_members-requires c = let h = c.requires.0 in let e = c.in-Equal.is in (names_inside (h.left (λ z. cc)), names_inside (h.right (λ z. cc)))

pub copy_wait-requires-then-same_members : goal.copy_wait-requires-then-same_members
copy_wait-requires-then-same_members c = let h = c.requires in let e = c.in-Equal.is in (h.0.left (λ z. cc), h.0.left_small, h.1)

pub returns-then-same_members : goal.returns-then-same_members
returns-then-same_members c =
    let h = c.requires.0 in let e = c.in-Equal.is in
    rw e (put_same (same_named _ _ (c.same_members.ensures c.if-same_members.true) (h.left (λ z. cc)).normal) (omega arith) c.copy_wait-then-same_members.ensures)

pub put_wait-requires : goal.put_wait-requires
put_wait-requires c = let h = c.requires in let e = c.in-Equal.is in (h.0.left (λ z. cc), h.0.left_small, h.1, h.2, (h.0.right (λ z. cc)).named, h.0.ready)

pub returns-else-same_members : goal.returns-else-same_members
returns-else-same_members c = let e = c.in-Equal.is in rw e c.put_wait.ensures
