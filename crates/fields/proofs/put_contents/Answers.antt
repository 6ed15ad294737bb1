use Rattle.fields.proofs.Steps.{contents_are}
use Rattle.fields.proofs.put_contents.Goals as goal

pub returns : goal.returns
returns c = contents_are _ _ _ _ _ _ _ _ _ _ _ _ c.put_u32.ensures c.put_u32-2.ensures c.put_u32-3.ensures c.put_u32-4.ensures c.put_u32-5.ensures c.put_u32-6.ensures
