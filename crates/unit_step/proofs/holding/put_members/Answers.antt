-- The members are the first nodes of the part's map.
use Rattle.unit_step.proofs.holding.put_members.Goals as goal

pub put_all-requires : goal.put_all-requires
put_all-requires c = rw c.deref.ensures.value c.requires.inside

pub returns : goal.returns
returns c = rw c.deref.ensures.value at c.put_all.ensures
