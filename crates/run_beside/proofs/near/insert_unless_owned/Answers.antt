-- It is put in, or it has an owner.
use Rattle.std.proofs.Common.{inl, inr, refl}
use Rattle.run_beside.proofs.NearLemmas.{none_of, some_of}
use Rattle.run_beside.proofs.near.insert_unless_owned.Goals as goal

pub returns-then-is_none : goal.returns-then-is_none
returns-then-is_none c = inl (none_of c.args.owner (rw c.if-is_none.true at c.is_none.ensures), c.insert.ensures.inside)

pub returns-else-is_none : goal.returns-else-is_none
returns-else-is_none c = inr (some_of c.args.owner (rw c.if-is_none.false at c.is_none.ensures), refl)
