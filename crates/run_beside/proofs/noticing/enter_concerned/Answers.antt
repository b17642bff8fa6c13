-- The owner and the readers of a node are put apart.
use Rattle.std.proofs.Common.{inl, inr, refl, subst, arith}
use Rattle.std.specs.Prelude.{Contains, None, slice_index_or}
use Rattle.run_beside.proofs.NoticingLemmas.{Notices-concerned}
use Rattle.run_beside.proofs.noticing.enter_concerned.Goals as goal

pub enter_owner-requires-clause-parts : goal.enter_owner-requires-clause-parts
enter_owner-requires-clause-parts c = λ k is. c.requires.parts k (inl is)

pub enter_readers-requires-clause-parts : goal.enter_readers-requires-clause-parts
enter_readers-requires-clause-parts c = λ k there.
    let inside = c.requires.parts k (inr (subst (λ xs. Contains xs k) c.of.ensures there)) in
    omega (arith, inside, c.enter_owner.ensures.notices.apart.count)

pub enter_readers-requires-clause-marks : goal.enter_readers-requires-clause-marks
enter_readers-requires-clause-marks c =
    omega (arith, c.requires.marks, c.enter_owner.ensures.notices.apart.count, c.enter_owner.ensures.notices.count)

pub returns-clause-notices : goal.returns-clause-notices
returns-clause-notices c =
    Notices-concerned c.args.owners.now c.args.readers.now c.args.node (slice_index_or c.args.owners.now c.args.node None) c.of.result.now _ _ _ _ _ _
    refl c.of.ensures c.enter_owner.ensures.notices c.enter_readers.ensures.notices
