-- The parts that a node concerns are there.
use Rattle.std.proofs.Common.{arith}
use Rattle.column_machines.proofs.TakingLemmas.{MarksAll-concerned}
use Rattle.column_machines.proofs.machine.mark_concerned.Goals as goal

pub mark_owner-requires : goal.mark_owner-requires
mark_owner-requires c = λ k is. omega (arith, ((c.owner.ensures k).0 is).stands.inside, c.requires.counted)

pub mark_all-requires : goal.mark_all-requires
mark_all-requires c = λ k there. omega (arith, ((c.readers.ensures k).0 there).stands.inside, c.requires.counted, c.mark_owner.ensures.count)

pub returns : goal.returns
returns c =
    MarksAll-concerned c.args.machine.now.parts c.args.node c.owner.result c.readers.result.now c.args.agenda.now c.mark_owner.new.agenda c.mark_all.new.agenda
    c.owner.ensures c.readers.ensures c.mark_owner.ensures c.mark_all.ensures
