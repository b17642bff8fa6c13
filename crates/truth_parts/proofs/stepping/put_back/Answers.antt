-- The parts that were taken are marked again.
use Rattle.truth_parts.proofs.TakingLemmas.{AreTaken-back}
use Rattle.truth_parts.proofs.stepping.put_back.Goals as goal

pub returns : goal.returns
returns c before taken = AreTaken-back before c.args.agenda.now c.mark_all.new.agenda c.args.done.now taken c.mark_all.ensures
