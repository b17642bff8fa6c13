-- No spot is the part's.
use Rattle.std.proofs.Common.{◌∙◌, arith}
use Rattle.std.proofs.lemmas.List.{get_or_default}
use Rattle.part_steps.proofs.readers.spot_in.Goals as goal

pub returns-clause-none : goal.returns-clause-none
returns-clause-none c = λ there.
    c.loop-spot.invariant there.0 (omega (arith, there.1, c.loop-spot-test.false))
    (get_or_default c.args.list.now there.0 0 c.args.k there.1 ∙ there.2)
