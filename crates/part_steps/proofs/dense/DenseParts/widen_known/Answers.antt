-- No code ran yet in the room that came.
use Rattle.std.proofs.Common.{refl}
use Rattle.part_steps.proofs.DenseLemmas.{grows_known}
use Rattle.part_steps.proofs.dense.DenseParts.widen_known.Goals as goal

pub returns-in-Ok-clause-more : goal.returns-in-Ok-clause-more
returns-in-Ok-clause-more c =
    let old = c.args.self.now in
    grows_known old (record old { known = c.in-Ok.known }) refl refl refl c.in-Ok.ensures
