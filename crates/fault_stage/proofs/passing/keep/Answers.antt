-- There was memory for the phase.
use Rattle.fault_stage.proofs.passing.keep.Goals as goal

pub put_passed-requires-clause-passed : goal.put_passed-requires-clause-passed
put_passed-requires-clause-passed c =
    let is = c.in-Ok.ensures in c.requires.passed c.in-Ok.passed is.0 is.1 is.2 is.3
