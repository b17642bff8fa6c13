use Rattle.std.proofs.Common.{subst}
use Rattle.sim_read.specs.Meaning.{netlist_of}
use Rattle.ternary.specs.Unmade.{IsFault}
use Rattle.circuit_files.proofs.reading.finish.Goals as goal

pub returns-in-Ok-clause-means : goal.returns-in-Ok-clause-means
returns-in-Ok-clause-means c = c.in-Ok.ensures.ok

pub returns-in-Ok-clause-visible : goal.returns-in-Ok-clause-visible
returns-in-Ok-clause-visible c = c.in-Ok.ensures.visible

pub returns-in-Err-Refused-clause-means : goal.returns-in-Err-Refused-clause-means
returns-in-Err-Refused-clause-means c = λ text stood.
    subst (IsFault (netlist_of text)) c.in-Err-Refused.field-0-is (c.in-Err-Refused.ensures.refused text stood)

pub returns-in-Err-Refused-clause-visible : goal.returns-in-Err-Refused-clause-visible
returns-in-Err-Refused-clause-visible c = λ text stood. tt
