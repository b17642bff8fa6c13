-- What is held starts again.
use Rattle.std.proofs.Common.{sym, subst}
use Rattle.fault_stage.specs.Stages.{FaultData, ServesIn}
use Rattle.fault_stage.proofs.stage.FaultStage.start_again.Goals as goal

pub again-requires : goal.again-requires
again-requires c = c.self.invariant

pub returns-clause-serves : goal.returns-clause-serves
returns-clause-serves c = λ g h kept serves.
    c.again.ensures.serves g h kept (subst (λ (stage : FaultData). ServesIn stage g kept) (sym c.self.view_is) serves)
