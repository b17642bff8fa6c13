-- No text is to stand in front.
use Rattle.fault_stage.proofs.FrontLemmas.{none_in_front}
use Rattle.fault_stage.proofs.stage.FaultStage.start.Goals as goal

pub returns-clause-serves : goal.returns-clause-serves
returns-clause-serves c = λ g kept. none_in_front kept
