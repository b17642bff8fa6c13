-- Room that was taken is no machine's concern.
use Rattle.std.proofs.Common.{◌≡◌, ap, inl, inr}
use Rattle.session_meaning.specs.Stages.{IsStill}
use Rattle.machine_stage.specs.Machines.{StageData}
use Rattle.machine_stage.specs.Stages.{DidAct}
use Rattle.machine_stage.proofs.laws.refused_commands_leave_the_machine.Goals as goal

still : (old new : StageData) → IsStill DidAct old new → new.machine ≡ old.machine
still old new (inl same) = ap (λ (stage : StageData). stage.machine) same
still old new (inr (state, machine)) = machine

pub returns : goal.returns
returns c = still
