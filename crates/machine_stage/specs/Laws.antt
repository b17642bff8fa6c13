-- Laws of a machine's stage under a session: what is done to the stage, act by act, says what is done to the machine.
use Rattle.std.specs.Prelude.{◌≡◌, List, IfSome}
use Rattle.group_text.specs.Texts.{GroupTextData}
use Rattle.script_lang.specs.declared.command.Command.{Command}
use Rattle.told_lines.specs.Lines.{Line}
use Rattle.session_meaning.specs.Sessions.{HeldSession}
use Rattle.session_meaning.specs.Outcomes.{Performs}
use Rattle.session_meaning.specs.Stages.{IsStageAfter, IsStill}
use Rattle.machine_stage.specs.Machines.{StageData, IsHeldMachine, IsMachineOf, IsMachineAfter}
use Rattle.machine_stage.specs.Stages.{DidAct}

-- a command that was performed, and did to the stage what its family says, did to the machine what is said of it
abbrev pub CommandsMoveMachines : Type 0
CommandsMoveMachines =
    (old new : HeldSession StageData) (command : Command) (lines : List Line) (texts : List GroupTextData) → IsHeldMachine old → IsHeldMachine new →
    Performs old.core command new.core lines texts → IsStageAfter DidAct old command new → IsMachineAfter old command new

-- where room was taken at most, the machine is as it was
abbrev pub StillStagesKeepMachines : Type 0
StillStagesKeepMachines = (old new : StageData) → IsStill DidAct old new → new.machine ≡ old.machine

-- the machine of a session serves its data
abbrev pub HeldMachinesServe : Type 0
HeldMachinesServe = (session : HeldSession StageData) → IsHeldMachine session → IfSome session.stage.machine (IsMachineOf session.core)
