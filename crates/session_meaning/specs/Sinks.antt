-- What a command that was sent to a sink does to its counts, and which fault it answers.
use Rattle.std.specs.Prelude.{ℕ, Result, Ok, Err}
use Rattle.ternary.specs.Counts.{raised}
use Rattle.ports.specs.declared.ports.PortFault.{PortFault}
use Rattle.ports.specs.declared.ports.PortFault.TheVariants as port
use Rattle.session_meaning.specs.declared.fault.ApplyFault.{ApplyFault}
use Rattle.session_meaning.specs.declared.fault.ApplyFault.TheVariants.{Refused, GroupNodes, GroupSwitches, WriteFault, NoMemory}

-- what ends a command where the sink met a fault
abbrev pub fault_of_sink : PortFault → ApplyFault
fault_of_sink port.Failed = WriteFault
fault_of_sink port.NoMemory = NoMemory

-- a fault that the sink caused: it failed or lacked memory, and the command isn't refused
abbrev pub IsSinkFault : ApplyFault → Type 0
IsSinkFault (Refused refusal) = ⊥
IsSinkFault (GroupNodes node count) = ⊥
IsSinkFault (GroupSwitches node count) = ⊥
IsSinkFault WriteFault = Unit {0}
IsSinkFault NoMemory = Unit {0}

-- the count of the sink's faults after such an end: one more where it failed
abbrev pub faults_with : ℕ → ApplyFault → ℕ
faults_with faults (Refused refusal) = faults
faults_with faults (GroupNodes node count) = faults
faults_with faults (GroupSwitches node count) = faults
faults_with faults WriteFault = raised faults 1
faults_with faults NoMemory = faults

-- the count of the sink's faults after a command: one more where the command ends with the sink's failure
abbrev pub faults_applied : ℕ → Result (Unit {0}) ApplyFault → ℕ
faults_applied faults (Ok _) = faults
faults_applied faults (Err fault) = faults_with faults fault

-- the count of the sink's refused memory after such an end of a sending: one more where it lacked memory
abbrev pub refusals_with : ℕ → ApplyFault → ℕ
refusals_with refusals (Refused refusal) = refusals
refusals_with refusals (GroupNodes node count) = refusals
refusals_with refusals (GroupSwitches node count) = refusals
refusals_with refusals WriteFault = refusals
refusals_with refusals NoMemory = raised refusals 1

-- the count of the sink's refused memory after a sending
abbrev pub refusals_sent : ℕ → Result (Unit {0}) ApplyFault → ℕ
refusals_sent refusals (Ok _) = refusals
refusals_sent refusals (Err fault) = refusals_with refusals fault
