-- Why lines are refused, and the lines that tell it.
use Rattle.std.specs.Prelude.{ℕ, List, [], Option, Some, None}
use Rattle.netlist.specs.Circuits.{CircuitData, called}
use Rattle.circuit_texts.specs.declared.texts.BuildFault.{BuildFault}
use Rattle.circuit_texts.specs.declared.texts.BuildFault.TheVariants as build
use Rattle.printed_lines.specs.Faults.{fault_line_of}
use Rattle.printed_lines.specs.declared.faults.FaultPlace.{FaultPlace}
use Rattle.printed_lines.specs.declared.faults.FaultCode.{FaultCode}
use Rattle.printed_lines.specs.declared.faults.FaultCode.TheVariants as code

-- why a line is refused: a code, and for a group that is too large the name of its least node and the count of what it has too many of
pub record Cause : Type 0 where
  pub code : FaultCode
  pub name : List ℕ
  pub count : ℕ

-- a cause that names no group
abbrev pub plain_cause : FaultCode → Cause
plain_cause what = record { code = what; name = []; count = 0 }

-- that of a group that is too large; lack of memory is no cause
abbrev pub size_cause : CircuitData → BuildFault → Option Cause
size_cause circuit (build.GroupNodes node count) = Some (record { code = code.G1GroupNodes; name = called circuit node; count = count })
size_cause circuit (build.GroupSwitches node count) = Some (record { code = code.G2GroupSwitches; name = called circuit node; count = count })
size_cause circuit build.NoMemory = None

-- the line of a refusal for this cause
abbrev pub cause_line : FaultPlace → Cause → List ℕ
cause_line place cause = fault_line_of place cause.code cause.name cause.count
