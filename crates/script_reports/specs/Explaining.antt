-- Inside the program: explaining a node where the lines of a script ended, or telling the refusal that ended them.
use Rattle.std.specs.Prelude.{◌≡◌, ℕ, List}
use Rattle.switch_paths.specs.Graphs.{GraphData, nodes}
use Rattle.group_meaning.specs.Groups.{AreGroups}
use Rattle.channel_groups.specs.Grouping.{GroupsData}
use Rattle.netlist.specs.Names.{node_of}
use Rattle.printed_lines.specs.declared.faults.FaultPlace.TheVariants.{Script}
use Rattle.circuit_texts.specs.Sizes.{TellsRefused}
use Rattle.told_lines.specs.Lines.{Told}
use Rattle.session_meaning.specs.Sessions.{SessionData}
use Rattle.script_meaning.specs.declared.halt.Halt.{Halt}
use Rattle.script_meaning.specs.declared.halt.Halt.TheVariants.{End, Refused, TooLarge}
use Rattle.run_ends.specs.declared.status.Status.TheVariants.{ScriptRefused}
use Rattle.run_ends.specs.Answers.{Answer, IsRefusal, IsTooLarge}
use Rattle.script_reports.specs.Reasoned.{IsExplained}

-- nobody hears a line
abbrev pub hear_nothing : Unit {0} → Told → Unit {0}
hear_nothing before told = tt

-- these are the groups of the graph, with its count of nodes
abbrev pub AreGroupsOf : GraphData → GroupsData → Type 0
AreGroupsOf graph groups = AreGroups graph groups.groups × (groups.nodes ≡ nodes graph)

-- where the lines ended since a group of the circuit is too large, the first such group is told
abbrev pub TellsSize : SessionData → Halt → Type 0
TellsSize end End = Unit {0}
TellsSize end (Refused number code) = Unit {0}
TellsSize end (TooLarge number fault) = TellsRefused end.large end.circuit.graph fault

-- the answer is the line of the refusal that ended the lines
abbrev pub IsHaltRefused : SessionData → Halt → Answer → Type 0
IsHaltRefused end End = λ answer. ⊥
IsHaltRefused end (Refused number code) = IsRefusal (Script number) code ScriptRefused
IsHaltRefused end (TooLarge number fault) = IsTooLarge end.large end.circuit (Script number) ScriptRefused

-- the answer explains the node of this name in these data, if all lines were obeyed; else it is the line of the refusal that ended them
abbrev pub IsHaltExplained : List ℕ → SessionData → Halt → Answer → Type 0
IsHaltExplained name end End = λ answer. IsExplained end (node_of end.circuit.names name) answer.status answer.text
IsHaltExplained name end (Refused number code) = IsHaltRefused end (Refused number code)
IsHaltExplained name end (TooLarge number fault) = IsHaltRefused end (TooLarge number fault)
