-- The words of other crates that the clauses of this one cite, from one place.
pub use Rattle.ternary.specs.declared.tern.Tern.{Tern}
pub use Rattle.switch_paths.specs.Switching.{state_at}
pub use Rattle.settling.specs.Settling.{IsJoinStep, StaysOrBecomesX}
pub use Rattle.straight_code.specs.Code.{code_value}
pub use Rattle.kept_parts.specs.Uses.{count_distinct, some_texts, texts_used}
pub use Rattle.word_columns.specs.Columns.{AreRailsIn}
pub use Rattle.channel_groups.specs.Grouping.{AreOf, IsId}
pub use Rattle.wide_groups.specs.Moving.{graph_in}
pub use Rattle.circuit_texts.specs.Sizes.{AllFit}
pub use Rattle.machine_parts.specs.Marking.{IsMarked}
pub use Rattle.switch_paths.specs.declared.TheConstants.{RAILS}
pub use Rattle.machine_parts.specs.Running.{IsMachine}
pub use Rattle.machine_laws.specs.Columns.{HasNoTexts}
pub use Rattle.vicinity.specs.NodeSets.{IsIn}
pub use Rattle.wide_groups.specs.Staying.{GrowsIn, HoldsNode, lowered}
pub use Rattle.machine_laws.specs.Words.{AreSeated, Covers, IsKeptBy, Finishes, MakesReady, StaysKnown, AreInOrder, HasLast, Advances, Places, FitsGraph}
pub use Rattle.settling.specs.Moved.{ListsChanges}
pub use Rattle.part_steps.specs.Dense.{AreDense}
pub use Rattle.part_steps.specs.Workspaces.{rooms}
pub use Rattle.ternary.specs.Counts.{raised}
pub use Rattle.machine_parts.specs.declared.part.MachinePart.{MachinePart}
pub use Rattle.machine_laws.specs.Finishing.{first_node}
pub use Rattle.wide_groups.specs.Awake.{IsWorked, HoldsWide}
pub use Rattle.machine_laws.specs.Machines.{MachineData}
