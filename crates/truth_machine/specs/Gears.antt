-- What a machine over truths has besides its maker and rails, before it has these.
use Rattle.std.specs.Prelude.{◌≡◌, ℕ, true, false, [], None, length, replicate}
use Rattle.switch_paths.specs.Graphs.{GraphData}
use Rattle.machine_parts.specs.Parts.{IsStale, AreApart}
use Rattle.machine_laws.specs.Machines.{MachineData}
use Rattle.machine_laws.specs.Fitting.{FitsGraph}
use Rattle.machine_laws.specs.Columns.{AreSeated}
use Rattle.part_lists.specs.Listing.{AreLists}
use Rattle.truth_parts.specs.Evaluating.{rooms, HasRoomFor, IsWorkspace}
use Rattle.truth_machine.specs.declared.gears.Gear.{Gear}

-- the parts are those of a machine that fits the graph, and steps no group by vicinities; they are seated among so many nodes, apart and all marked; the
-- lists are theirs, and there is room for their steps, with truths of a maker
pub record IsGear {A : Type 0} (g : GraphData) (has : A → Type 0) (count : ℕ) (gear : Gear A) : Type 0 where
  pub machine : MachineData
  pub fits : FitsGraph g machine
  pub without : machine.wide ≡ None
  pub parts_are : gear.parts.items ≡ machine.parts
  pub seated : AreSeated count gear.parts.items
  pub apart : AreApart gear.parts.items
  pub fresh : (k : ℕ) → ¬ IsStale gear.parts.items k
  pub agenda_is : gear.agenda ≡ replicate (length gear.parts.items) true
  pub readers_are : AreLists false gear.parts.items count gear.readers.items
  pub owners_are : AreLists true gear.parts.items count gear.owners.items
  pub room : HasRoomFor gear.parts.items (rooms gear.workspace)
  pub workspace_is : IsWorkspace has gear.workspace

-- there are no parts; the lists of so many nodes are empty, and all truths in its room are a maker's
pub record IsEmptyGear {A : Type 0} (has : A → Type 0) (count : ℕ) (gear : Gear A) : Type 0 where
  pub parts_are : gear.parts.items ≡ []
  pub agenda_is : gear.agenda ≡ []
  pub readers_are : AreLists false [] count gear.readers.items
  pub owners_are : AreLists true [] count gear.owners.items
  pub workspace_is : IsWorkspace has gear.workspace
