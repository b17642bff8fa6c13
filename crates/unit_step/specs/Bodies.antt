-- What a machine is made of.
use Rattle.std.specs.Prelude.{◌≡◌, ◌≢◌, ℕ, Bool, true, is_some, length, replicate, List, Option, Some, None, slice_get}
use Rattle.kept_parts.specs.Uses.{texts_used, count_distinct}
use Rattle.unit_step.specs.declared.body.Body.{Body}
use Rattle.machine_laws.specs.Machines.{MachineData}
use Rattle.part_steps.specs.Workspaces.{rooms}
use Rattle.machine_parts.specs.Running.{IsMachine}
use Rattle.part_steps.specs.Dense.{AreDense}
use Rattle.unit_step.specs.LastTexts.{AreLastTexts, texts_of_last}
use Rattle.ternary.specs.declared.tern.Tern.{Tern}
use Rattle.channel_groups.specs.Grouping.{GroupsData}
use Rattle.group_text.specs.Texts.{GroupTextData}
use Rattle.machine_parts.specs.declared.part.MachinePart.{MachinePart}

-- a machine that starts in this state with these parts, all of them marked, and these texts, and these at the last build: it was
-- neither moved nor placed, and knows no groups that are stepped by vicinities
abbrev pub started : Option GroupsData → List MachinePart → List Tern → List (Option GroupTextData) → List GroupTextData → ℕ → MachineData
started groups parts state uses last spare = record {
  groups = groups;
  parts = parts;
  uses = uses;
  marks = replicate (length parts) true;
  state = state;
  texts = count_distinct uses;
  last = last;
  moves = 0;
  placed = 0;
  spare = spare;
  wide = None;
}

-- the part with this number has code
pub record IsCodedAt (parts : List MachinePart) (k : ℕ) : Type 0 where
  pub part : MachinePart
  pub there : slice_get parts k ≡ Some part
  pub coded : part.code ≢ None

-- all that was made is of the body's parts, which are all marked, none of its groups is stepped by vicinities, and nothing is known of what is near
-- parts: a machine can start with it
pub record CanStart (body : Body) : Type 0 where
  pub marked : body.agenda.marks ≡ replicate (length body.parts.items) true
  pub runs : IsMachine body.parts.items body.agenda.marks body.agenda.waiting (length body.state.items) body.readers body.owners.items
      body.uses.numbers body.held body.most (rooms body.workspace)
  pub dense : AreDense body.parts.items body.dense
  pub without : body.wide ≡ None
  pub unknown : body.near ≡ None
  pub last_texts : AreLastTexts body.parts.items body.uses.numbers (length body.state.items) (length body.uses.known) body.last_texts

-- the machine that starts so, with room for so many nodes more
abbrev pub of_body : Body → ℕ → MachineData
of_body body spare =
    started body.groups body.parts.items body.state.items (texts_used body.uses) (texts_of_last body.uses.known body.last_texts) spare

-- what no step changes: the texts of the last build, and whether groups are known that are stepped by vicinities
abbrev pub fixed_of : MachineData → List GroupTextData × Bool
fixed_of machine = (machine.last, is_some machine.wide)
