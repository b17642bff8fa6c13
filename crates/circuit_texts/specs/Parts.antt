-- The parts of a circuit's listing: one for each group of the circuit, in the groups' order.
use Rattle.std.specs.Prelude.{◌≡◌, ℕ, List}
use Rattle.switch_paths.specs.Graphs.{GraphData}
use Rattle.group_meaning.specs.Groups.{Group}
use Rattle.group_text.specs.Texts.{GroupTextData, local_nodes, text_of_group}
use Rattle.straight_code.specs.declared.part.Part.{Part}
use Rattle.group_analysis.specs.Meaning.{MeansText}

-- the part has as many members as the text, and code that means the text, over these nodes
pub record IsMadeOf (text : GroupTextData) (nodes : List ℕ) (part : Part) : Type 0 where
  pub map : part.map.items ≡ nodes
  pub members : part.members ≡ text.members
  pub means : MeansText text part.code.value

-- the part has code that means the text of the group, over the nodes that the group's local nodes stand for
abbrev pub IsPartOf : GraphData → Group → Part → Type 0
IsPartOf g group part = IsMadeOf (text_of_group g group) (local_nodes g group) part
