-- The groups that have a text, and those that have none, since they are too large.
use Rattle.std.specs.Prelude.{Bool, not, is_none, List, map, filter}
use Rattle.switch_paths.specs.Graphs.{GraphData}
use Rattle.group_meaning.specs.Groups.{Group}
use Rattle.group_text.specs.Texts.{GroupTextData, text_of_group}
use Rattle.circuit_texts.specs.Sizes.{fault_in}

-- the group isn't too large for a text
abbrev pub has_text : Group → Bool
has_text group = is_none (fault_in group)

-- those of the groups that have a text, in order
abbrev pub with_text : List Group → List Group
with_text groups = filter has_text groups

-- those that have none, in order
abbrev pub without_text : List Group → List Group
without_text groups = filter (λ group. not (has_text group)) groups

-- the texts of those groups that have one, in the groups' order
abbrev pub told : GraphData → List Group → List GroupTextData
told g groups = map (text_of_group g) (with_text groups)
