-- Some of the groups of a graph, chosen by their ids.
use Rattle.std.specs.Prelude.{List}
use Rattle.std.specs.List.{filter_map}
use Rattle.group_meaning.specs.Groups.{Group}
use Rattle.channel_groups.specs.declared.group.GroupId.{GroupId}
use Rattle.channel_groups.specs.Grouping.{group_with}

-- the groups with these ids, in the ids' order
abbrev pub chosen : List Group → List GroupId → List Group
chosen groups ids = filter_map (λ id. group_with groups id.node) ids
