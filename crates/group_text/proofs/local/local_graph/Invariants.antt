-- The members so far have their levels, and then the outside nodes so far are input nodes.
use Rattle.std.proofs.Common.{◌≡◌, ◌-◌, ◌++◌, [], length, map, take}
use Rattle.std.specs.Prelude.{replicate}
use Rattle.strength_order.specs.declared.TheConstants.{INPUT_LEVEL}
use Rattle.switch_paths.specs.Graphs.{level_of}
use Rattle.group_text.proofs.local.local_graph.Given as goal

abbrev pub invariant-loop-member : goal.invariant-loop-member
invariant-loop-member l = l.local ≡ record { levels = map (level_of l.graph) (take l.member-index l.members); places = [] }

abbrev pub invariant-loop-outside : goal.invariant-loop-outside
invariant-loop-outside l =
    l.local ≡ record {
      levels = map (level_of l.graph) l.members ++ replicate (l._outside - length l.members) INPUT_LEVEL;
      places = [];
    }
