-- The set has the nodes of the members so far, and then those at the terminals of the switches so far.
use Rattle.std.proofs.Common.{◌≡◌, ◌++◌, take}
use Rattle.std.specs.List.{flat_map}
use Rattle.switch_paths.specs.Graphs.{place_at}
use Rattle.group_text.specs.Texts.{firsts, terminals_of}
use Rattle.group_text.proofs.local.collect_nodes.Given as goal

abbrev pub invariant-loop-member : goal.invariant-loop-member
invariant-loop-member l = l.locals.keys ≡ firsts (take l.member-index l.members)

abbrev pub invariant-loop-place : goal.invariant-loop-place
invariant-loop-place l =
    l.locals.keys ≡ firsts (l.members ++ flat_map (λ place. terminals_of (place_at l.graph.places place))
    (take l.place-index l.switches))
