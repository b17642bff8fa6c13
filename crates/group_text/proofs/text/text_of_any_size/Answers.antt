-- The group has what its text is made of, and the parts make its text.
use Rattle.std.proofs.Common.{refl}
use Rattle.group_text.proofs.LocalNodes.{members_within}
use Rattle.group_text.proofs.GroupLemmas.{members_inside, switches_among, switches_inside}
use Rattle.group_text.proofs.WellFormedTexts.{well_formed}
use Rattle.group_text.proofs.text.text_of_any_size.Goals as goal

pub collect_nodes-requires : goal.collect_nodes-requires
collect_nodes-requires c = switches_inside c.args.graph.now
    (record { members = c.args.members.now; switches = c.args.switches.now }) c.requires

pub local_graph-requires-clause-members : goal.local_graph-requires-clause-members
local_graph-requires-clause-members c =
    members_inside c.args.graph.now (record { members = c.args.members.now; switches = c.args.switches.now }) c.requires

pub local_graph-requires-clause-within : goal.local_graph-requires-clause-within
local_graph-requires-clause-within c =
    rw c.in_ok-locals.ensures
    (members_within c.args.graph.now (record { members = c.args.members.now; switches = c.args.switches.now }) c.requires)

pub local_graph-requires-clause-switches : goal.local_graph-requires-clause-switches
local_graph-requires-clause-switches c =
    rw c.in_ok-locals.ensures
    (switches_among c.args.graph.now (record { members = c.args.members.now; switches = c.args.switches.now }) c.requires)

pub invariant_of-text : goal.invariant_of-text
invariant_of-text c =
    rw (c.in_ok-local_graph.ensures, c.in_ok-constants_of.ensures, c.as_slice.ensures.keys, c.in_ok-locals.ensures)
    (well_formed c.args.graph.now (record { members = c.args.members.now; switches = c.args.switches.now })
    c.graphs_are_wired.ensures c.requires)

pub returns-clause-text : goal.returns-clause-text
returns-clause-text c =
    rw (c.in_ok-local_graph.ensures, c.in_ok-constants_of.ensures, c.as_slice.ensures.keys, c.in_ok-locals.ensures) refl
