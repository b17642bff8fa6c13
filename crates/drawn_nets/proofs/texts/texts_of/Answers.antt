-- The group that an id finds is one of the graph.
use Rattle.channel_groups.proofs.HeldLemmas.{IsGroup-found}
use Rattle.drawn_nets.proofs.texts.texts_of.Goals as goal

pub text_of-requires : goal.text_of-requires
text_of-requires c =
    rw (c.members.ensures, c.switches.ensures)
    (IsGroup-found c.args.graph.now c.in_ok-groups.groups.groups _ c.group-group.result.now c.in_ok-groups.ensures.groups.each c.group-group.ensures)
