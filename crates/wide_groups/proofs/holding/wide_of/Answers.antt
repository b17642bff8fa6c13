-- The groups of the confined graph are held.
use Rattle.std.proofs.Common.{sym, ◌∙◌}
use Rattle.wide_groups.proofs.HoldingLemmas.{HoldsMembers-from}
use Rattle.wide_groups.proofs.holding.wide_of.Goals as goal

pub of-requires : goal.of-requires
of-requires c = c.requires.counted ∙ sym c.in_ok-held.ensures.count

pub returns : goal.returns
returns c =
    HoldsMembers-from c.args.large c.args.graph.now c.in_ok-held.held c.args.state.now c.args.members.now.inside c.in_ok-wide.wide
    c.in_ok-wide.ensures.large c.in_ok-wide.ensures.graph c.requires.counted c.graphs_are_wired.ensures c.in_ok-held.ensures c.in_ok-wide.ensures.lists c.in_ok-wide.ensures.touched
