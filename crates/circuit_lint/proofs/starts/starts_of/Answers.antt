-- The direct switches, and then the starts of groups.
use Rattle.circuit_lint.proofs.StartLemmas.{AreStarts-all}
use Rattle.circuit_lint.proofs.starts.starts_of.Goals as goal

pub returns-clause-starts : goal.returns-clause-starts
returns-clause-starts c =
    AreStarts-all c.args.graph.now c.args.distance.now c.args.groups.now.groups c.in_ok-starts.starts.items c.add_starts.new.starts.items c.ascending.result.items
    c.in_ok-starts.ensures.only c.in_ok-starts.ensures.all c.in_ok-add_starts.ensures c.ascending.ensures
