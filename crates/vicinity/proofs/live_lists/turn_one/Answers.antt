-- The switch turns at both ends, or nothing does.
use Rattle.std.proofs.Common.{sym, ◌∙◌}
use Rattle.vicinity.proofs.LiveListsLemmas.{TurnsGate-both}
use Rattle.vicinity.proofs.live_lists.turn_one.Goals as goal

pub returns : goal.returns
returns c =
    TurnsGate-both c.args.graph.now c.args.gate c.args.was c.args.now c.args.place c.in-Some.switch (sym c.switch_there.ensures.value ∙ c.in-Some.is)
    c.if-switch-gate.false c.conducts-live.result c.conducts-live.ensures c.args.ends.now c.turn_at_node.new.ends c.turn_at_node-2.new.ends
    c.turn_at_node.ensures c.turn_at_node-2.ensures
