-- No node and no switch has the level.
use Rattle.node_elimination.proofs.descent.is_used.Goals as goal

pub returns : goal.returns
returns c = λ none. record { nodes = c.has_node.ensures c.if-has_node.false; switches = c.has_switch.ensures none }
