use Rattle.std.proofs.Common.{true, false, ◌∙◌}
use Rattle.spice_read.proofs.FrameLemmas.{ok-mapped, own-node, port-node}
use Rattle.spice_read.proofs.frame.+node_in.Goals as goal

pub returns-in-Some : goal.returns-in-Some
returns-in-Some t c =
    ok-mapped c.node_in.result (λ node. port-node c.args.deck.now c.args.calls.now c.call-item.result c.args.name.now c.in-Some.word.now node.items
    c.in-len1-up.len_at_least c.call-item.is c.in-Some.ensures) c.node_in.ensures

pub returns-in_ok-to_vec-in-None : goal.returns-in_ok-to_vec-in-None
returns-in_ok-to_vec-in-None t c =
    own-node c.args.deck.now c.args.calls.now c.call-item.result c.args.name.now c.in_ok-to_vec-in-None.field-0.items true
    c.in-len1-up.len_at_least c.call-item.is c.in-None.ensures c.if-is_fixed.ensures
    (c.in_ok-to_vec-in-None.ensures.items_if_clones_equal (λ _ _ same. same) ∙ c.fixed_node-in-None.ensures)

pub returns-in-None-2 : goal.returns-in-None-2
returns-in-None-2 t c =
    ok-mapped c.below.result (λ node. own-node c.args.deck.now c.args.calls.now c.call-item.result c.args.name.now node.items false
    c.in-len1-up.len_at_least c.call-item.is c.in-None.ensures c.if-is_fixed.ensures) c.below.ensures
