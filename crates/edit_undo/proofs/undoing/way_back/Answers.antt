-- The way back leads to the graph as it is.
use Rattle.edit_undo.proofs.UndoingLemmas.{undone_again, back_in_place}
use Rattle.edit_undo.proofs.undoing.way_back.Goals as goal

pub returns-clause-same : goal.returns-clause-same
returns-clause-same c =
    undone_again c.args.graph.now c.args.change.now _ c.requires c.nodes.ensures c.place_before.ensures c.level_before.ensures

pub returns-clause-nodes : goal.returns-clause-nodes
returns-clause-nodes c =
    back_in_place c.args.graph.now c.args.change.now _ c.requires c.nodes.ensures c.place_before.ensures c.level_before.ensures
