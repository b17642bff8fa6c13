-- At a place, or at a node.
use Rattle.std.proofs.Common.{sym, ap, ◌∙◌}
use Rattle.edits_between.specs.Leading.{with_spot_of}
use Rattle.edits_between.proofs.LeadingLemmas.{undo_level, undo_place}
use Rattle.edits_between.proofs.leading.put.Goals as goal

pub returns-in-Place : goal.returns-in-Place
returns-in-Place c = record {
  before = undo_place c.args.graph.now c.put_place-place.new.graph c.args.target.now c.in-Place.place c.nodes-nodes.result c.put_place-place.result
      c.put_place-place.ensures.put c.put_place-place.ensures.before c.nodes-nodes.ensures;
  put = c.put_place-place.ensures.put ∙ ap (with_spot_of c.args.target.now c.args.graph.now) (sym c.in-Place.is);
}

pub returns-in-Node : goal.returns-in-Node
returns-in-Node c = record {
  before = undo_level c.args.graph.now c.put_level-level.new.graph c.args.target.now c.in-Node.node c.nodes-nodes.result c.put_level-level.result
      c.put_level-level.ensures.put c.put_level-level.ensures.before c.nodes-nodes.ensures;
  put = c.put_level-level.ensures.put ∙ ap (with_spot_of c.args.target.now c.args.graph.now) (sym c.in-Node.is);
}
