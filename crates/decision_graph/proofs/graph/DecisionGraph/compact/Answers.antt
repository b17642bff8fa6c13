-- One root more was copied.
use Rattle.std.proofs.Common.{◌≡◌, ◌++◌, length, take, drop, get_or, ◌∙◌, arith}
use Rattle.std.proofs.lemmas.List.{take_at, take_more}
use Rattle.decision_graph.proofs.MovingLemmas.{AreFound-push}
use Rattle.decision_graph.proofs.graph.DecisionGraph.compact.Goals as goal

pub loop-root-preserved : goal.loop-root-preserved
loop-root-preserved c =
    let loop = c.loop-root in
    let root = get_or c.args.roots.now loop.root-index (record { place = 0 }) in
    let all : take loop.moved.len (c.copy.new.moved ++ drop (length c.copy.new.moved) loop.moved.items) ≡ c.copy.new.moved =
    take_at c.copy.new.moved (drop (length c.copy.new.moved) loop.moved.items) loop.moved.len (omega arith) in
    record {
      shape = record { variables = c.copy.ensures.shape.variables ∙ loop.invariant.shape.variables; most = c.copy.ensures.shape.most ∙ loop.invariant.shape.most };
      moved = rw all c.copy.ensures.moved;
      found = rw (take_more c.args.roots.now loop.root-index (record { place = 0 }) (omega arith), c.in_ok-push.ensures)
          (AreFound-push c.args.self.now.variables c.args.self.now.vertices loop.graph.vertices c.copy.new.graph.vertices (take loop.root-index c.args.roots.now)
          loop.found.items root c.in_ok-function.function c.copy.ensures.extends loop.invariant.found c.in_ok-function.ensures.copied);
    }
