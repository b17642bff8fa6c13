-- One node more.
use Rattle.std.proofs.Common.{◌∙◌, take, arith}
use Rattle.std.proofs.lemmas.List.{take_more, take_all}
use Rattle.std.proofs.lemmas.List.Elements.{All-push, All-weaker}
use Rattle.switch_paths.specs.Spread.{rail_of}
use Rattle.why_path.specs.Search.{IsRootIn}
use Rattle.why_path.proofs.SearchLemmas.{IsRootIn-kept}
use Rattle.why_path.proofs.search.add_roots.Goals as goal

pub loop-node-preserved : goal.loop-node-preserved
loop-node-preserved c =
    let one = c.loop-node.invariant.one in
    let rail = rail_of c.args.progress.now.one in
    let g = c.args.graph.now in
    let state = c.args.state.now in
    let best = c.args.best.now in
    let level = c.args.strength in
    let old = c.loop-node.progress.found.items in
    let new = c.add_root.new.progress.found.items in
    let kept = c.in_ok-add_root.ensures.kept in
    record {
      one = c.in_ok-add_root.ensures.one ∙ one;
      sound = rw one at c.in_ok-add_root.ensures.sound;
      roots =
          rw (take_more c.args.roots.now c.loop-node.node-index 0 (omega arith))
          (All-push (IsRootIn rail g state best level new) (take c.loop-node.node-index c.args.roots.now) _
          (All-weaker (IsRootIn rail g state best level old) (IsRootIn rail g state best level new)
          (λ node was. IsRootIn-kept rail g state best kept was) (take c.loop-node.node-index c.args.roots.now)
          c.loop-node.invariant.roots)
          (rw one at c.in_ok-add_root.ensures.root));
    }

pub returns-clause-roots : goal.returns-clause-roots
returns-clause-roots c =
    rw (take_all c.loop-node.node-index c.args.roots.now (omega arith)) at c.loop-node.invariant.roots
