-- One node more; what stood in the list stays.
use Rattle.std.proofs.Common.{◌≡◌, ◌<◌, sym, subst, arith}
use Rattle.switch_paths.specs.Graphs.{level_of, nodes}
use Rattle.edits_between.specs.declared.differing.Spot.TheVariants.{Node}
use Rattle.edits_between.proofs.NotingLemmas.{noted_on}
use Rattle.edits_between.proofs.differing.note_nodes.Goals as goal

pub loop-node-init : goal.loop-node-init
loop-node-init c = record { kept = λ spot held. held; noted = λ k low. absurd (omega (arith, low)) }

pub are_levelled_alike-alike-requires : goal.are_levelled_alike-alike-requires
are_levelled_alike-alike-requires c =
    let inside : c.loop-node.node < nodes c.args.one.now = omega (arith, c.loop-node-test.true, c.nodes-node-end.ensures) in
    record { one = inside; other = subst (λ n. c.loop-node.node < n) (sym c.requires.nodes_are) inside }

pub loop-node-preserved : goal.loop-node-preserved
loop-node-preserved c = record {
  kept = λ spot held. c.in_ok-note.ensures.kept spot (c.loop-node.invariant.kept spot held);
  noted = noted_on (λ node. level_of c.args.one.now node ≡ level_of c.args.other.now node) Node c.loop-node.spots.items c.note.new.spots.items
      c.loop-node.node c.are_levelled_alike-alike.result c.loop-node.invariant.noted c.in_ok-note.ensures.kept c.in_ok-note.ensures.noted
      c.are_levelled_alike-alike.ensures;
}

pub returns-clause-kept : goal.returns-clause-kept
returns-clause-kept c = c.loop-node.invariant.kept

pub returns-clause-noted : goal.returns-clause-noted
returns-clause-noted c = λ node inside. c.loop-node.invariant.noted node (omega (arith, inside, c.loop-node-test.false, c.nodes-node-end.ensures))
