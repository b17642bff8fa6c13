-- The part enters the list of one node more, or the node has its readers still.
use Rattle.std.proofs.Common.{◌≡◌, ◌<◌, true, false, get_or, length, take, refl, arith, rules}
use Rattle.std.specs.Result.{is_ok}
use Rattle.machine_parts.proofs.MakingLemmas.{at_on_ok}
use Rattle.part_steps.proofs.ReadersLemmas.{at_on_err, AreEachOnce-here, IsLastIf-here, ListsLast-none, ListsLast-more, ListsSome-failed, ListsSome-all}
use Rattle.part_steps.proofs.readers.list_at.Goals.{After-index-lists-node}
use Rattle.part_steps.proofs.readers.list_at.Goals as goal

pub loop-node-init : goal.loop-node-init
loop-node-init c = ListsLast-none c.args.k (take 0 c.args.nodes.now) c.args.lists.now c.requires.none c.requires.each refl

-- the next node has a list
next_inside : (c : After-index-lists-node) → get_or c.args.nodes.now c.loop-node.node-index 0 < length c.loop-node.lists
next_inside c = omega (arith, c.requires.below c.loop-node.node-index 0 c.loop-node-test.true, c.loop-node.auto.lists)

pub add-requires-clause-once : goal.add-requires-clause-once
add-requires-clause-once c =
    let inside = next_inside (goal.at.add-requires-clause-once c).After-index-lists-node in
    AreEachOnce-here c.loop-node.lists _ c.index-lists-node.result c.index-lists-node.result inside c.loop-node.invariant.each

pub add-requires-clause-last : goal.add-requires-clause-last
add-requires-clause-last c =
    let inside = next_inside (goal.at.add-requires-clause-last c).After-index-lists-node in
    IsLastIf-here c.loop-node.lists _ c.index-lists-node.result c.index-lists-node.result inside c.args.k (c.loop-node.invariant.last _)

pub returns-then-is_err-clause-some : goal.returns-then-is_err-clause-some
returns-then-is_err-clause-some c =
    let failed : is_ok c.add.result ≡ false = search rules in
    ListsSome-failed c.args.k c.args.nodes.now c.loop-node.node-index c.args.lists.now c.loop-node.lists c.index-lists-node.result c.add.new.list
    c.loop-node-test.true (next_inside (goal.at.returns-then-is_err-clause-some c).After-index-lists-node)
    (at_on_err _ c.add.result c.add.ensures.err failed) c.loop-node.invariant

pub loop-node-preserved : goal.loop-node-preserved
loop-node-preserved c =
    let ok : is_ok c.add.result ≡ true = search rules in
    ListsLast-more c.args.k c.args.nodes.now c.loop-node.node-index c.args.lists.now c.loop-node.lists c.index-lists-node.result c.add.new.list
    c.loop-node-test.true (next_inside (goal.at.loop-node-preserved c).After-index-lists-node) (at_on_ok _ c.add.result c.add.ensures.ok ok)
    c.loop-node.invariant

pub returns-clause-some : goal.returns-clause-some
returns-clause-some c =
    (ListsSome-all c.args.k c.args.nodes.now c.loop-node.node-index c.args.lists.now c.loop-node.lists (omega (arith, c.loop-node-test.false))
    c.loop-node.invariant).0

pub returns-clause-ok : goal.returns-clause-ok
returns-clause-ok c =
    (ListsSome-all c.args.k c.args.nodes.now c.loop-node.node-index c.args.lists.now c.loop-node.lists (omega (arith, c.loop-node-test.false))
    c.loop-node.invariant).1
