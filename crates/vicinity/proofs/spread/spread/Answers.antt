-- One look more.
use Rattle.std.proofs.Common.{◌+◌, ◌≤◌, false, length, ap, ◌∙◌, arith}
use Rattle.std.proofs.lemmas.List.{length-set}
use Rattle.machine_parts.proofs.SetMarks.{marked-cleared_was}
use Rattle.vicinity.specs.Spreading.{owed, cost_at}
use Rattle.vicinity.proofs.SpreadLemmas.{owed-popped, rest_after}
use Rattle.vicinity.proofs.spread.spread.Given.{Over}
use Rattle.vicinity.proofs.spread.spread.Goals.{After-spread_from}
use Rattle.vicinity.proofs.spread.spread.Goals as goal

-- a look pays what it costs
paid : (g : Over) (c : After-spread_from g) →
    owed c.args.by.now.lists.now c.args.by.now.awake.now.inside c.spread_from.new.table c.spread_from.new.left.inside
    + cost_at c.args.by.now.lists.now c.in-Some.node
    ≤ owed c.args.by.now.lists.now c.args.by.now.awake.now.inside c.loop-node.table c.loop-node.left.inside
paid g c =
    let by = c.args.by.now in
    let popped = c.in-Some.ensures.inside in
    let left = c.loop-node.left.inside in
    let node = c.in-Some.node in
    let less = owed-popped by.lists.now by.awake.now.inside c.loop-node.table left node (c.loop-node.invariant.within node c.in-Some.ensures.was)
    c.in-Some.ensures.was in
    let same = ap (owed by.lists.now by.awake.now.inside c.loop-node.table) popped in
    omega (arith, less, same, c.spread_from.ensures.owed)

pub spread_from-requires-clause-goes_on : goal.spread_from-requires-clause-goes_on
spread_from-requires-clause-goes_on g c =
    let so_far = c.loop-node.invariant in
    let left = c.loop-node.left.inside in
    let popped = c.in-Some.ensures.inside in
    record {
      lefts = ap (λ marks. length marks) popped ∙ (length-set left c.in-Some.node false ∙ (so_far.left ∙ c.requires.goes_on.lefts));
      entries = so_far.count ∙ c.requires.goes_on.entries;
      ways = so_far.ways;
      within = λ n is. so_far.within n (marked-cleared_was left c.in-Some.node n (rw popped at is));
    }

pub loop-node-smaller : goal.loop-node-smaller
loop-node-smaller g c = omega (arith, paid g (goal.at.loop-node-smaller g c).After-spread_from)

pub loop-node-preserved : goal.loop-node-preserved
loop-node-preserved g c =
    let by = c.args.by.now in
    let so_far = c.loop-node.invariant in
    let raises = c.spread_from.ensures.raises in
    let left = c.loop-node.left.inside in
    let node = c.in-Some.node in
    record {
      count = raises.count ∙ so_far.count;
      left = raises.left_count ∙ (ap (λ marks. length marks) c.in-Some.ensures.inside ∙ (length-set left node false ∙ so_far.left));
      grows = λ n. omega (arith, raises.grows n, so_far.grows n);
      ways = raises.ways;
      within = raises.within;
      rest = rest_after by.pass by.graph.now by.state.now by.awake.now.inside by.floor.now c.loop-node.table c.spread_from.new.table
          left c.pop.new.self.inside c.spread_from.new.left.inside node c.in-Some.ensures.inside raises c.spread_from.ensures.spread so_far.rest;
      steps = omega (arith, so_far.steps, c.spread_from.ensures.steps, paid g (goal.at.loop-node-preserved g c).After-spread_from);
    }
