-- One node's group more.
use Rattle.std.proofs.Common.{◌≡◌, ℕ, ◌+◌, take, arith}
use Rattle.std.proofs.lemmas.List.{take_all}
use Rattle.std.proofs.lemmas.List.Sums.{sum_by_more, sum_by-take-le}
use Rattle.channel_groups.specs.Grouping.{group_at_node}
use Rattle.channel_groups.specs.Writing.{members_in}
use Rattle.channel_groups.proofs.StoreLemmas.{AreTouched-none, AreTouched-more}
use Rattle.channel_groups.proofs.search.members_touched.Goals as goal

pub loop-node-init : goal.loop-node-init
loop-node-init g c = record {
  touched = rw c.new-gone.ensures.empty (AreTouched-none c.args.held.now.classes.items c.args.held.now.slots.items c.args.before.now);
  unique = c.new-gone.ensures.unique;
  steps = omega arith;
}

pub loop-node-preserved : goal.loop-node-preserved
loop-node-preserved g c =
    let classes = c.args.held.now.classes.items in
    let slots = c.args.held.now.slots.items in
    let before = c.args.before.now in
    let i = c.loop-node.node-index in
    let so_far = c.loop-node.invariant in
    let cost = sum_by_more (λ (node : ℕ). members_in (group_at_node classes slots node)) before i 0 c.loop-node-test.true in
    let one = c.in_ok-add_touched.ensures.steps in
    record {
      touched = AreTouched-more classes slots before i c.loop-node.gone.keys
          c.add_touched.new.gone.keys c.requires c.loop-node-test.true c.in_ok-add_touched.ensures.adds so_far.touched;
      unique = c.in_ok-add_touched.ensures.unique so_far.unique;
      steps = omega (arith, cost, one, so_far.steps);
    }

pub returns : goal.returns
returns g c =
    let all : take c.loop-node.node-index c.args.before.now ≡ c.args.before.now = take_all c.loop-node.node-index c.args.before.now (omega arith) in
    let so_far = c.loop-node.invariant in
    record { touched = rw all at so_far.touched; unique = so_far.unique; steps = rw all at so_far.steps }

pub returns-in_err-add_touched-clause-steps : goal.returns-in_err-add_touched-clause-steps
returns-in_err-add_touched-clause-steps g c =
    let before = c.args.before.now in
    let i = c.loop-node.node-index in
    let cost : ℕ → ℕ = λ node. members_in (group_at_node c.args.held.now.classes.items c.args.held.now.slots.items node) in
    let so_far = c.loop-node.invariant.steps in
    let one = c.add_touched.ensures.steps in
    omega (arith, sum_by_more cost before i 0 c.loop-node-test.true, sum_by-take-le cost before (i + 1), one, so_far)
