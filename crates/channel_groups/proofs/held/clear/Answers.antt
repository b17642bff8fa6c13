-- One node more is cleared.
use Rattle.std.proofs.Common.{◌≡◌, ◌<◌, ℕ, length, take, ◌∙◌, arith, rules}
use Rattle.std.proofs.lemmas.List.{length-set, take_all}
use Rattle.group_meaning.specs.Groups.{Group}
use Rattle.channel_groups.proofs.WritingLemmas.{Clears-none, Clears-more}
use Rattle.channel_groups.proofs.held.clear.Goals as goal

pub loop-node-init : goal.loop-node-init
loop-node-init g c = record {
  classes = Clears-none ℕ c.args.nodes.now c.args.held.now.classes.items;
  slots = Clears-none Group c.args.nodes.now c.args.held.now.slots.items;
  classes_count = search rules;
  slots_count = search rules;
  steps = omega arith;
}

pub loop-node-preserved : goal.loop-node-preserved
loop-node-preserved g c =
    let so_far = c.loop-node.invariant in
    let i = c.loop-node.node-index in
    let inside : i < length c.args.nodes.now = c.loop-node-test.true in
    let below = c.requires.classes i 0 inside in
    record {
      classes = Clears-more ℕ c.args.nodes.now i c.args.held.now.classes.items c.loop-node.held.classes.items inside
          (omega (arith, below, so_far.classes_count)) so_far.classes;
      slots =
          rw c.set_slot.ensures
          (Clears-more Group c.args.nodes.now i c.args.held.now.slots.items c.loop-node.held.slots.items inside
          (omega (arith, below, so_far.slots_count, c.requires.counted)) so_far.slots);
      classes_count = length-set c.loop-node.held.classes.items _ _ ∙ so_far.classes_count;
      slots_count = rw c.set_slot.ensures (length-set c.loop-node.held.slots.items _ _ ∙ so_far.slots_count);
      steps = omega (arith, so_far.steps, c.tick.ensures);
    }

pub returns : goal.returns
returns g c =
    let all : take c.loop-node.node-index c.args.nodes.now ≡ c.args.nodes.now = take_all c.loop-node.node-index c.args.nodes.now (omega arith) in
    let so_far = c.loop-node.invariant in
    record {
      classes = rw all at so_far.classes;
      slots = rw all at so_far.slots;
      classes_count = so_far.classes_count;
      slots_count = so_far.slots_count;
      steps = omega (arith, so_far.steps);
    }
