-- One node more is noted.
use Rattle.std.proofs.Common.{◌≡◌, take, arith}
use Rattle.std.proofs.lemmas.List.{take_all}
use Rattle.channel_groups.proofs.SearchLemmas.{Notes-none, Notes-more}
use Rattle.channel_groups.proofs.search.note.Goals as goal

pub loop-node-init : goal.loop-node-init
loop-node-init g c = record { notes = Notes-none c.args.nodes.now c.args.seen.now.keys; unique = λ distinct. distinct; steps = omega arith }

pub loop-node-preserved : goal.loop-node-preserved
loop-node-preserved g c = record {
  notes = Notes-more c.args.nodes.now c.loop-node.node-index c.args.seen.now.keys c.loop-node.seen.keys c.insert.new.self.keys
      c.loop-node-test.true c.in_ok-insert.ensures.keys c.loop-node.invariant.notes;
  unique = λ distinct. c.in_ok-insert.ensures.unique;
  steps = omega (arith, c.loop-node.invariant.steps, c.tick.ensures);
}

pub returns : goal.returns
returns g c =
    let all : take c.loop-node.node-index c.args.nodes.now ≡ c.args.nodes.now = take_all c.loop-node.node-index c.args.nodes.now (omega arith) in
    let notes = c.loop-node.invariant.notes in
    record { notes = rw all at notes; unique = c.loop-node.invariant.unique; steps = omega (arith, c.loop-node.invariant.steps); most = omega (arith, c.loop-node.invariant.steps) }
