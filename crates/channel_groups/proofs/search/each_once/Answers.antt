-- One node more.
use Rattle.std.proofs.Common.{◌≡◌, [], take, arith}
use Rattle.std.proofs.lemmas.List.{take_all}
use Rattle.channel_groups.proofs.SearchLemmas.{Notes-none, Notes-more}
use Rattle.channel_groups.proofs.search.each_once.Goals as goal

pub loop-node-init : goal.loop-node-init
loop-node-init c = record { notes = rw c.new-set.ensures.empty (Notes-none c.args.nodes.now []); unique = c.new-set.ensures.unique }

pub loop-node-preserved : goal.loop-node-preserved
loop-node-preserved c = record {
  notes = Notes-more c.args.nodes.now c.loop-node.node-index [] c.loop-node.set.keys c.insert.new.self.keys
      c.loop-node-test.true c.in_ok-insert.ensures.keys c.loop-node.invariant.notes;
  unique = c.in_ok-insert.ensures.unique;
}

pub returns : goal.returns
returns c =
    let all : take c.loop-node.node-index c.args.nodes.now ≡ c.args.nodes.now = take_all c.loop-node.node-index c.args.nodes.now (omega arith) in
    record { notes = rw all at c.loop-node.invariant.notes; unique = c.loop-node.invariant.unique }
