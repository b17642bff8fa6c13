-- Each line that is sent takes the text one node on; at each exit what was sent is a part of it.
use Rattle.std.proofs.Common.{◌≡◌, ◌+◌, ◌<◌, ◌∙◌, ap, arith}
use Rattle.ports.proofs.ResultLemmas.{at_err}
use Rattle.ports.proofs.SendingLemmas.{last_part, sends_more, sends_part}
use Rattle.switch_paths.specs.Graphs.{nodes}
use Rattle.state_cover.specs.Lines.{cover_text}
use Rattle.state_cover.proofs.TextLemmas.{text_from, line_is, sends_line, ends_ok, ends_part, answered}
use Rattle.state_cover.proofs.writing.write_cover.Goals as goal

pub returns-in_err-map_err-clause-part : goal.returns-in_err-map_err-clause-part
returns-in_err-map_err-clause-part g c = at_err c.from_residual.result (last_part _ _ _ _ c.loop-node.invariant.sent)

pub returns-in_err-send-clause-part : goal.returns-in_err-send-clause-part
returns-in_err-send-clause-part g c =
    let inside : c.loop-node.node < nodes c.args.circuit.now.graph =
    omega (arith, c.loop-node-test.true, c.nodes-node-end.ensures, ap nodes c.graph.ensures.value) in
    let line = line_is c.args.circuit.now c.args.cover.now c.loop-node.node c.name_of.result.now c.had.result c.deref.result.now c.name_of.ensures.name
    c.had.ensures (c.deref.ensures.value ∙ answered c.put_node_line.result c.in_ok-map_err.ensures.variant c.put_node_line.ensures) in
    at_err c.from_residual-in_err-send.result
    (sends_part (g.S.Sink.written c.args.out.now) (g.S.Sink.written c.loop-node.out) (g.S.Sink.written c.send.new.out)
    (cover_text c.args.circuit.now c.args.cover.now) c.deref.result.now (text_from c.args.circuit.now c.args.cover.now (c.loop-node.node + 1))
    (sends_line _ _ c.args.circuit.now c.args.cover.now c.loop-node.node c.deref.result.now inside line c.loop-node.invariant.sent)
    c.in_err-send.ensures.part)

pub loop-node-preserved : goal.loop-node-preserved
loop-node-preserved g c =
    let inside : c.loop-node.node < nodes c.args.circuit.now.graph =
    omega (arith, c.loop-node-test.true, c.nodes-node-end.ensures, ap nodes c.graph.ensures.value) in
    let line = line_is c.args.circuit.now c.args.cover.now c.loop-node.node c.name_of.result.now c.had.result c.deref.result.now c.name_of.ensures.name
    c.had.ensures (c.deref.ensures.value ∙ answered c.put_node_line.result c.in_ok-map_err.ensures.variant c.put_node_line.ensures) in
    record {
      sent = sends_more (g.S.Sink.written c.args.out.now) (g.S.Sink.written c.loop-node.out) (g.S.Sink.written c.send.new.out)
          (cover_text c.args.circuit.now c.args.cover.now) c.deref.result.now (text_from c.args.circuit.now c.args.cover.now (c.loop-node.node + 1))
          (sends_line _ _ c.args.circuit.now c.args.cover.now c.loop-node.node c.deref.result.now inside line c.loop-node.invariant.sent)
          c.in_ok-send.ensures.ok;
      faults = c.in_ok-send.ensures.cause ∙ c.loop-node.invariant.faults;
      refusals = c.in_ok-send.ensures.memory ∙ c.loop-node.invariant.refusals;
    }

pub returns-in_err-map_err-2-clause-part : goal.returns-in_err-map_err-2-clause-part
returns-in_err-map_err-2-clause-part g c = at_err c.from_residual-in_err-map_err-2.result (last_part _ _ _ _ c.loop-node.invariant.sent)

pub returns-clause-text : goal.returns-clause-text
returns-clause-text g c =
    let line = c.deref-2.ensures.value ∙ answered c.put_counts_line.result c.in_ok-map_err-2.ensures.variant c.put_counts_line.ensures in
    ends_ok c.send-2.result _ (g.S.Sink.written c.loop-node.out) _ c.args.circuit.now c.args.cover.now c.loop-node.node c.deref-2.result.now
    (omega (arith, c.loop-node-test.false, c.nodes-node-end.ensures, ap nodes c.graph.ensures.value)) line c.loop-node.invariant.sent c.send-2.ensures.ok

pub returns-clause-part : goal.returns-clause-part
returns-clause-part g c =
    let line = c.deref-2.ensures.value ∙ answered c.put_counts_line.result c.in_ok-map_err-2.ensures.variant c.put_counts_line.ensures in
    ends_part c.send-2.result _ (g.S.Sink.written c.loop-node.out) _ c.args.circuit.now c.args.cover.now c.loop-node.node c.deref-2.result.now
    (omega (arith, c.loop-node-test.false, c.nodes-node-end.ensures, ap nodes c.graph.ensures.value)) line c.loop-node.invariant.sent c.send-2.ensures.part
