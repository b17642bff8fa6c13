-- The lines of the nodes that were passed are written.
use Rattle.std.proofs.Common.{◌≡◌}
use Rattle.ports.specs.Sending.{Sends}
use Rattle.state_cover.specs.Lines.{cover_text}
use Rattle.state_cover.proofs.TextLemmas.{text_from}
use Rattle.state_cover.proofs.writing.write_cover.Given as goal

abbrev pub invariant-loop-node : goal.invariant-loop-node
invariant-loop-node g l = record {
  sent : Sends (g.S.Sink.written l.fn.out) (g.S.Sink.written l.out) (cover_text l.circuit l.cover) (text_from l.circuit l.cover l.node);
  faults : g.S.Sink.faults l.out ≡ g.S.Sink.faults l.fn.out;
  refusals : g.S.Sink.refusals l.out ≡ g.S.Sink.refusals l.fn.out;
}
