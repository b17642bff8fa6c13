-- The piece is what lies between the two places.
use Rattle.std.proofs.Common.{subst}
use Rattle.ports.proofs.ResultLemmas.{at_err}
use Rattle.ports.proofs.SendingLemmas.{part_none}
use Rattle.ports.specs.Sending.{WritesPart}
use Rattle.linear_code.specs.TextPlaces.{text_from}
use Rattle.circuit_reports.proofs.PieceLemmas.{part_piece}
use Rattle.circuit_reports.proofs.compile.send_some.Goals as goal

pub returns-in_err-more-clause-part : goal.returns-in_err-more-clause-part
returns-in_err-more-clause-part g c =
    at_err c.from_residual.result (part_none (g.S.Sink.written c.args.out.now) (text_from c.args.listing.now c.args.place.now))

pub returns-clause-part : goal.returns-clause-part
returns-clause-part g c =
    part_piece c.args.listing.now c.args.place.now c.write_some.new.place (g.S.Sink.written c.args.out.now) (g.S.Sink.written c.send.new.out)
    c.write_some.new.out.items c.new-piece.result.items c.in_ok-more.ensures.ok c.new-piece.ensures.items
    (subst (WritesPart (g.S.Sink.written c.args.out.now) (g.S.Sink.written c.send.new.out)) c.deref.ensures.value c.in-Err.ensures.part)
