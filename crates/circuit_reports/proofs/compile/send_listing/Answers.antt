-- What was sent so far, and what is left of the text, are the text.
use Rattle.std.proofs.Common.{◌∙◌}
use Rattle.std.proofs.lemmas.Result.{err_from_is_err_and}
use Rattle.circuit_reports.proofs.PieceLemmas.{sends_on, stopped, all_sent}
use Rattle.circuit_reports.proofs.compile.send_listing.Goals as goal

pub returns-in_err-more-clause-told : goal.returns-in_err-more-clause-told
returns-in_err-more-clause-told g c =
    let p = err_from_is_err_and c.from_residual.result c.from_residual.ensures.1 in
    rw p.1 (stopped c.args.listing.now (g.S.Sink.written c.args.out.now) (g.S.Sink.written c.loop-more.out) (g.S.Sink.written c.send_some.new.out)
    c.loop-more.place c.loop-more.invariant.sends c.in_err-more.ensures.part)

pub loop-more-preserved : goal.loop-more-preserved
loop-more-preserved g c = record {
  there = c.in_ok-more.ensures.sent.place;
  sends = sends_on c.args.listing.now (g.S.Sink.written c.args.out.now) (g.S.Sink.written c.loop-more.out) (g.S.Sink.written c.send_some.new.out)
      c.loop-more.place c.send_some.new.place c.in_ok-more.more c.loop-more.invariant.sends c.in_ok-more.ensures.sent;
  at_end = c.in_ok-more.ensures.sent.none;
  faults = c.in_ok-more.ensures.write ∙ c.loop-more.invariant.faults;
  refusals = c.in_ok-more.ensures.refused ∙ c.loop-more.invariant.refusals;
}

pub returns-clause-told : goal.returns-clause-told
returns-clause-told g c =
    all_sent c.args.listing.now (g.S.Sink.written c.args.out.now) (g.S.Sink.written c.loop-more.out) c.loop-more.place c.loop-more.invariant.sends
    (c.loop-more.invariant.at_end c.loop-more-test.false)
