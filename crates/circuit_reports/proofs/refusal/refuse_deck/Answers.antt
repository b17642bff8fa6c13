-- Where the sink stops, a part of the refusal's line was written.
use Rattle.std.proofs.Common.{inr, refl, subst, ◌∙◌}
use Rattle.ports.specs.Sending.{WritesPart}
use Rattle.spice_cards.specs.Reports.{deck_line_of}
use Rattle.run_ends.specs.declared.status.Status.TheVariants as status
use Rattle.run_ends.specs.Answers.{plain_answer}
use Rattle.circuit_reports.proofs.refusal.refuse_deck.Goals as goal

pub returns-clause-told : goal.returns-clause-told
returns-clause-told g c = inr (record {
  answer = plain_answer status.NetRefused (deck_line_of c.args.line c.args.what);
  right = refl;
  part = subst (WritesPart (g.S.Sink.written c.args.out.now) (g.S.Sink.written c.send.new.out))
      (c.deref.ensures.value ∙ c.in_ok-text.ensures) c.in-Err.ensures.part;
})
