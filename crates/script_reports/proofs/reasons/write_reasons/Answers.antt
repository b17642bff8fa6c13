-- The two lines are the text that is written.
use Rattle.std.proofs.Common.{inr, [], refl, ap, subst, ◌∙◌}
use Rattle.std.specs.Io.KnownBytes.{append_known}
use Rattle.ports.specs.Sending.{WritesPart}
use Rattle.run_ends.specs.declared.status.Status.TheVariants as status
use Rattle.script_reports.proofs.reasons.write_reasons.Goals as goal

pub returns-in-Ok-clause-told : goal.returns-in-Ok-clause-told
returns-in-Ok-clause-told g c = record {
  answer = record { status = status.Done; text = c.in_ok-text.text.items; texts = [] };
  right = (refl, c.in_ok-text.ensures);
  ended = refl;
  grew = c.in-Ok.ensures.ok ∙ ap (append_known (g.S.Sink.written c.args.out.now)) c.deref.ensures.value;
}

pub returns-clause-told : goal.returns-clause-told
returns-clause-told g c =
    inr (record {
      answer = record { status = status.Done; text = c.in_ok-text.text.items; texts = [] };
      right = (refl, c.in_ok-text.ensures);
      part = subst (WritesPart (g.S.Sink.written c.args.out.now) (g.S.Sink.written c.send.new.out)) c.deref.ensures.value c.in-Err.ensures.part;
    })
