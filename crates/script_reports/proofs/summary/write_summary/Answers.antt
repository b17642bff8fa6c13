-- The line is the text that is written.
use Rattle.std.proofs.Common.{List, ℕ, ap, refl, ◌∙◌, ◌++◌}
use Rattle.std.specs.Io.KnownBytes.{append_known}
use Rattle.printed_lines.specs.Lines.{summary_line_of}
use Rattle.run_ends.specs.declared.status.Status.TheVariants as status
use Rattle.run_ends.specs.Answers.{plain_answer}
use Rattle.script_reports.proofs.summary.write_summary.Goals as goal

pub returns-in-Ok-clause-told : goal.returns-in-Ok-clause-told
returns-in-Ok-clause-told g c = record {
  answer = plain_answer status.Done (summary_line_of c.args.summary);
  right = refl;
  ended = refl;
  grew = c.in-Ok.ensures.ok ∙ ap (append_known (g.S.Sink.written c.args.out.now))
      (c.bytes.ensures ∙ c.summary_line.ensures.bytes ∙ ap (λ (before : List ℕ). before ++ summary_line_of c.args.summary) c.in_ok-line.ensures.bytes);
}
