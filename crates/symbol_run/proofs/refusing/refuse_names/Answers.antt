-- The line of the refusal by names is written whole, or a part of it.
use Rattle.std.proofs.Common.{◌≡◌, Option, OnErr, OnOk, sym, ap, subst, ◌∙◌}
use Rattle.std.specs.Io.KnownBytes.{append_known}
use Rattle.ports.specs.Sending.{WritesPart}
use Rattle.ports.proofs.SendingLemmas.{append_known-nil}
use Rattle.printed_lines.specs.declared.faults.FaultCode.{FaultCode}
use Rattle.printed_lines.specs.declared.faults.FaultPlace.TheVariants.{Script}
use Rattle.run_ends.specs.declared.status.Status.TheVariants.{ScriptRefused}
use Rattle.run_ends.specs.Causes.{cause_line, plain_cause}
use Rattle.symbol_meaning.specs.Scripts.{NamedStop}
use Rattle.symbol_run.specs.Answers.{names_text}
use Rattle.symbol_run.proofs.AnswerLemmas.{refused_part, refused_whole}
use Rattle.symbol_run.proofs.refusing.refuse_names.Goals as goal

pub returns-in-Some-clause-ok : goal.returns-in-Some-clause-ok
returns-in-Some-clause-ok g c =
    subst (λ (stop : Option NamedStop). OnOk c.refuse_symbolic.result (g.S.Sink.written c.refuse_symbolic.new.out
    ≡ append_known (g.S.Sink.written c.args.out.now) (names_text stop))) (sym c.in-Some.is)
    (subst (λ (code : FaultCode). OnOk c.refuse_symbolic.result (g.S.Sink.written c.refuse_symbolic.new.out
    ≡ append_known (g.S.Sink.written c.args.out.now) (cause_line (Script c.in-Some.line) (plain_cause code)))) c.name_code-code.ensures
    (refused_whole (Script c.in-Some.line) (plain_cause c.name_code-code.result) ScriptRefused (g.S.Sink.written c.args.out.now)
    (g.S.Sink.written c.refuse_symbolic.new.out) c.refuse_symbolic.result c.refuse_symbolic.ensures.told))

pub returns-in-Some-clause-part : goal.returns-in-Some-clause-part
returns-in-Some-clause-part g c =
    subst (λ (stop : Option NamedStop). OnErr c.refuse_symbolic.result (WritesPart (g.S.Sink.written c.args.out.now) (g.S.Sink.written c.refuse_symbolic.new.out)
    (names_text stop))) (sym c.in-Some.is)
    (subst (λ (code : FaultCode). OnErr c.refuse_symbolic.result (WritesPart (g.S.Sink.written c.args.out.now) (g.S.Sink.written c.refuse_symbolic.new.out)
    (cause_line (Script c.in-Some.line) (plain_cause code)))) c.name_code-code.ensures
    (refused_part (Script c.in-Some.line) (plain_cause c.name_code-code.result) ScriptRefused (g.S.Sink.written c.args.out.now)
    (g.S.Sink.written c.refuse_symbolic.new.out) c.refuse_symbolic.result c.refuse_symbolic.ensures.told))

pub returns-in-None-clause-ok : goal.returns-in-None-clause-ok
returns-in-None-clause-ok g c =
    sym (append_known-nil (g.S.Sink.written c.args.out.now))
    ∙ ap (λ (stop : Option NamedStop). append_known (g.S.Sink.written c.args.out.now) (names_text stop)) (sym c.in-None.is)
