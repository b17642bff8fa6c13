-- The line of the refusal is written whole, or a part of it.
use Rattle.std.proofs.Common.{◌≡◌, [], Option, OnErr, OnOk, sym, subst}
use Rattle.std.specs.Option.{option_map_or}
use Rattle.std.specs.Io.KnownBytes.{append_known}
use Rattle.ports.specs.Sending.{WritesPart}
use Rattle.printed_lines.specs.declared.faults.FaultPlace.TheVariants.{Script}
use Rattle.run_ends.specs.declared.status.Status.TheVariants.{ScriptRefused}
use Rattle.run_ends.specs.Causes.{Cause, cause_line, plain_cause}
use Rattle.script_meaning.specs.declared.halt.Halt.{Halt}
use Rattle.symbol_run.specs.Answers.{cause_text, HasEnding}
use Rattle.symbol_run.proofs.AnswerLemmas.{refused_part, refused_whole}
use Rattle.symbol_run.proofs.refusing.refuse_halt.Goals as goal

pub size_cause-code-requires : goal.size_cause-code-requires
size_cause-code-requires g c = subst (HasEnding c.args.circuit.now) c.in-TooLarge.is c.requires

pub returns-in-End-clause-ok : goal.returns-in-End-clause-ok
returns-in-End-clause-ok g c =
    subst (λ (halt : Halt). OnOk c.refuse_names.result (g.S.Sink.written c.refuse_names.new.out
    ≡ append_known (g.S.Sink.written c.args.out.now) (cause_text c.args.circuit.now halt c.args.stop))) (sym c.in-End.is)
    c.refuse_names.ensures.ok

pub returns-in-End-clause-part : goal.returns-in-End-clause-part
returns-in-End-clause-part g c =
    subst (λ (halt : Halt). OnErr c.refuse_names.result (WritesPart (g.S.Sink.written c.args.out.now) (g.S.Sink.written c.refuse_names.new.out)
    (cause_text c.args.circuit.now halt c.args.stop))) (sym c.in-End.is)
    c.refuse_names.ensures.part

pub returns-in-Refused-clause-ok : goal.returns-in-Refused-clause-ok
returns-in-Refused-clause-ok g c =
    subst (λ (halt : Halt). OnOk c.refuse_symbolic.result (g.S.Sink.written c.refuse_symbolic.new.out
    ≡ append_known (g.S.Sink.written c.args.out.now) (cause_text c.args.circuit.now halt c.args.stop))) (sym c.in-Refused.is)
    (refused_whole (Script c.in-Refused.line) (plain_cause c.in-Refused.code) ScriptRefused (g.S.Sink.written c.args.out.now)
    (g.S.Sink.written c.refuse_symbolic.new.out) c.refuse_symbolic.result c.refuse_symbolic.ensures.told)

pub returns-in-Refused-clause-part : goal.returns-in-Refused-clause-part
returns-in-Refused-clause-part g c =
    subst (λ (halt : Halt). OnErr c.refuse_symbolic.result (WritesPart (g.S.Sink.written c.args.out.now) (g.S.Sink.written c.refuse_symbolic.new.out)
    (cause_text c.args.circuit.now halt c.args.stop))) (sym c.in-Refused.is)
    (refused_part (Script c.in-Refused.line) (plain_cause c.in-Refused.code) ScriptRefused (g.S.Sink.written c.args.out.now)
    (g.S.Sink.written c.refuse_symbolic.new.out) c.refuse_symbolic.result c.refuse_symbolic.ensures.told)

pub returns-in-TooLarge-clause-ok : goal.returns-in-TooLarge-clause-ok
returns-in-TooLarge-clause-ok g c =
    subst (λ (halt : Halt). OnOk c.refuse_symbolic_named.result (g.S.Sink.written c.refuse_symbolic_named.new.out
    ≡ append_known (g.S.Sink.written c.args.out.now) (cause_text c.args.circuit.now halt c.args.stop))) (sym c.in-TooLarge.is)
    (subst (λ (cause : Option Cause). OnOk c.refuse_symbolic_named.result (g.S.Sink.written c.refuse_symbolic_named.new.out
    ≡ append_known (g.S.Sink.written c.args.out.now) (option_map_or (cause_line (Script c.in-TooLarge.line)) cause []))) (sym c.size_cause-code.ensures)
    (refused_whole (Script c.in-TooLarge.line) _ ScriptRefused (g.S.Sink.written c.args.out.now) (g.S.Sink.written c.refuse_symbolic_named.new.out)
    c.refuse_symbolic_named.result c.refuse_symbolic_named.ensures.told))

pub returns-in-TooLarge-clause-part : goal.returns-in-TooLarge-clause-part
returns-in-TooLarge-clause-part g c =
    subst (λ (halt : Halt). OnErr c.refuse_symbolic_named.result (WritesPart (g.S.Sink.written c.args.out.now) (g.S.Sink.written c.refuse_symbolic_named.new.out)
    (cause_text c.args.circuit.now halt c.args.stop))) (sym c.in-TooLarge.is)
    (subst (λ (cause : Option Cause). OnErr c.refuse_symbolic_named.result (WritesPart (g.S.Sink.written c.args.out.now) (g.S.Sink.written c.refuse_symbolic_named.new.out)
    (option_map_or (cause_line (Script c.in-TooLarge.line)) cause []))) (sym c.size_cause-code.ensures)
    (refused_part (Script c.in-TooLarge.line) _ ScriptRefused (g.S.Sink.written c.args.out.now) (g.S.Sink.written c.refuse_symbolic_named.new.out)
    c.refuse_symbolic_named.result c.refuse_symbolic_named.ensures.told))
