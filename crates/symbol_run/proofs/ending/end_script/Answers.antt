-- Nothing is written where no line is refused; else the line of the refusal, whole or a part of it.
use Rattle.std.proofs.Common.{None, sym, ap, ◌∙◌}
use Rattle.std.proofs.lemmas.Result.{IfOk-weaker}
use Rattle.std.specs.Io.KnownBytes.{append_known}
use Rattle.ports.proofs.SendingLemmas.{append_known-nil}
use Rattle.symbol_run.specs.Answers.{ending_of}
use Rattle.symbol_run.proofs.AnswerLemmas.{refused_ending, whole_ending, whole_silent}
use Rattle.script_meaning.specs.declared.halt.Halt.TheVariants as halt
use Rattle.symbol_run.proofs.ending.end_script.Goals as goal

pub returns-then-is_whole-clause-ok : goal.returns-then-is_whole-clause-ok
returns-then-is_whole-clause-ok g c =
    sym (append_known-nil c.args.out.now.page.written)
    ∙ ap (append_known c.args.out.now.page.written)
    (sym (whole_silent c.args.circuit.now c.args.halt c.args.stop (sym c.is_whole.ensures ∙ c.if-is_whole.true)))

pub returns-then-is_whole-clause-ends : goal.returns-then-is_whole-clause-ends
returns-then-is_whole-clause-ends g c =
    c.ending_with.ensures ∙ ap (ending_of halt.End None) c.missed.ensures
    ∙ whole_ending c.args.halt c.args.stop c.args.out.now.page.missed (sym c.is_whole.ensures ∙ c.if-is_whole.true)

pub returns-clause-ok : goal.returns-clause-ok
returns-clause-ok g c = c.refuse_halt.ensures.ok

pub returns-clause-part : goal.returns-clause-part
returns-clause-part g c = c.refuse_halt.ensures.part

pub returns-clause-ends : goal.returns-clause-ends
returns-clause-ends g c =
    IfOk-weaker c.refuse_halt.result _ _
    (λ ended is. is ∙ sym (refused_ending c.args.halt c.args.stop c.args.out.now.page.missed (sym c.is_whole.ensures ∙ c.if-is_whole.false))) c.refuse_halt.ensures.ends
